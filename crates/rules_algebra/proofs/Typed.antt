-- Renumbering keeps types, under either demand.
use Rattle.std.proofs.Common.{◌≡◌, ℕ, zero, suc, ◌+◌, ◌≤◌, List, [], ◌∷◌, length, drop, Option, Some, None, refl, sym, ap, ◌∙◌, subst, arith}
use Rattle.std.specs.Prelude.{slice_get, option_map}
use Rattle.lift_tree.specs.Tree.{Tree, Variable, Number, Input, Unary, Binary, Select, Let, Map, Fold}
use Rattle.lift_tree.specs.Renumbering.{up, down, shift, raise, put_variable, put, substitute}
use Rattle.lift_tree.specs.Types.{PlainTy, U32, ArrayOf}
use Rattle.lift_tree.specs.Typing.{Declared}
use Rattle.lift_tree.proofs.Copies.{Demand, TypesUnder}

-- the types that the shifted term sees at its variables are those of the term
pub Sees : ℕ → ℕ → List PlainTy → List PlainTy → Type 0
Sees more k us vs = (n : ℕ) → slice_get us (up more k n) ≡ slice_get vs n

sees_under : (more k : ℕ) (x : PlainTy) (us vs : List PlainTy) → Sees more k us vs → Sees more (suc k) (x ∷ us) (x ∷ vs)
unfolding Sees
sees_under more k x us vs h zero = refl
sees_under more k x us vs h (suc n) = h n

sees_one : (b : PlainTy) (g : List PlainTy) → Sees 1 0 (b ∷ g) g
unfolding Sees
sees_one b g n = let e : n + 1 ≡ suc n = omega arith in ap (slice_get (b ∷ g)) e

sees_second : (c b : PlainTy) (g : List PlainTy) → Sees 1 1 (c ∷ b ∷ g) (c ∷ g)
sees_second c b g = sees_under 1 0 c (b ∷ g) g (sees_one b g)

sees_drop : (k : ℕ) (g : List PlainTy) → Sees k 0 g (drop k g)
unfolding Sees
sees_drop zero g n = let e : n + 0 ≡ n = omega arith in ap (slice_get g) e
sees_drop (suc k) [] n = go (n + suc k)
  where
    go : (m : ℕ) → slice_get {X = PlainTy} [] m ≡ slice_get [] n
    go m = refl
sees_drop (suc k) (x ∷ g) n = let e : n + suc k ≡ suc (n + k) = omega arith in ap (slice_get (x ∷ g)) e ∙ sees_drop k g n

module _ (m : Demand) (d : Declared) where
  types-shift : (more k : ℕ) (us vs : List PlainTy) (t : Tree) (a : PlainTy) → Sees more k us vs → TypesUnder m d vs t a → TypesUnder m d us (shift more k t) a
  unfolding Sees
  types-shift more k us vs (Variable n) a s h = s n ∙ h
  types-shift more k us vs (Number n) a s h = h
  types-shift more k us vs (Input n) a s h = h
  types-shift more k us vs (Unary f t) a s h = (h.0, types-shift more k us vs t h.0 s h.1, h.2, h.3)
  types-shift more k us vs (Binary f t u) a s h = (h.0, h.1, types-shift more k us vs t h.0 s h.2, types-shift more k us vs u h.1 s h.3, h.4, h.5)
  types-shift more k us vs (Select t u v) a s h = (types-shift more k us vs t U32 s h.0, types-shift more k us vs u U32 s h.1, types-shift more k us vs v U32 s h.2, h.3)
  types-shift more k us vs (Let v b) a s h = (h.0, types-shift more k us vs v h.0 s h.1, types-shift more (suc k) (h.0 ∷ us) (h.0 ∷ vs) b a (sees_under more k h.0 us vs s) h.2)
  types-shift more k us vs (Map o xs b) a s h = (
    h.0,
    h.1,
    h.2,
    types-shift more k us vs xs (ArrayOf h.0 h.2) s h.3,
    types-shift more (suc k) (h.0 ∷ us) (h.0 ∷ vs) b h.1 (sees_under more k h.0 us vs s) h.4,
    h.5,
  )
  types-shift more k us vs (Fold o xs t b) a s h = (
    h.0,
    h.1,
    h.2,
    types-shift more k us vs xs (ArrayOf h.0 h.2) s h.3,
    types-shift more k us vs t h.1 s h.4,
    h.5,
    types-shift more (suc (suc k)) (h.0 ∷ h.1 ∷ us) (h.0 ∷ h.1 ∷ vs) b h.1 (sees_under more (suc k) h.0 (h.1 ∷ us) (h.1 ∷ vs) (sees_under more k h.1 us vs s)) h.6,
    h.7,
  )

  types-unshift : (more k : ℕ) (us vs : List PlainTy) (t : Tree) (a : PlainTy) → Sees more k us vs → TypesUnder m d us (shift more k t) a → TypesUnder m d vs t a
  unfolding Sees
  types-unshift more k us vs (Variable n) a s h = sym (s n) ∙ h
  types-unshift more k us vs (Number n) a s h = h
  types-unshift more k us vs (Input n) a s h = h
  types-unshift more k us vs (Unary f t) a s h = (h.0, types-unshift more k us vs t h.0 s h.1, h.2, h.3)
  types-unshift more k us vs (Binary f t u) a s h = (h.0, h.1, types-unshift more k us vs t h.0 s h.2, types-unshift more k us vs u h.1 s h.3, h.4, h.5)
  types-unshift more k us vs (Select t u v) a s h = (types-unshift more k us vs t U32 s h.0, types-unshift more k us vs u U32 s h.1, types-unshift more k us vs v U32 s h.2, h.3)
  types-unshift more k us vs (Let v b) a s h = (h.0, types-unshift more k us vs v h.0 s h.1, types-unshift more (suc k) (h.0 ∷ us) (h.0 ∷ vs) b a (sees_under more k h.0 us vs s) h.2)
  types-unshift more k us vs (Map o xs b) a s h = (
    h.0,
    h.1,
    h.2,
    types-unshift more k us vs xs (ArrayOf h.0 h.2) s h.3,
    types-unshift more (suc k) (h.0 ∷ us) (h.0 ∷ vs) b h.1 (sees_under more k h.0 us vs s) h.4,
    h.5,
  )
  types-unshift more k us vs (Fold o xs t b) a s h = (
    h.0,
    h.1,
    h.2,
    types-unshift more k us vs xs (ArrayOf h.0 h.2) s h.3,
    types-unshift more k us vs t h.1 s h.4,
    h.5,
    types-unshift more (suc (suc k)) (h.0 ∷ h.1 ∷ us) (h.0 ∷ h.1 ∷ vs) b h.1 (sees_under more (suc k) h.0 (h.1 ∷ us) (h.1 ∷ vs) (sees_under more k h.1 us vs s)) h.6,
    h.7,
  )

  -- under one binder more, the second nearest
  pub types-raise : (c b : PlainTy) (g : List PlainTy) (t : Tree) (a : PlainTy) → TypesUnder m d (c ∷ g) t a → TypesUnder m d (c ∷ b ∷ g) (raise 1 t) a
  types-raise c b g t a h = types-shift 1 1 (c ∷ b ∷ g) (c ∷ g) t a (sees_second c b g) h

  pub types-unraise : (c b : PlainTy) (g : List PlainTy) (t : Tree) (a : PlainTy) → TypesUnder m d (c ∷ b ∷ g) (raise 1 t) a → TypesUnder m d (c ∷ g) t a
  types-unraise c b g t a h = types-unshift 1 1 (c ∷ b ∷ g) (c ∷ g) t a (sees_second c b g) h

-- ---- a value in place of a binder
abbrev insert_type : ℕ → PlainTy → List PlainTy → List PlainTy
insert_type zero b g = b ∷ g
insert_type (suc k) b [] = []
insert_type (suc k) b (x ∷ g) = x ∷ insert_type k b g

abbrev found : PlainTy → List PlainTy → Option ℕ → Option PlainTy
found b g None = Some b
found b g (Some n) = slice_get g n

found_under : (b x : PlainTy) (g : List PlainTy) (o : Option ℕ) → found b (x ∷ g) (option_map suc o) ≡ found b g o
found_under b x g None = refl
found_under b x g (Some n) = refl

finds : (k : ℕ) (b : PlainTy) (g : List PlainTy) (n : ℕ) → k ≤ length g → slice_get (insert_type k b g) n ≡ found b g (down k n)
finds zero b g zero h = refl
finds zero b g (suc n) h = refl
finds (suc k) b [] n h = absurd (omega arith)
finds (suc k) b (x ∷ g) zero h = refl
finds (suc k) b (x ∷ g) (suc n) h = finds k b g n (omega arith) ∙ sym (found_under b x g (down k n))

module _ (m : Demand) (d : Declared) where
  types-put : (k : ℕ) (b : PlainTy) (g : List PlainTy) (s t : Tree) (a : PlainTy) → k ≤ length g → TypesUnder m d (drop k g) s b → TypesUnder m d (insert_type k b g) t a → TypesUnder m d g (put k s t) a
  types-put k b g s (Variable n) a l hs h = go (down k n) (sym (finds k b g n l) ∙ h)
    where
      go : (o : Option ℕ) → found b g o ≡ Some a → TypesUnder m d g (put_variable k s o) a
      go None e = let p : b ≡ a = cc in subst (TypesUnder m d g (shift k 0 s)) p (types-shift m d k 0 g (drop k g) s b (sees_drop k g) hs)
      go (Some j) e = e
  types-put k b g s (Number n) a l hs h = h
  types-put k b g s (Input n) a l hs h = h
  types-put k b g s (Unary f t) a l hs h = (h.0, types-put k b g s t h.0 l hs h.1, h.2, h.3)
  types-put k b g s (Binary f t u) a l hs h = (h.0, h.1, types-put k b g s t h.0 l hs h.2, types-put k b g s u h.1 l hs h.3, h.4, h.5)
  types-put k b g s (Select t u v) a l hs h = (types-put k b g s t U32 l hs h.0, types-put k b g s u U32 l hs h.1, types-put k b g s v U32 l hs h.2, h.3)
  types-put k b g s (Let v t) a l hs h = (h.0, types-put k b g s v h.0 l hs h.1, types-put (suc k) b (h.0 ∷ g) s t a (omega arith) hs h.2)
  types-put k b g s (Map o xs t) a l hs h = (h.0, h.1, h.2, types-put k b g s xs (ArrayOf h.0 h.2) l hs h.3, types-put (suc k) b (h.0 ∷ g) s t h.1 (omega arith) hs h.4, h.5)
  types-put k b g s (Fold o xs v t) a l hs h = (
    h.0,
    h.1,
    h.2,
    types-put k b g s xs (ArrayOf h.0 h.2) l hs h.3,
    types-put k b g s v h.1 l hs h.4,
    h.5,
    types-put (suc (suc k)) b (h.0 ∷ h.1 ∷ g) s t h.1 (omega arith) hs h.6,
    h.7,
  )

  pub types-substitute : (g : List PlainTy) (body value : Tree) (b a : PlainTy) → TypesUnder m d g value b → TypesUnder m d (b ∷ g) body a → TypesUnder m d g (substitute body value) a
  types-substitute g body value b a hv hb = types-put 0 b g value body a (omega arith) hv hb
