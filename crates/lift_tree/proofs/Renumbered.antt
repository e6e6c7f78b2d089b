-- Renumbering keeps the value.
use Rattle.std.proofs.Common.{◌≡◌, ℕ, zero, suc, List, [], ◌∷◌, refl, sym, ap, ◌∙◌, drop, Option, Some, None, arith, ◌+◌}
use Rattle.std.specs.Prelude.{map, option_map}
use Rattle.lift_tree.specs.Tree.{Tree, Variable, Number, Input, Unary, Binary, Select, Let, Map, Fold}
use Rattle.lift_tree.specs.Renumbering.{up, down, shift, raise, put_variable, put, substitute}
use Rattle.lift_tree.specs.Values.{Value, Word, nth, array, members}
use Rattle.lift_tree.specs.Lists.{fold_left}
use Rattle.lift_tree.specs.Meaning.{World, unary_value, meaning, insert, SameWithOneMore, SameWithValue}

-- maps, folds and lets whose parts mean the same
pub same_map : (f g : Value → Value) (u v : Value) → ((x : Value) → f x ≡ g x) → u ≡ v → array (map f (members u)) ≡ array (map g (members v))
same_map f g u v h e = ap (λ z. array (map f (members z))) e ∙ ap (λ (k : Value → Value). array (map k (members v))) (λ i x. h x i)

pub same_fold : (f g : Value → Value → Value) (a b u v : Value) → ((y x : Value) → f y x ≡ g y x) → a ≡ b → u ≡ v → array (fold_left f a (members u) ∷ []) ≡ array (fold_left g b (members v) ∷ [])
same_fold f g a b u v h d e =
    ap (λ z. array (fold_left f a (members z) ∷ [])) e
    ∙ ap (λ z. array (fold_left f z (members v) ∷ [])) d
    ∙ ap (λ (k : Value → Value → Value). array (fold_left k b (members v) ∷ [])) (λ i y x. h y x i)

pub same_let : (f g : Value → Value) (u v : Value) → ((x : Value) → f x ≡ g x) → u ≡ v → f u ≡ g v
same_let f g u v h e = ap f e ∙ h v

-- ---- more binders
-- the values that the shifted term sees at its variables are those of the term
Sees : ℕ → ℕ → List Value → List Value → Type 0
Sees more k us vs = (n : ℕ) → nth us (up more k n) ≡ nth vs n

sees_under : (more k : ℕ) (x : Value) (us vs : List Value) → Sees more k us vs → Sees more (suc k) (x ∷ us) (x ∷ vs)
unfolding Sees
sees_under more k x us vs h zero = refl
sees_under more k x us vs h (suc n) = h n

meaning-shift : (w : World) (more k : ℕ) (us vs : List Value) (t : Tree) → Sees more k us vs → meaning w us (shift more k t) ≡ meaning w vs t
unfolding Sees
meaning-shift w more k us vs (Variable n) h = h n
meaning-shift w more k us vs (Number n) h = refl
meaning-shift w more k us vs (Input n) h = refl
meaning-shift w more k us vs (Unary f t) h = ap (unary_value w f) (meaning-shift w more k us vs t h)
meaning-shift w more k us vs (Binary f t u) h = let p = meaning-shift w more k us vs t h in let q = meaning-shift w more k us vs u h in cc
meaning-shift w more k us vs (Select t u x) h =
    let p = meaning-shift w more k us vs t h in
    let q = meaning-shift w more k us vs u h in
    let r = meaning-shift w more k us vs x h in
    cc
meaning-shift w more k us vs (Let x b) h = same_let _ _ _ _ (λ y. meaning-shift w more (suc k) (y ∷ us) (y ∷ vs) b (sees_under more k y us vs h)) (meaning-shift w more k us vs x h)
meaning-shift w more k us vs (Map o xs b) h = same_map _ _ _ _ (λ y. meaning-shift w more (suc k) (y ∷ us) (y ∷ vs) b (sees_under more k y us vs h)) (meaning-shift w more k us vs xs h)
meaning-shift w more k us vs (Fold o xs s b) h =
    same_fold _ _ _ _ _ _
    (λ a y. meaning-shift w more (suc (suc k)) (y ∷ a ∷ us) (y ∷ a ∷ vs) b (sees_under more (suc k) y (a ∷ us) (a ∷ vs) (sees_under more k a us vs h)))
    (meaning-shift w more k us vs s h)
    (meaning-shift w more k us vs xs h)

nth-insert : (k : ℕ) (v : Value) (vs : List Value) (n : ℕ) → nth (insert k v vs) (up 1 k n) ≡ nth vs n
nth-insert zero v vs n = let e : n + 1 ≡ suc n = omega arith in ap (nth (v ∷ vs)) e
nth-insert (suc k) v [] zero = refl
nth-insert (suc k) v [] (suc n) = nth-insert k v [] n
nth-insert (suc k) v (x ∷ vs) zero = refl
nth-insert (suc k) v (x ∷ vs) (suc n) = nth-insert k v vs n

pub meaning-raise : (k : ℕ) (t : Tree) → SameWithOneMore k t (raise k t)
unfolding Sees
meaning-raise k t w v vs = meaning-shift w 1 k (insert k v vs) vs t (nth-insert k v vs)

-- what the call gives has the same value with one more binder
pub raised_same : (k : ℕ) (t u : Tree) → u ≡ raise k t → SameWithOneMore k t u
raised_same k t u e w v vs = ap (meaning w (insert k v vs)) e ∙ meaning-raise k t w v vs

pub lowered_same : (k : ℕ) (t u : Tree) → raise k u ≡ t → SameWithOneMore k u t
lowered_same k t u e w v vs = ap (meaning w (insert k v vs)) (sym e) ∙ meaning-raise k u w v vs

-- ---- a value in place of a binder
abbrev found : Value → List Value → Option ℕ → Value
found v us None = v
found v us (Some n) = nth us n

-- the values of the body's variables, where the value v stands for the binder k
Finds : ℕ → Value → List Value → List Value → Type 0
Finds k v us vs = (n : ℕ) → nth vs n ≡ found v us (down k n)

found_under : (v x : Value) (us : List Value) (o : Option ℕ) → found v us o ≡ found v (x ∷ us) (option_map suc o)
found_under v x us None = refl
found_under v x us (Some n) = refl

finds_under : (k : ℕ) (v x : Value) (us vs : List Value) → Finds k v us vs → Finds (suc k) v (x ∷ us) (x ∷ vs)
unfolding Finds
finds_under k v x us vs h zero = refl
finds_under k v x us vs h (suc n) = h n ∙ found_under v x us (down k n)

sees_drop : (k : ℕ) (us : List Value) (n : ℕ) → nth us (n + k) ≡ nth (drop k us) n
sees_drop zero us n = let e : n + 0 ≡ n = omega arith in ap (nth us) e
sees_drop (suc k) [] n = go (n + suc k)
  where
    go : (n : ℕ) → nth [] n ≡ Word 0
    go n = refl
sees_drop (suc k) (x ∷ us) n = let e : n + suc k ≡ suc (n + k) = omega arith in ap (nth (x ∷ us)) e ∙ sees_drop k us n

meaning-put : (w : World) (k : ℕ) (s : Tree) (us vs : List Value) (t : Tree) → Finds k (meaning w (drop k us) s) us vs → meaning w us (put k s t) ≡ meaning w vs t
unfolding Finds Sees
meaning-put w k s us vs (Variable n) h = go (down k n) (h n)
  where
    go : (o : Option ℕ) → nth vs n ≡ found (meaning w (drop k us) s) us o → meaning w us (put_variable k s o) ≡ nth vs n
    go None e = meaning-shift w k 0 us (drop k us) s (sees_drop k us) ∙ sym e
    go (Some m) e = sym e
meaning-put w k s us vs (Number n) h = refl
meaning-put w k s us vs (Input n) h = refl
meaning-put w k s us vs (Unary f t) h = ap (unary_value w f) (meaning-put w k s us vs t h)
meaning-put w k s us vs (Binary f t u) h = let p = meaning-put w k s us vs t h in let q = meaning-put w k s us vs u h in cc
meaning-put w k s us vs (Select t u x) h =
    let p = meaning-put w k s us vs t h in
    let q = meaning-put w k s us vs u h in
    let r = meaning-put w k s us vs x h in
    cc
meaning-put w k s us vs (Let x b) h =
    same_let _ _ _ _
    (λ y. meaning-put w (suc k) s (y ∷ us) (y ∷ vs) b (finds_under k (meaning w (drop k us) s) y us vs h))
    (meaning-put w k s us vs x h)
meaning-put w k s us vs (Map o xs b) h =
    same_map _ _ _ _
    (λ y. meaning-put w (suc k) s (y ∷ us) (y ∷ vs) b (finds_under k (meaning w (drop k us) s) y us vs h))
    (meaning-put w k s us vs xs h)
meaning-put w k s us vs (Fold o xs t b) h =
    same_fold _ _ _ _ _ _
    (λ a y. meaning-put w (suc (suc k)) s (y ∷ a ∷ us) (y ∷ a ∷ vs) b (finds_under (suc k) (meaning w (drop k us) s) y (a ∷ us) (a ∷ vs) (finds_under k (meaning w (drop k us) s) a us vs h)))
    (meaning-put w k s us vs t h)
    (meaning-put w k s us vs xs h)

pub meaning-substitute : (body value : Tree) → SameWithValue body value (substitute body value)
unfolding Finds
meaning-substitute body value w vs = meaning-put w 0 value vs (meaning w vs value ∷ vs) body go
  where
    go : (n : ℕ) → nth (meaning w vs value ∷ vs) n ≡ found (meaning w (drop 0 vs) value) vs (down 0 n)
    go zero = refl
    go (suc n) = refl

pub substituted_same : (body value t : Tree) → t ≡ substitute body value → SameWithValue body value t
substituted_same body value t e w vs = ap (meaning w vs) e ∙ meaning-substitute body value w vs
