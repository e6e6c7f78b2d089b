-- What keeps type, copies and value at a place keeps the whole's.
use Rattle.std.proofs.Common.{◌≡◌, ℕ, zero, suc, List, [], ◌∷◌, Option, Some, None, refl, sym, ap, ◌∙◌, subst}
use Rattle.std.specs.Prelude.{map, option_map, option_and_then}
use Rattle.scalar_ops.specs.Operators.{choose}
use Rattle.lift_tree.specs.Tree.{Tree, Variable, Number, Input, Unary, Binary, Select, Let, Map, Fold}
use Rattle.lift_tree.specs.Values.{Value, array, members, word}
use Rattle.lift_tree.specs.Lists.{Every, fold_left}
use Rattle.lift_tree.specs.Meaning.{World, meaning, unary_value, binary_value}
use Rattle.lift_tree.specs.Places.{child_at, node_at, with_child, with_at}
use Rattle.lift_tree.specs.Types.{PlainTy, U32, ArrayOf, HasType, HaveTypes, IsFormed}
use Rattle.lift_tree.specs.Typing.{Declared, Types, IsDeclared, IsAdmissible}
use Rattle.lift_tree.specs.Annotations.{Annotation, Leaf, One, Two, Three, Annotates, type_in}
use Rattle.lift_tree.proofs.Annotated.{annotated_is_typed}
use Rattle.lift_tree.proofs.Copies.{Demand, Nothing, ArrayCopies, TypesUnder, Retypes, types_alone, types_freely, types_copying, copying, types_kept, copies_kept}
use Rattle.lift_tree.proofs.Formed.{formed}
use Rattle.lift_tree.proofs.Rows.{list_have}
use Rattle.lift_tree.proofs.Sound.{have_more, values_have_types}
use Rattle.lift_tree.proofs.Unique.{one_type}
use Rattle.rewriting.specs.Around.{Around, IsAround, element_of, child_types, child_binders, around_child, around_at}
use Rattle.rewriting.specs.Keeps.{Keeps}
use Rattle.rewriting.specs.Laws.{PlacesHaveContexts, RewritesKeepTheWhole, KeepingGoesOn}

-- ---- lists
map_on : (p : Value → Type 0) (f h : Value → Value) (xs : List Value) → ((x : Value) → p x → f x ≡ h x) → Every p xs → map f xs ≡ map h xs
map_on p f h [] e a = refl
map_on p f h (x ∷ xs) e a = let b = e x a.0 in let c = map_on p f h xs e a.1 in cc

fold_on : (p q : Value → Type 0) (f h : Value → Value → Value) (s : Value) (xs : List Value)
    → ((b x : Value) → q b → p x → f b x ≡ h b x) → ((b x : Value) → q b → p x → q (h b x)) → q s → Every p xs → fold_left f s xs ≡ fold_left h s xs
fold_on p q f h s [] e k b a = refl
fold_on p q f h s (x ∷ xs) e k b a = ap (λ z. fold_left f z xs) (e s x b a.0) ∙ fold_on p q f h (h s x) xs e k (k s x b a.0) a.1

-- ---- what stands around a child
-- the child has types, and its binders' types are formed
record HasChild (d : Declared) (g : List PlainTy) (n : Annotation) (t c : Tree) (i : ℕ) : Type 0 where
  m : Annotation
  there : child_types n i ≡ Some m
  binders : Every (IsFormed d.names) (child_binders t i n g)
  nodes : Annotates d (child_binders t i n g) c m

-- what is typed under the demand where t is
abbrev Turns : Demand → Declared → List PlainTy → Tree → Tree → Type 0
Turns m d g t u = (a : PlainTy) → TypesUnder m d g t a → TypesUnder m d g u a

module _ (d : Declared) (declared : IsDeclared d) where
  same_type : (m : Demand) (g : List PlainTy) (t : Tree) (a : PlainTy) (n : Annotation) → TypesUnder m d g t a → Annotates d g t n → a ≡ type_in n
  same_type m g t a n h k = one_type d g t a (type_in n) (types_alone m d g t a h) (annotated_is_typed d g t n k)

  type_formed : (g : List PlainTy) (t : Tree) (n : Annotation) → Every (IsFormed d.names) g → Annotates d g t n → IsFormed d.names (type_in n)
  type_formed g t n fg h = formed d declared.inputs g t (type_in n) fg (annotated_is_typed d g t n h)

  child : (g : List PlainTy) (n : Annotation) (t c : Tree) (i : ℕ) → Every (IsFormed d.names) g → Annotates d g t n → child_at t i ≡ Some c → HasChild d g n t c i
  child g (Leaf a) (Variable k) c i fg h e = absurd (cc)
  child g (Leaf a) (Number k) c i fg h e = absurd (cc)
  child g (Leaf a) (Input k) c i fg h e = absurd (cc)
  child g (One a n) (Unary f t) c zero fg h e = let p : t ≡ c = cc in record { m = n; there = refl; binders = fg; nodes = subst (λ z. Annotates d g z n) p h.0 }
  child g (One a n) (Unary f t) c (suc i) fg h e = absurd (cc)
  child g (Two a n m) (Binary f t u) c zero fg h e = let p : t ≡ c = cc in record { m = n; there = refl; binders = fg; nodes = subst (λ z. Annotates d g z n) p h.0 }
  child g (Two a n m) (Binary f t u) c (suc zero) fg h e = let p : u ≡ c = cc in record { m = m; there = refl; binders = fg; nodes = subst (λ z. Annotates d g z m) p h.1 }
  child g (Two a n m) (Binary f t u) c (suc (suc i)) fg h e = absurd (cc)
  child g (Three a n m k) (Select t u v) c zero fg h e = let p : t ≡ c = cc in record { m = n; there = refl; binders = fg; nodes = subst (λ z. Annotates d g z n) p h.0 }
  child g (Three a n m k) (Select t u v) c (suc zero) fg h e = let p : u ≡ c = cc in record { m = m; there = refl; binders = fg; nodes = subst (λ z. Annotates d g z m) p h.1 }
  child g (Three a n m k) (Select t u v) c (suc (suc zero)) fg h e = let p : v ≡ c = cc in record { m = k; there = refl; binders = fg; nodes = subst (λ z. Annotates d g z k) p h.2 }
  child g (Three a n m k) (Select t u v) c (suc (suc (suc i))) fg h e = absurd (cc)
  child g (Two a n m) (Let v b) c zero fg h e = let p : v ≡ c = cc in record { m = n; there = refl; binders = fg; nodes = subst (λ z. Annotates d g z n) p h.0 }
  child g (Two a n m) (Let v b) c (suc zero) fg h e =
      let p : b ≡ c = cc in
      record { m = m; there = refl; binders = (type_formed g v n fg h.0, fg); nodes = subst (λ z. Annotates d (type_in n ∷ g) z m) p h.1 }
  child g (Two a n m) (Let v b) c (suc (suc i)) fg h e = absurd (cc)
  child g (Two a n m) (Map o xs b) c zero fg h e = let p : xs ≡ c = cc in record { m = n; there = refl; binders = fg; nodes = subst (λ z. Annotates d g z n) p h.2 }
  child g (Two a n m) (Map o xs b) c (suc zero) fg h e =
      let p : b ≡ c = cc in
      let x : h.0 ≡ element_of (type_in n) = sym (ap element_of h.3) in
      let f : IsFormed d.names (ArrayOf h.0 h.1) = subst (IsFormed d.names) h.3 (type_formed g xs n fg h.2) in
      record {
        m = m;
        there = refl;
        binders = (subst (IsFormed d.names) x f.1, fg);
        nodes = subst (λ z. Annotates d (element_of (type_in n) ∷ g) z m) p (subst (λ z. Annotates d (z ∷ g) b m) x h.4);
      }
  child g (Two a n m) (Map o xs b) c (suc (suc i)) fg h e = absurd (cc)
  child g (Three a n m k) (Fold o xs s b) c zero fg h e = let p : xs ≡ c = cc in record { m = n; there = refl; binders = fg; nodes = subst (λ z. Annotates d g z n) p h.2 }
  child g (Three a n m k) (Fold o xs s b) c (suc zero) fg h e = let p : s ≡ c = cc in record { m = m; there = refl; binders = fg; nodes = subst (λ z. Annotates d g z m) p h.4 }
  child g (Three a n m k) (Fold o xs s b) c (suc (suc zero)) fg h e =
      let p : b ≡ c = cc in
      let x : h.0 ≡ element_of (type_in n) = sym (ap element_of h.3) in
      let f : IsFormed d.names (ArrayOf h.0 h.1) = subst (IsFormed d.names) h.3 (type_formed g xs n fg h.2) in
      record {
        m = k;
        there = refl;
        binders = (subst (IsFormed d.names) x f.1, (type_formed g s m fg h.4, fg));
        nodes = subst (λ z. Annotates d (element_of (type_in n) ∷ type_in m ∷ g) z k) p (subst (λ z. Annotates d (z ∷ type_in m ∷ g) b k) x h.6);
      }
  child g (Three a n m k) (Fold o xs s b) c (suc (suc (suc i))) fg h e = absurd (cc)
  child g _ _ c i fg h e = absurd h

  -- ---- a child rewritten: types, under either demand
  child_typed : (m : Demand) (g : List PlainTy) (n : Annotation) (t c s : Tree) (i : ℕ) → Annotates d g t n → child_at t i ≡ Some c → Turns m d (child_binders t i n g) c s → Turns m d g t (with_child t i s)
  child_typed m g (Leaf b) (Variable v) c s i k e q0 a h = absurd (cc)
  child_typed m g (Leaf b) (Number v) c s i k e q0 a h = absurd (cc)
  child_typed m g (Leaf b) (Input v) c s i k e q0 a h = absurd (cc)
  child_typed m g (One b n) (Unary f t) c s zero k e q0 a h =
      let p : c ≡ t = cc in
      let q = subst (λ z. Turns m d g z s) p q0 in
      (h.0, q h.0 h.1, h.2, h.3)
  child_typed m g (One b n) (Unary f t) c s (suc i) k e q0 a h = absurd (cc)
  child_typed m g (Two b n l) (Binary f t u) c s zero k e q0 a h =
      let p : c ≡ t = cc in
      let q = subst (λ z. Turns m d g z s) p q0 in
      (h.0, h.1, q h.0 h.2, h.3, h.4, h.5)
  child_typed m g (Two b n l) (Binary f t u) c s (suc zero) k e q0 a h =
      let p : c ≡ u = cc in
      let q = subst (λ z. Turns m d g z s) p q0 in
      (h.0, h.1, h.2, q h.1 h.3, h.4, h.5)
  child_typed m g (Two b n l) (Binary f t u) c s (suc (suc i)) k e q0 a h = absurd (cc)
  child_typed m g (Three b n l r) (Select t u v) c s zero k e q0 a h =
      let p : c ≡ t = cc in
      let q = subst (λ z. Turns m d g z s) p q0 in
      (q U32 h.0, h.1, h.2, h.3)
  child_typed m g (Three b n l r) (Select t u v) c s (suc zero) k e q0 a h =
      let p : c ≡ u = cc in
      let q = subst (λ z. Turns m d g z s) p q0 in
      (h.0, q U32 h.1, h.2, h.3)
  child_typed m g (Three b n l r) (Select t u v) c s (suc (suc zero)) k e q0 a h =
      let p : c ≡ v = cc in
      let q = subst (λ z. Turns m d g z s) p q0 in
      (h.0, h.1, q U32 h.2, h.3)
  child_typed m g (Three b n l r) (Select t u v) c s (suc (suc (suc i))) k e q0 a h = absurd (cc)
  child_typed m g (Two b n l) (Let v t) c s zero k e q0 a h =
      let p : c ≡ v = cc in
      let q = subst (λ z. Turns m d g z s) p q0 in
      (h.0, q h.0 h.1, h.2)
  child_typed m g (Two b n l) (Let v t) c s (suc zero) k e q0 a h =
      let p : c ≡ t = cc in
      let x = same_type m g v h.0 n h.1 k.0 in
      let q = subst (λ z. Turns m d (z ∷ g) t s) (sym x) (subst (λ z. Turns m d (type_in n ∷ g) z s) p q0) in
      (h.0, h.1, q a h.2)
  child_typed m g (Two b n l) (Let v t) c s (suc (suc i)) k e q0 a h = absurd (cc)
  child_typed m g (Two b n l) (Map o xs t) c s zero k e q0 a h =
      let p : c ≡ xs = cc in
      let q = subst (λ z. Turns m d g z s) p q0 in
      (h.0, h.1, h.2, q (ArrayOf h.0 h.2) h.3, h.4, h.5)
  child_typed m g (Two b n l) (Map o xs t) c s (suc zero) k e q0 a h =
      let p : c ≡ t = cc in
      let x = ap element_of (same_type m g xs (ArrayOf h.0 h.2) n h.3 k.2) in
      let q = subst (λ z. Turns m d (z ∷ g) t s) (sym x) (subst (λ z. Turns m d (element_of (type_in n) ∷ g) z s) p q0) in
      (h.0, h.1, h.2, h.3, q h.1 h.4, h.5)
  child_typed m g (Two b n l) (Map o xs t) c s (suc (suc i)) k e q0 a h = absurd (cc)
  child_typed m g (Three b n l r) (Fold o xs u t) c s zero k e q0 a h =
      let p : c ≡ xs = cc in
      let q = subst (λ z. Turns m d g z s) p q0 in
      (h.0, h.1, h.2, q (ArrayOf h.0 h.2) h.3, h.4, h.5, h.6, h.7)
  child_typed m g (Three b n l r) (Fold o xs u t) c s (suc zero) k e q0 a h =
      let p : c ≡ u = cc in
      let q = subst (λ z. Turns m d g z s) p q0 in
      (h.0, h.1, h.2, h.3, q h.1 h.4, h.5, h.6, h.7)
  child_typed m g (Three b n l r) (Fold o xs u t) c s (suc (suc zero)) k e q0 a h =
      let p : c ≡ t = cc in
      let x = ap element_of (same_type m g xs (ArrayOf h.0 h.2) n h.3 k.2) in
      let y = same_type m g u h.1 l h.4 k.4 in
      let at_types = subst (λ z. Turns m d (element_of (type_in n) ∷ type_in l ∷ g) z s) p q0 in
      let q = subst (λ z. Turns m d (z ∷ h.1 ∷ g) t s) (sym x) (subst (λ z. Turns m d (element_of (type_in n) ∷ z ∷ g) t s) (sym y) at_types) in
      (h.0, h.1, h.2, h.3, h.4, h.5, q h.1 h.6, h.7)
  child_typed m g (Three b n l r) (Fold o xs u t) c s (suc (suc (suc i))) k e q0 a h = absurd (cc)
  child_typed m g _ _ c s i k e q0 a h = absurd k

  -- ---- a child rewritten: values
  child_value : (g : List PlainTy) (n : Annotation) (t c s : Tree) (i : ℕ) → Every (IsFormed d.names) g → Annotates d g t n → child_at t i ≡ Some c
      → Keeps d (child_binders t i n g) c s
      → (w : World) (vs : List Value) → IsAdmissible d w → HaveTypes w.bases g vs → meaning w vs (with_child t i s) ≡ meaning w vs t
  child_value g (Leaf a) (Variable k) c s i fg h e q = absurd (cc)
  child_value g (Leaf a) (Number k) c s i fg h e q = absurd (cc)
  child_value g (Leaf a) (Input k) c s i fg h e q = absurd (cc)
  child_value g (One a n) (Unary f t) c s zero fg h e q0 =
      let p : c ≡ t = cc in
      let q = subst (λ z. Keeps d g z s) p q0 in
      λ w vs ok all. ap (unary_value w f) (q.value w vs ok all)
  child_value g (One a n) (Unary f t) c s (suc i) fg h e q = absurd (cc)
  child_value g (Two a n m) (Binary f t u) c s zero fg h e q0 =
      let p : c ≡ t = cc in
      let q = subst (λ z. Keeps d g z s) p q0 in
      λ w vs ok all. ap (λ z. binary_value f z (meaning w vs u)) (q.value w vs ok all)
  child_value g (Two a n m) (Binary f t u) c s (suc zero) fg h e q0 =
      let p : c ≡ u = cc in
      let q = subst (λ z. Keeps d g z s) p q0 in
      λ w vs ok all. ap (binary_value f (meaning w vs t)) (q.value w vs ok all)
  child_value g (Two a n m) (Binary f t u) c s (suc (suc i)) fg h e q = absurd (cc)
  child_value g (Three a n m k) (Select t u v) c s zero fg h e q0 =
      let p : c ≡ t = cc in
      let q = subst (λ z. Keeps d g z s) p q0 in
      λ w vs ok all. ap (λ z. choose (word z) (meaning w vs u) (meaning w vs v)) (q.value w vs ok all)
  child_value g (Three a n m k) (Select t u v) c s (suc zero) fg h e q0 =
      let p : c ≡ u = cc in
      let q = subst (λ z. Keeps d g z s) p q0 in
      λ w vs ok all. ap (λ z. choose (word (meaning w vs t)) z (meaning w vs v)) (q.value w vs ok all)
  child_value g (Three a n m k) (Select t u v) c s (suc (suc zero)) fg h e q0 =
      let p : c ≡ v = cc in
      let q = subst (λ z. Keeps d g z s) p q0 in
      λ w vs ok all. ap (λ z. choose (word (meaning w vs t)) (meaning w vs u) z) (q.value w vs ok all)
  child_value g (Three a n m k) (Select t u v) c s (suc (suc (suc i))) fg h e q = absurd (cc)
  child_value g (Two a n m) (Let v b) c s zero fg h e q0 =
      let p : c ≡ v = cc in
      let q = subst (λ z. Keeps d g z s) p q0 in
      λ w vs ok all. ap (λ z. meaning w (z ∷ vs) b) (q.value w vs ok all)
  child_value g (Two a n m) (Let v b) c s (suc zero) fg h e q0 =
      let p : c ≡ b = cc in
      let q = subst (λ z. Keeps d (type_in n ∷ g) z s) p q0 in
      let vt = annotated_is_typed d g v n h.0 in
      λ w vs ok all. q.value w (meaning w vs v ∷ vs) ok (have_more w.bases (type_in n) (meaning w vs v) g vs (values_have_types d w g vs v (type_in n) declared ok fg all vt) all)
  child_value g (Two a n m) (Let v b) c s (suc (suc i)) fg h e q = absurd (cc)
  child_value g (Two a n m) (Map o xs b) c s zero fg h e q0 =
      let p : c ≡ xs = cc in
      let q = subst (λ z. Keeps d g z s) p q0 in
      λ w vs ok all. ap (λ z. array (map (λ x. meaning w (x ∷ vs) b) (members z))) (q.value w vs ok all)
  child_value g (Two a n m) (Map o xs b) c s (suc zero) fg h e q0 =
      let p : c ≡ b = cc in
      let x : element_of (type_in n) ≡ h.0 = ap element_of h.3 in
      let q = subst (λ z. Keeps d (z ∷ g) b s) x (subst (λ z. Keeps d (element_of (type_in n) ∷ g) z s) p q0) in
      let xt = subst (Types d g xs) h.3 (annotated_is_typed d g xs n h.2) in
      λ w vs ok all.
      ap array
      (map_on (HasType w.bases h.0) _ _ (members (meaning w vs xs)) (λ u r. q.value w (u ∷ vs) ok (have_more w.bases h.0 u g vs r all))
      (list_have w.bases h.0 h.1 (meaning w vs xs) (values_have_types d w g vs xs (ArrayOf h.0 h.1) declared ok fg all xt)).1)
  child_value g (Two a n m) (Map o xs b) c s (suc (suc i)) fg h e q = absurd (cc)
  child_value g (Three a n m k) (Fold o xs t b) c s zero fg h e q0 =
      let p : c ≡ xs = cc in
      let q = subst (λ z. Keeps d g z s) p q0 in
      λ w vs ok all. ap (λ z. array (fold_left (λ y x. meaning w (x ∷ y ∷ vs) b) (meaning w vs t) (members z) ∷ [])) (q.value w vs ok all)
  child_value g (Three a n m k) (Fold o xs t b) c s (suc zero) fg h e q0 =
      let p : c ≡ t = cc in
      let q = subst (λ z. Keeps d g z s) p q0 in
      λ w vs ok all. ap (λ z. array (fold_left (λ y x. meaning w (x ∷ y ∷ vs) b) z (members (meaning w vs xs)) ∷ [])) (q.value w vs ok all)
  child_value g (Three a n m k) (Fold o xs t b) c s (suc (suc zero)) fg h e q0 =
      let p : c ≡ b = cc in
      let x : element_of (type_in n) ≡ h.0 = ap element_of h.3 in
      let y = type_in m in
      let q = subst (λ z. Keeps d (z ∷ y ∷ g) b s) x (subst (λ z. Keeps d (element_of (type_in n) ∷ y ∷ g) z s) p q0) in
      let xt = subst (Types d g xs) h.3 (annotated_is_typed d g xs n h.2) in
      let bt = subst (Types d (h.0 ∷ y ∷ g) b) h.7 (annotated_is_typed d (h.0 ∷ y ∷ g) b k h.6) in
      let ft = type_formed g t m fg h.4 in
      let fx : IsFormed d.names (ArrayOf h.0 h.1) = subst (IsFormed d.names) h.3 (type_formed g xs n fg h.2) in
      λ w vs ok all.
      let more : (u r : Value) → HasType w.bases y u → HasType w.bases h.0 r → HaveTypes w.bases (h.0 ∷ y ∷ g) (r ∷ u ∷ vs) = λ u r hu hr. have_more w.bases h.0 r (y ∷ g) (u ∷ vs) hr (have_more w.bases y u g vs hu all) in
      ap (λ z. array (z ∷ []))
      (fold_on (HasType w.bases h.0) (HasType w.bases y) _ _ (meaning w vs t) (members (meaning w vs xs))
      (λ u r hu hr. q.value w (r ∷ u ∷ vs) ok (more u r hu hr))
      (λ u r hu hr. values_have_types d w (h.0 ∷ y ∷ g) (r ∷ u ∷ vs) b y declared ok (fx.1, (ft, fg)) (more u r hu hr) bt)
      (values_have_types d w g vs t y declared ok fg all (annotated_is_typed d g t m h.4))
      (list_have w.bases h.0 h.1 (meaning w vs xs) (values_have_types d w g vs xs (ArrayOf h.0 h.1) declared ok fg all xt)).1)
  child_value g (Three a n m k) (Fold o xs t b) c s (suc (suc (suc i))) fg h e q = absurd (cc)
  child_value g _ _ c s i fg h e q = absurd h

  -- ---- a child rewritten
  -- what keeps types and copies does so under either demand
  turns : (g : List PlainTy) (c s : Tree) → Keeps d g c s → (m : Demand) → Turns m d g c s
  turns g c s k Nothing b h = types_freely d g s b (k.typed b (types_alone Nothing d g c b h))
  turns g c s k ArrayCopies b h =
      let x = k.copies (copying d g c b h) in
      let e = one_type d g s (type_in x.types) b (annotated_is_typed d g s x.types x.nodes) (k.typed b (types_alone ArrayCopies d g c b h)) in
      subst (TypesUnder ArrayCopies d g s) e (types_copying d g s x.types x.nodes x.arrays)

  keeps_child : (g : List PlainTy) (n : Annotation) (t c s : Tree) (i : ℕ) → Every (IsFormed d.names) g → Annotates d g t n → child_at t i ≡ Some c
      → Keeps d (child_binders t i n g) c s → Keeps d g t (with_child t i s)
  keeps_child g n t c s i fg h e k =
      let r : Retypes d g t (with_child t i s) = record { under = λ m. child_typed m g n t c s i h e (turns (child_binders t i n g) c s k m) } in
      record { typed = types_kept d g t (with_child t i s) r; copies = copies_kept d g t (with_child t i s) r; value = child_value g n t c s i fg h e k }

-- ---- places
some_of : {A : Type 0} (a b : A) → Some a ≡ Some b → a ≡ b
some_of a b e = cc

mapped : {A B : Type 0} (f : A → B) (o : Option A) (u : B) → option_map f o ≡ Some u → (v : A) × (o ≡ Some v) × (f v ≡ u)
mapped f None u e = absurd (cc)
mapped f (Some v) u e = (v, refl, some_of (f v) u e)

then_some : {A B : Type 0} (f : A → Option B) (o : Option A) (u : B) → option_and_then f o ≡ Some u → (v : A) × (o ≡ Some v) × (f v ≡ Some u)
then_some f None u e = absurd (cc)
then_some f (Some v) u e = (v, refl, e)

-- a child, and what stands around it
record AroundChild (d : Declared) (a : Around) (t c : Tree) (i : ℕ) : Type 0 where
  b : Around
  there : around_child a t i ≡ Some b
  binders : b.binders ≡ child_binders t i a.types a.binders
  around : IsAround d b c

around_the_child : (d : Declared) (a : Around) (t c : Tree) (i : ℕ) → IsAround d a t → child_at t i ≡ Some c → AroundChild d a t c i
around_the_child d a t c i h e =
    let r = child d h.declared a.binders a.types t c i h.binders h.nodes e in
    let next = λ (n : Annotation). let b : Around = record { names = a.names; binders = child_binders t i a.types a.binders; types = n } in b in
    record {
      b = next r.m;
      there = ap (option_map next) r.there;
      binders = refl;
      around = record { declared = h.declared; names = h.names; binders = r.binders; nodes = r.nodes };
    }

pub places_have_contexts : PlacesHaveContexts
places_have_contexts d a t r [] h e = (a, refl, subst (IsAround d a) (some_of t r e) h)
places_have_contexts d a t r (i ∷ is) h e =
    let below = then_some (λ c. node_at c is) (child_at t i) r e in
    let next = around_the_child d a t below.0 i h below.1 in
    let rest = places_have_contexts d next.b below.0 r is next.around below.2 in (
      rest.0,
      ap (option_and_then (λ c. option_and_then (λ b. around_at b c is) (around_child a t i))) below.1
          ∙ ap (option_and_then (λ b. around_at b below.0 is)) next.there
          ∙ rest.1,
      rest.2,
    )

pub rewrites_keep_the_whole : RewritesKeepTheWhole
rewrites_keep_the_whole d a b t r s u [] h here around put k =
    let p = some_of t r here in
    let q = some_of a b around in
    let v = some_of s u put in
    subst (Keeps d a.binders t) v (subst (λ z. Keeps d a.binders z s) (sym p) (subst (λ (z : Around). Keeps d z.binders r s) (sym q) k))
rewrites_keep_the_whole d a b t r s u (i ∷ is) h here around put k =
    let below = then_some (λ c. node_at c is) (child_at t i) r here in
    let next = around_the_child d a t below.0 i h below.1 in
    let there : around_at next.b below.0 is ≡ Some b =
    sym (ap (option_and_then (λ b. around_at b below.0 is)) next.there)
    ∙ sym (ap (option_and_then (λ c. option_and_then (λ b. around_at b c is) (around_child a t i))) below.1)
    ∙ around in
    let with = then_some (λ c. option_map (with_child t i) (with_at c is s)) (child_at t i) u put in
    let same : with.0 ≡ below.0 = some_of with.0 below.0 (sym with.1 ∙ below.1) in
    let part = mapped (with_child t i) (with_at below.0 is s) u (subst (λ c. option_map (with_child t i) (with_at c is s) ≡ Some u) same with.2) in
    let inner = rewrites_keep_the_whole d next.b b below.0 r s part.0 is next.around below.2 there part.1 k in
    subst (Keeps d a.binders t) part.2
    (keeps_child d h.declared a.binders a.types t below.0 part.0 i h.binders h.nodes below.1 (subst (λ g. Keeps d g below.0 part.0) next.binders inner))

pub keeping_goes_on : KeepingGoesOn
keeping_goes_on d g t u v first second = record {
  typed = λ a h. second.typed a (first.typed a h);
  copies = λ h. second.copies (first.copies h);
  value = λ w vs ok all. second.value w vs ok all ∙ first.value w vs ok all;
}
