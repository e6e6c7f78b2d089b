-- A lowered term's value by position is the source value on nested lists.
use Rattle.std.proofs.Common.{Bool, ◌≡◌, ℕ, zero, suc, ◌+◌, ◌<◌, true, false, List, [], ◌∷◌, length, get_or, refl, sym, ap, ◌∙◌, subst, ⊎_elim, arith}
use Rattle.std.proofs.lemmas.List.{get_or-map}
use Rattle.std.specs.Prelude.{map}
use Rattle.scalar_ops.specs.Operators.{apply_op, choose}
use Rattle.lift_tree.specs.Tree as tree
use Rattle.lift_tree.specs.Tree.{Tree}
use Rattle.lift_tree.specs.Values.{Value, Word, Nil, More, members, array, word, first, second, nth}
use Rattle.lift_tree.specs.Values as value
use Rattle.lift_tree.specs.Lists.{fold_left, zip_with}
use Rattle.lift_tree.specs.Meaning.{World, meaning, on_lanes}
use Rattle.lift_tree.proofs.Members.{members-array, length-map}
use Rattle.lift_ir.specs.Types.{Ty, Scalar, PairOf, ArrayOf, four}
use Rattle.lift_ir.specs.Scalars.{Scalars, in_lane, at_index, by_side, folded, scalars_of, HasScalars}
use Rattle.lift_ir.specs.Terms.{LocalMemory, PrivateMemory, push, lane_type, SomeVector, Term, Literal, Bound, Source, Apply, ApplyNumber, ApplyLanes, DivideLanes, Select, Both, Project, Reshape, LetArray, LetElement, Map, Fold, Store, Copy, HasType}
use Rattle.lift_ir.specs.Sources.{Lowers}
use Rattle.lift_ir.proofs.Nested.{members_of, is_as}
use Rattle.lift_ir.proofs.Positions.{laid_is}

-- ---- lane by lane
module _ (f : ℕ → ℕ → ℕ) where
  abbrev In : Value → Value → Value
  In a b = Word (f (word a) (word b))

  zips_at : (xs ys : List Value) (i : ℕ) → i < length xs → i < length ys → get_or (zip_with In xs ys) i (Word 0) ≡ In (get_or xs i (Word 0)) (get_or ys i (Word 0))
  zips_at [] ys i p q = absurd (omega arith)
  zips_at (x ∷ xs) [] i p q = absurd (omega arith)
  zips_at (x ∷ xs) (y ∷ ys) zero p q = refl
  zips_at (x ∷ xs) (y ∷ ys) (suc i) p q = zips_at xs ys i (omega arith) (omega arith)

  zips_long : (xs ys : List Value) → length xs ≡ length ys → length (zip_with In xs ys) ≡ length xs
  zips_long [] ys e = refl
  zips_long (x ∷ xs) [] e = absurd (omega arith)
  zips_long (x ∷ xs) (y ∷ ys) e = ap suc (zips_long xs ys (omega arith))

  both_lists : (x y : Value) (xs ys : List Value) → on_lanes f (array (x ∷ xs)) (array (y ∷ ys)) ≡ array (zip_with In (x ∷ xs) (y ∷ ys))
  both_lists x y xs ys = ap (λ l. array (In x y ∷ l)) (ap (λ l. zip_with In l (members (array ys))) (members-array xs) ∙ ap (zip_with In xs) (members-array ys))

  left_list : (x : Value) (n : ℕ) (xs : List Value) → on_lanes f (array (x ∷ xs)) (Word n) ≡ array (map (λ a. In a (Word n)) (x ∷ xs))
  left_list x n xs = ap (λ l. array (In x (Word n) ∷ map (λ a. In a (Word n)) l)) (members-array xs)

  right_list : (n : ℕ) (y : Value) (ys : List Value) → on_lanes f (Word n) (array (y ∷ ys)) ≡ array (map (λ b. In (Word n) b) (y ∷ ys))
  right_list n y ys = ap (λ l. array (In (Word n) y ∷ map (λ b. In (Word n) b) l)) (members-array ys)

  both_long : (xs ys : List Value) → length xs ≡ 4 → length ys ≡ 4 → on_lanes f (array xs) (array ys) ≡ array (zip_with In xs ys)
  both_long [] ys k l = absurd (omega arith)
  both_long (x ∷ xs) [] k l = absurd (omega arith)
  both_long (x ∷ xs) (y ∷ ys) k l = both_lists x y xs ys

  left_long : (xs : List Value) (n : ℕ) → length xs ≡ 4 → on_lanes f (array xs) (Word n) ≡ array (map (λ a. In a (Word n)) xs)
  left_long [] n k = absurd (omega arith)
  left_long (x ∷ xs) n k = left_list x n xs

  right_long : (ys : List Value) (n : ℕ) → length ys ≡ 4 → on_lanes f (Word n) (array ys) ≡ array (map (λ b. In (Word n) b) ys)
  right_long [] n k = absurd (omega arith)
  right_long (y ∷ ys) n k = right_list n y ys

  -- an operator on a vector and a vector, or a number that stands for one
  lanes_are : (l r : Bool) (v u : Value) (s t : Scalars) → SomeVector l r → HasScalars (lane_type l) v s → HasScalars (lane_type r) u t
      → HasScalars four (on_lanes f v u) (λ cs p. f (s [] (in_lane l p)) (t [] (in_lane r p)))
  lanes_are false false v u s t some h k = absurd some
  lanes_are true true v u s t some h k = (
    zip_with In h.0 k.0,
    ap (λ z. on_lanes f z u) h.1 ∙ ap (on_lanes f (array h.0)) k.1 ∙ both_long h.0 k.0 h.2 k.2,
    zips_long h.0 k.0 (h.2 ∙ sym k.2) ∙ h.2,
    λ i lt. zips_at h.0 k.0 i (let z = h.2 in omega arith) (let z = k.2 in omega arith) ∙ ap (λ z. In z (get_or k.0 i (Word 0))) (h.3 i lt) ∙ ap (λ z. In (Word (s [] (i ∷ []))) z) (k.3 i lt),
  )
  lanes_are true false v u s t some h k = (
    map (λ a. In a (Word (t [] []))) h.0,
    ap (λ z. on_lanes f z u) h.1 ∙ ap (on_lanes f (array h.0)) k ∙ left_long h.0 (t [] []) h.2,
    length-map (λ a. In a (Word (t [] []))) h.0 ∙ h.2,
    λ i lt. get_or-map (λ a. In a (Word (t [] []))) h.0 i (Word 0) (Word 0) (let z = h.2 in omega arith) ∙ ap (λ z. In z (Word (t [] []))) (h.3 i lt),
  )
  lanes_are false true v u s t some h k = (
    map (λ b. In (Word (s [] [])) b) k.0,
    ap (λ z. on_lanes f z u) h ∙ ap (on_lanes f (Word (s [] []))) k.1 ∙ right_long k.0 (s [] []) k.2,
    length-map (λ b. In (Word (s [] [])) b) k.0 ∙ k.2,
    λ i lt. get_or-map (λ b. In (Word (s [] [])) b) k.0 i (Word 0) (Word 0) (let z = k.2 in omega arith) ∙ ap (λ z. In (Word (s [] [])) z) (k.3 i lt),
  )

module _ {A : Type 0} (num : A → ℕ) (w : World) where
  is_value : (vs : List Value) (x y : Tree) (t : Ty) (s : Scalars) → x ≡ y → HasScalars t (meaning w vs y) s → HasScalars t (meaning w vs x) s
  is_value vs x y t s e h = subst (λ z. HasScalars t (meaning w vs z) s) (sym e) h

  choose_is : (t : Ty) (n : ℕ) (x y : Value) (r s : Scalars) → x ≡ Word (r [] []) → y ≡ Word (s [] []) → choose n x y ≡ Word (choose n (r [] []) (s [] []))
  choose_is t zero x y r s p q = q
  choose_is t (suc n) x y r s p q = p

  zip_at : (xs ys : List Value) (i : ℕ) → i < length xs → i < length ys → get_or (zip_with value.Both xs ys) i (Word 0) ≡ value.Both (get_or xs i (Word 0)) (get_or ys i (Word 0))
  zip_at [] ys i p q = absurd (omega arith)
  zip_at (x ∷ xs) [] i p q = absurd (omega arith)
  zip_at (x ∷ xs) (y ∷ ys) zero p q = refl
  zip_at (x ∷ xs) (y ∷ ys) (suc i) p q = zip_at xs ys i (omega arith) (omega arith)

  zip_long : (xs ys : List Value) → length xs ≡ length ys → length (zip_with value.Both xs ys) ≡ length xs
  zip_long [] ys e = refl
  zip_long (x ∷ xs) [] e = absurd (omega arith)
  zip_long (x ∷ xs) (y ∷ ys) e = ap suc (zip_long xs ys (omega arith))

  zip_is : (n : ℕ) (a b : Ty) (v u : Value) (s t : Scalars) → HasScalars (ArrayOf n a) v s → HasScalars (ArrayOf n b) u t → HasScalars (ArrayOf n (PairOf a b)) (array (zip_with value.Both (members v) (members u))) (by_side (λ q. 0) s t)
  zip_is n a b v u s t h k =
      let xs = h.0 in
      let ys = k.0 in (
        zip_with value.Both xs ys,
        ap (λ z. array (zip_with value.Both z (members u))) (members_of v xs h.1) ∙ ap (λ z. array (zip_with value.Both xs z)) (members_of u ys k.1),
        zip_long xs ys (h.2 ∙ sym k.2) ∙ h.2,
        λ i lt. (get_or xs i (Word 0), get_or ys i (Word 0), zip_at xs ys i (let z = h.2 in omega arith) (let z = k.2 in omega arith), h.3 i lt, k.3 i lt),
      )

  -- a fold from the right end of its turns
  fold_is : (y : Ty) (xs : List Value) (f : Value → Value → Value) (step : ℕ → Scalars → Scalars) (base : ℕ) (v : Value) (s : Scalars)
      → ((i : ℕ) → i < length xs → (acc : Value) (a : Scalars) → HasScalars y acc a → HasScalars y (f acc (get_or xs i (Word 0))) (step (base + i) a)) → HasScalars y v (folded step s base) → HasScalars y (fold_left f v xs) (folded step s (base + length xs))
  fold_is y [] f step base v s h start = subst (λ n. HasScalars y v (folded step s n)) (let z : base ≡ base + 0 = omega arith in z) start
  fold_is y (x ∷ xs) f step base v s h start =
      let first : HasScalars y (f v x) (step (base + 0) (folded step s base)) = h 0 (omega arith) v (folded step s base) start in
      let first2 : HasScalars y (f v x) (folded step s (suc base)) = subst (λ n. HasScalars y (f v x) (step n (folded step s base))) (let z : base + 0 ≡ base = omega arith in z) first in
      let r = fold_is y xs f step (suc base) (f v x) s (λ i lt acc a g. subst (λ n. HasScalars y (f acc (get_or xs i (Word 0))) (step n a)) (let z : base + suc i ≡ suc base + i = omega arith in z) (h (suc i) (omega arith) acc a g)) first2 in
      subst (λ n. HasScalars y (fold_left f (f v x) xs) (folded step s n)) (let z : suc base + length xs ≡ base + suc (length xs) = omega arith in z) r

  module _ (src : ℕ → Ty) (sources : ℕ → Scalars) (count : ℕ) (given : (a : ℕ) → a < count → HasScalars (src a) (nth w.inputs a) (sources a)) where
    -- the binders' values are of their types
    abbrev Bounds : ℕ → (ℕ → Ty) → List Value → (ℕ → Scalars) → Type 0
    Bounds n g vs sems = (v : ℕ) → v < n → HasScalars (g v) (nth vs v) (sems v)

    bounds_push : (n : ℕ) (g : ℕ → Ty) (vs : List Value) (sems : ℕ → Scalars) (t : Ty) (v : Value) (s : Scalars) → HasScalars t v s → Bounds n g vs sems → Bounds (n + 1) (push t g) (v ∷ vs) (push s sems)
    bounds_push n g vs sems t v s h es zero lt = h
    bounds_push n g vs sems t v s h es (suc i) lt = es i (omega arith)

    bounds_two : (n : ℕ) (g : ℕ → Ty) (vs : List Value) (sems : ℕ → Scalars) (t u : Ty) (v x : Value) (s r : Scalars) → HasScalars t v s → HasScalars u x r → Bounds n g vs sems → Bounds (n + 2) (push t (push u g)) (v ∷ x ∷ vs) (push s (push r sems))
    bounds_two n g vs sems t u v x s r h k es zero lt = h
    bounds_two n g vs sems t u v x s r h k es (suc zero) lt = k
    bounds_two n g vs sems t u v x s r h k es (suc (suc i)) lt = es i (omega arith)

    pub means : (t : Term A) (n : ℕ) (x : Tree) (g : ℕ → Ty) (vs : List Value) (sems : ℕ → Scalars) (u : Ty) → Lowers num w n count x t → HasType num src g t u → Bounds n g vs sems → HasScalars u (meaning w vs x) (scalars_of num sources sems t)
    means (Literal c) n x g vs sems u lo ok es = is_value vs x (tree.Number c) u _ lo (is_as Scalar u (Word c) _ ok refl)
    means (Bound v) n x g vs sems u lo ok es = is_value vs x (tree.Variable v) u _ lo.0 (is_as (g v) u (nth vs v) (sems v) ok (es v lo.1))
    means (Source v) n x g vs sems u lo ok es = is_value vs x (tree.Input v) u _ lo.0 (is_as (src v) u (nth w.inputs v) (sources v) ok (given v lo.1))
    means (Apply o a b) n x g vs sems u lo ok es =
        let p = means a n lo.1 g vs sems Scalar lo.5 ok.2 es in
        let q = means b n lo.2 g vs sems Scalar lo.6 ok.3 es in
        is_value vs x _ u _ lo.3 (is_as Scalar u _ _ ok.0 (ap (λ k. on_lanes (apply_op k) (meaning w vs lo.1) (meaning w vs lo.2)) lo.4 ∙ ap (λ k. on_lanes (apply_op o) k (meaning w vs lo.2)) p ∙ ap (λ k. on_lanes (apply_op o) (Word (scalars_of num sources sems a [] [])) k) q))
    means (ApplyNumber o m a) n x g vs sems u lo ok es =
        let p = means a n lo.0 g vs sems Scalar lo.2 ok.2 es in
        ⊎_elim
        (λ e. is_value vs x _ u _ e.1 (is_as Scalar u _ _ ok.0 (ap (λ k. on_lanes (apply_op k) (meaning w vs lo.0) (Word m)) (sym e.0) ∙ ap (λ k. on_lanes (apply_op o) k (Word m)) p)))
        (λ e. is_value vs x _ u _ e.1 (is_as Scalar u _ _ ok.0 (ap (λ k. on_lanes (apply_op k) (meaning w vs lo.0) (Word m)) (sym e.0) ∙ ap (λ k. on_lanes (apply_op o) k (Word m)) p)))
        lo.1
    means (ApplyLanes o l r a b) n x g vs sems u lo ok es =
        let p = means a n lo.1 g vs sems (lane_type l) lo.5 ok.4 es in
        let q = means b n lo.2 g vs sems (lane_type r) lo.6 ok.5 es in
        is_value vs x _ u _ lo.3
        (is_as four u _ _ ok.0
        (subst (λ k. HasScalars four (on_lanes (apply_op k) (meaning w vs lo.1) (meaning w vs lo.2)) (scalars_of num sources sems (ApplyLanes o l r a b))) (sym lo.4)
        (lanes_are (apply_op o) l r (meaning w vs lo.1) (meaning w vs lo.2) (scalars_of num sources sems a) (scalars_of num sources sems b) ok.3 p q)))
    means (DivideLanes o m a) n x g vs sems u lo ok es =
        let p = means a n lo.0 g vs sems four lo.2 ok.2 es in
        let k = lanes_are (apply_op o) true false (meaning w vs lo.0) (Word m) (scalars_of num sources sems a) (λ cs q. m) tt p refl in
        ⊎_elim
        (λ e. is_value vs x _ u _ e.1 (is_as four u _ _ ok.0 (subst (λ z. HasScalars four (on_lanes (apply_op z) (meaning w vs lo.0) (Word m)) (scalars_of num sources sems (DivideLanes o m a))) e.0 k)))
        (λ e. is_value vs x _ u _ e.1 (is_as four u _ _ ok.0 (subst (λ z. HasScalars four (on_lanes (apply_op z) (meaning w vs lo.0) (Word m)) (scalars_of num sources sems (DivideLanes o m a))) e.0 k)))
        lo.1
    means (Select c a b) n x g vs sems u lo ok es =
        let p = means c n lo.0 g vs sems Scalar lo.4 ok.1 es in
        let q = means a n lo.1 g vs sems Scalar lo.5 ok.2 es in
        let r = means b n lo.2 g vs sems Scalar lo.6 ok.3 es in
        is_value vs x _ u _ lo.3 (is_as Scalar u _ _ ok.0 (ap (λ k. choose (word k) (meaning w vs lo.1) (meaning w vs lo.2)) p ∙ choose_is Scalar (scalars_of num sources sems c [] []) (meaning w vs lo.1) (meaning w vs lo.2) (scalars_of num sources sems a) (scalars_of num sources sems b) q r))
    means (Both false a b) n x g vs sems u lo ok es =
        let p = means a n lo.0 g vs sems ok.0 lo.3 ok.5 es in
        let q = means b n lo.1 g vs sems ok.1 lo.4 ok.6 es in
        is_value vs x _ u _ lo.2 (is_as (PairOf ok.0 ok.1) u _ _ ok.2 (meaning w vs lo.0, meaning w vs lo.1, refl, p, q))
    means (Both true a b) n x g vs sems u lo ok es =
        let p = means a n lo.0 g vs sems (ArrayOf ok.0 ok.1) lo.3 ok.4 es in
        let q = means b n lo.1 g vs sems (ArrayOf ok.0 ok.2) lo.4 ok.5 es in
        is_value vs x _ u _ lo.2 (is_as (ArrayOf ok.0 (PairOf ok.1 ok.2)) u _ _ ok.3 (zip_is ok.0 ok.1 ok.2 (meaning w vs lo.0) (meaning w vs lo.1) (scalars_of num sources sems a) (scalars_of num sources sems b) p q))
    means (Project false a) n x g vs sems u lo ok es =
        let p = means a n lo.0 g vs sems (PairOf u ok.0) lo.2 ok.1 es in
        is_value vs x _ u _ lo.1 (subst (λ v. HasScalars u (first v) (λ cs. scalars_of num sources sems a (false ∷ cs))) (sym p.2) p.3)
    means (Project true a) n x g vs sems u lo ok es =
        let p = means a n lo.0 g vs sems (PairOf ok.0 u) lo.2 ok.1 es in
        is_value vs x _ u _ lo.1 (subst (λ v. HasScalars u (second v) (λ cs. scalars_of num sources sems a (true ∷ cs))) (sym p.2) p.4)
    means (Reshape l a) n x g vs sems u lo ok es = laid_is num w vs l x lo.0 ok.0 u (scalars_of num sources sems a) lo.1 ok.2 (means a n lo.0 g vs sems ok.0 lo.2 ok.1 es)
    means (LetArray v b) n x g vs sems u lo ok es =
        let p = means v n lo.0 g vs sems ok.0 lo.3 ok.1 es in
        is_value vs x _ u _ lo.2 (means b (n + 1) lo.1 (push ok.0 g) (meaning w vs lo.0 ∷ vs) (push (scalars_of num sources sems v) sems) u lo.4 ok.2 (bounds_push n g vs sems ok.0 (meaning w vs lo.0) (scalars_of num sources sems v) p es))
    means (LetElement t v b) n x g vs sems u lo ok es =
        let p = means v n lo.0 g vs sems t lo.3 ok.1 es in
        is_value vs x _ u _ lo.2 (means b (n + 1) lo.1 (push t g) (meaning w vs lo.0 ∷ vs) (push (scalars_of num sources sems v) sems) u lo.4 ok.2 (bounds_push n g vs sems t (meaning w vs lo.0) (scalars_of num sources sems v) p es))
    means (Map k z0 loads xs b) n x g vs sems u lo ok es =
        let m = num z0 in
        let r = means xs n lo.1 g vs sems (ArrayOf m ok.0) lo.4 ok.4 es in
        let e = members_of (meaning w vs lo.1) r.0 r.1 in
        let f = λ (v : Value). meaning w (v ∷ vs) lo.2 in
        let D = scalars_of num sources sems xs in
        let k2 : HasScalars (ArrayOf m ok.1) (array (map f r.0)) (scalars_of num sources sems (Map k z0 loads xs b)) = (
          map f r.0,
          refl,
          length-map f r.0 ∙ r.2,
          λ i lt. subst (λ y. HasScalars ok.1 y (scalars_of num sources (push (at_index i D) sems) b)) (sym (get_or-map f r.0 i (Word 0) (Word 0) (let z = r.2 in omega arith)))
              (means b (n + 1) lo.2 (push ok.0 g) (get_or r.0 i (Word 0) ∷ vs) (push (at_index i D) sems) ok.1 lo.5 ok.5 (bounds_push n g vs sems ok.0 (get_or r.0 i (Word 0)) (at_index i D) (r.3 i lt) es)),
        ) in
        is_value vs x _ u _ lo.3 (is_as (ArrayOf m ok.1) u _ _ ok.6 (subst (λ ys. HasScalars (ArrayOf m ok.1) (array (map f ys)) (scalars_of num sources sems (Map k z0 loads xs b))) (sym e) k2))
    means (Fold z0 loads y xs s b) n x g vs sems u lo ok es =
        let m = num z0 in
        let r = means xs n lo.1 g vs sems (ArrayOf m ok.0) lo.5 ok.4 es in
        let e = members_of (meaning w vs lo.1) r.0 r.1 in
        let f = λ (acc v : Value). meaning w (v ∷ acc ∷ vs) lo.3 in
        let D = scalars_of num sources sems xs in
        let S = scalars_of num sources sems s in
        let start = means s n lo.2 g vs sems y lo.6 ok.5 es in
        let step = λ (t : ℕ) (acc : Scalars). scalars_of num sources (push (at_index t D) (push acc sems)) b in
        let z = fold_is y r.0 f step 0 (meaning w vs lo.2) S
        (λ i lt acc a ac.
        let i2 : i < m = (let q = r.2 in omega arith) in
        let here : HasScalars ok.0 (get_or r.0 i (Word 0)) (at_index (0 + i) D) = subst (λ k. HasScalars ok.0 (get_or r.0 i (Word 0)) (at_index k D)) (let q : i ≡ 0 + i = omega arith in q) (r.3 i i2) in
        means b (n + 2) lo.3 (push ok.0 (push y g)) (get_or r.0 i (Word 0) ∷ acc ∷ vs) (push (at_index (0 + i) D) (push a sems)) y lo.7 ok.6 (bounds_two n g vs sems ok.0 y (get_or r.0 i (Word 0)) acc (at_index (0 + i) D) a here ac es))
        start in
        let z2 : HasScalars y (fold_left f (meaning w vs lo.2) r.0) (folded step S m) = subst (λ k. HasScalars y (fold_left f (meaning w vs lo.2) r.0) (folded step S k)) (let q = r.2 in let p : 0 + length r.0 ≡ m = omega arith in p) z in
        let whole = λ (ys : List Value). array (fold_left f (meaning w vs lo.2) ys ∷ []) in
        let k2 : HasScalars (ArrayOf 1 y) (whole r.0) (scalars_of num sources sems (Fold z0 loads y xs s b)) = (fold_left f (meaning w vs lo.2) r.0 ∷ [], refl, refl, λ i lt. subst (λ j. HasScalars y (get_or (fold_left f (meaning w vs lo.2) r.0 ∷ []) j (Word 0)) (folded step S m)) (let q : 0 ≡ i = omega arith in q) z2) in
        is_value vs x _ u _ lo.4 (is_as (ArrayOf 1 y) u _ _ ok.7 (subst (λ ys. HasScalars (ArrayOf 1 y) (whole ys) (scalars_of num sources sems (Fold z0 loads y xs s b))) (sym e) k2))
    means (Store t a) n x g vs sems u lo ok es = means a n x g vs sems u lo ok.2 es
    means (Copy LocalMemory t a) n x g vs sems u lo ok es = is_value vs x _ u _ lo.1 (means a n lo.0 g vs sems u lo.2 ok.2 es)
    means (Copy PrivateMemory t a) n x g vs sems u lo ok es = is_value vs x _ u _ lo.1 (means a n lo.0 g vs sems u lo.2 ok.2 es)
