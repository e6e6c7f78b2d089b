-- An array by its members, and an array of arrays by its rows.
use Rattle.std.proofs.Common.{◌≡◌, ℕ, zero, suc, ◌*◌, ◌/◌, ◌<◌, List, [], ◌∷◌, length, refl, sym, ap, ◌∙◌, subst, arith, ℤ, pos, negsuc, ◌+ℤ◌, ◌*ℤ◌, length-append}
use Rattle.std.specs.Prelude.{map}
use Rattle.std.proofs.lemmas.Int.{ints}
use Rattle.std.proofs.Math.Nat.{mul-div_cancel_left}
use Rattle.size_arith.specs.declared.poly.Monomial.{Monomial}
use Rattle.size_arith.specs.Polynomial.{value_at}
use Rattle.size_arith.proofs.Integers.{add_mul}
use Rattle.lift_tree.specs.Values.{Value, array, members}
use Rattle.lift_tree.specs.Lists.{Every, concat, width}
use Rattle.lift_tree.specs.Meaning.{rows, array_of_rows}
use Rattle.lift_tree.specs.Types.{PlainTy, ArrayOf, HasType}
use Rattle.lift_tree.proofs.Members.{members-array, length-map, every_to, every_map}

-- ---- an array by its members
pub list_have : (ys : List ℕ) (x : PlainTy) (n : List Monomial) (v : Value) → HasType ys (ArrayOf x n) v → (pos (length (members v)) ≡ value_at ys n) × Every (HasType ys x) (members v)
list_have ys x n v t =
    let e : t.0 ≡ members v = sym (members-array t.0) ∙ ap members (sym t.1) in
    (subst (λ us. pos (length us) ≡ value_at ys n) e t.2, subst (λ us. Every (HasType ys x) us) e t.3)

pub list_has : (ys : List ℕ) (x : PlainTy) (n : List Monomial) (vs : List Value) → pos (length vs) ≡ value_at ys n → Every (HasType ys x) vs → HasType ys (ArrayOf x n) (array vs)
list_has ys x n vs e a = (vs, refl, e, a)

-- ---- an array of arrays by its rows
abbrev pub HasRow : List ℕ → PlainTy → List Monomial → List Value → Type 0
HasRow ys x m r = (pos (length r) ≡ value_at ys m) × Every (HasType ys x) r

pub rows_have : (ys : List ℕ) (x : PlainTy) (m n : List Monomial) (v : Value) → HasType ys (ArrayOf (ArrayOf x m) n) v → (pos (length (rows v)) ≡ value_at ys n) × Every (HasRow ys x m) (rows v)
rows_have ys x m n v t =
    let a = list_have ys (ArrayOf x m) n v t in
    (ap pos (length-map members (members v)) ∙ a.0, every_map (HasType ys (ArrayOf x m)) (HasRow ys x m) members (members v) (λ u h. list_have ys x m u h) a.1)

pub rows_has : (ys : List ℕ) (x : PlainTy) (m n : List Monomial) (rs : List (List Value)) → pos (length rs) ≡ value_at ys n → Every (HasRow ys x m) rs → HasType ys (ArrayOf (ArrayOf x m) n) (array_of_rows rs)
rows_has ys x m n rs e a = (map array rs, refl, ap pos (length-map array rs) ∙ e, every_map (HasRow ys x m) (HasType ys (ArrayOf x m)) array rs (λ r h. list_has ys x m r h.0 h.1) a)

pub concat_long : (z : ℤ) (rs : List (List Value)) → Every (λ r. pos (length r) ≡ z) rs → pos (length (concat rs)) ≡ pos (length rs) *ℤ z
concat_long z [] a = omega (arith, ints)
concat_long z (r ∷ rs) a =
    let e = concat_long z rs a.1 in
    let d : pos (suc (length rs)) *ℤ z ≡ (pos 1 *ℤ z) +ℤ (pos (length rs) *ℤ z) = ap (λ y. y *ℤ z) (ap pos (omega arith)) ∙ add_mul (pos 1) (pos (length rs)) z in
    let f = ap pos (length-append r (concat rs)) in
    f ∙ ap (λ y. y +ℤ pos (length (concat rs))) a.0 ∙ ap (λ y. z +ℤ y) e ∙ omega (arith, ints)

pub width_is : (z : ℤ) (rs : List (List Value)) → 0 < length rs → Every (λ r. pos (length r) ≡ z) rs → (pos (width rs) ≡ z) × Every (λ r. length r ≡ width rs) rs
width_is z [] h a = absurd (omega arith)
width_is z (r ∷ rs) h a = (a.0, every_to (λ q e. pos_same (length q) (length r) (e ∙ sym a.0)) (r ∷ rs) a)
  where
    pos_same : (m n : ℕ) → pos m ≡ pos n → m ≡ n
    pos_same m n e = cc

-- as many pieces as the quotient says
pub quotient_is : (k n : ℕ) (z : ℤ) → 0 < k → pos n ≡ pos k *ℤ z → pos (n / k) ≡ z
quotient_is k n (pos v) h e = ap pos (ap (λ y. y / k) (cc) ∙ mul-div_cancel_left v h)
quotient_is k n (negsuc v) h e = absurd (omega (arith, ints))

-- what divides some number is not 0, and the whole quotient times it is that number
pub divided_by : (k n : ℕ) (z : ℤ) → 0 < n → pos n ≡ pos k *ℤ z → (0 < k) × (n / k * k ≡ n)
divided_by zero n z h e = absurd (omega (arith, ints))
divided_by (suc k) n z h e =
    let c = quotient_is (suc k) n z (omega arith) e in
    let g : pos n ≡ pos (suc k) *ℤ pos (n / suc k) = e ∙ ap (λ y. pos (suc k) *ℤ y) (sym c) in
    (omega arith, omega (arith, ints))
