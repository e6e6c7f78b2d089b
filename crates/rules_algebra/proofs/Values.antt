-- Values of array types as lists.
use Rattle.std.proofs.Common.{◌≡◌, ℕ, ◌*◌, ◌/◌, ◌<◌, List, [], ◌∷◌, length, refl, sym, ap, ◌∙◌, arith, ℤ, pos, negsuc, ◌*ℤ◌, ◌≤ℤ◌}
use Rattle.std.specs.Prelude.{map}
use Rattle.std.proofs.lemmas.Int.{ints}
use Rattle.std.proofs.Math.Nat.{mul-div_cancel_left}
use Rattle.size_arith.specs.declared.poly.Monomial.{Monomial}
use Rattle.size_arith.specs.Polynomial.{value_at}
use Rattle.lift_tree.specs.Values.{Value, array, members}
use Rattle.lift_tree.specs.Lists.{Every, width}
use Rattle.lift_tree.specs.Meaning.{rows, array_of_rows}
use Rattle.lift_tree.specs.Types.{PlainTy, ArrayOf, HasType}
use Rattle.lift_tree.proofs.Members.{members-array, every_to}
use Rattle.lift_tree.proofs.Rows.{list_have, rows_have}

pub array_back : (ys : List ℕ) (x : PlainTy) (n : List Monomial) (v : Value) → HasType ys (ArrayOf x n) v → array (members v) ≡ v
array_back ys x n v h = ap array (ap members h.1 ∙ members-array h.0) ∙ sym h.1

pub rows_back : (ys : List ℕ) (x : PlainTy) (m n : List Monomial) (v : Value) → HasType ys (ArrayOf (ArrayOf x m) n) v → array_of_rows (rows v) ≡ v
rows_back ys x m n v h = ap array_of_rows (ap rows h.1 ∙ ap (map members) (members-array h.0)) ∙ ap array (go h.0 h.3) ∙ sym h.1
  where
    go : (us : List Value) → Every (HasType ys (ArrayOf x m)) us → map array (map members us) ≡ us
    go [] a = refl
    go (u ∷ us) a = let e = array_back ys x m u a.0 in let d = go us a.1 in cc

pub some_members : (ys : List ℕ) (x : PlainTy) (n : List Monomial) (v : Value) → HasType ys (ArrayOf x n) v → pos 1 ≤ℤ value_at ys n → 0 < length (members v)
some_members ys x n v h least = let e = (list_have ys x n v h).0 in omega (arith, ints)

-- each row is as long as the width
pub record AreLong (ys : List ℕ) (m : List Monomial) (rs : List (List Value)) : Type 0 where
  pub wide : pos (width rs) ≡ value_at ys m
  pub long : Every (λ r. length r ≡ width rs) rs

width_is : (ys : List ℕ) (m : List Monomial) (rs : List (List Value)) → 0 < length rs → Every (λ r. pos (length r) ≡ value_at ys m) rs → AreLong ys m rs
width_is ys m [] h a = absurd (omega arith)
width_is ys m (r ∷ rs) h a = record { wide = a.0; long = every_to (λ q e. pos_same (length q) (length r) (e ∙ sym a.0)) (r ∷ rs) a }
  where
    pos_same : (m n : ℕ) → pos m ≡ pos n → m ≡ n
    pos_same m n e = cc

pub rows_long : (ys : List ℕ) (x : PlainTy) (m n : List Monomial) (v : Value) → HasType ys (ArrayOf (ArrayOf x m) n) v → pos 1 ≤ℤ value_at ys n → AreLong ys m (rows v)
rows_long ys x m n v h least =
    let u = rows_have ys x m n v h in
    let e = u.0 in
    width_is ys m (rows v) (omega (arith, ints)) (every_to (λ q k. k.0) (rows v) u.1)

-- as many pieces as the quotient says
pub pieces_fit : (k n : ℕ) (z : ℤ) → 0 < k → pos n ≡ pos k *ℤ z → n ≡ n / k * k
pieces_fit k n (pos v) h e =
    let f : n ≡ k * v = omega (arith, ints) in
    let q : n / k ≡ v = ap (λ y. y / k) f ∙ mul-div_cancel_left v h in
    f ∙ ap (λ y. k * y) (sym q) ∙ omega arith
pieces_fit k n (negsuc v) h e = absurd (omega (arith, ints))
