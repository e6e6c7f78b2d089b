-- What the typing table demands, as tests.
use Rattle.std.specs.Prelude.{Bool, true, false, ◌&&◌, if◌then◌else◌, List, [], ◌∷◌, Option, Some, None}
use Rattle.size_arith.specs.declared.poly.Monomial.{Monomial}
use Rattle.size_arith.specs.Decisions.{all_divide}
use Rattle.size_arith.specs.Polynomial.{quotient}
use Rattle.lift_tree.specs.Types.{PlainTy, U32, U32x4, PairOf, ArrayOf, holds_elements}

-- the length divided by another that is one monomial, where it divides
abbrev pub exact_quotient : (divisor length : List Monomial) → Option (List Monomial)
exact_quotient [] n = None
exact_quotient (d ∷ []) n = if all_divide d n then Some (quotient d n) else None
exact_quotient (d ∷ e ∷ p) n = None

-- the type may be an output's: an array whose pairs hold numbers alone
abbrev pub is_output : PlainTy → Bool
is_output U32 = false
is_output U32x4 = false
is_output (PairOf a b) = false
is_output (ArrayOf a n) = holds_elements a

-- the same element type
abbrev pub is_same_element : PlainTy → PlainTy → Bool
is_same_element U32 U32 = true
is_same_element U32 U32x4 = false
is_same_element U32 (PairOf c d) = false
is_same_element U32 (ArrayOf c n) = false
is_same_element U32x4 U32 = false
is_same_element U32x4 U32x4 = true
is_same_element U32x4 (PairOf c d) = false
is_same_element U32x4 (ArrayOf c n) = false
is_same_element (PairOf a b) U32 = false
is_same_element (PairOf a b) U32x4 = false
is_same_element (PairOf a b) (PairOf c d) = is_same_element a c && is_same_element b d
is_same_element (PairOf a b) (ArrayOf c n) = false
is_same_element (ArrayOf a m) b = false
