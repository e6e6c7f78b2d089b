-- A row of the table, as it is judged, is the typing relation's: what the rows share, and forms
-- with two children.
use Rattle.std.proofs.Common.{◌≡◌, ℕ, zero, suc, ◌≤◌, List, [], ◌∷◌, length, refl, sym, ap, ◌∙◌, subst, arith, Bool, true, false, ℤ, pos, negsuc, Some, None}
use Rattle.std.specs.Prelude.{IsTrue, ◌&&◌, if◌then◌else◌, Ok}
use Rattle.std.proofs.lemmas.Bool.{and_parts}
use Rattle.size_arith.specs.declared.names.Name.{Name}
use Rattle.size_arith.specs.declared.poly.Monomial.{Monomial}
use Rattle.size_arith.specs.Polynomial.{total, less_powers, on, AllLow, AtMost, AllDivide, quotient}
use Rattle.size_arith.specs.Shown.{ShownAtLeast}
use Rattle.size_arith.specs.Decisions.{is_shown, is_same, all_divide}
use Rattle.size_arith.proofs.Decisions.{decides_shown, decides_same, decides_all_divide}
use Rattle.lift_tree.specs.declared.term.Operator.{Operator}
use Rattle.lift_tree.specs.declared.term.UnaryForm.{UnaryForm}
use Rattle.lift_tree.specs.declared.term.BinaryForm.{BinaryForm}
use Rattle.lift_tree.specs.declared.term.BinaryForm.TheVariants as binary
use Rattle.lift_tree.specs.Types.{PlainTy, U32, U32x4, PairOf, ArrayOf, IsElement, IsFormed, is_element}
use Rattle.lift_tree.specs.Typing.{constant, IsNumeric, OperatorRow, UnaryRow, BinaryRow, is_lane_operator}
use Rattle.lift_tree.specs.Limits.{arrays, components}
use Rattle.pattern_types.specs.declared.refusal.Rule.TheVariants as rule
use Rattle.pattern_types.specs.declared.refusal.TypeLimit.TheVariants as limit
use Rattle.pattern_types.specs.declared.fault.Fault.{Fault}
use Rattle.pattern_types.specs.Tests.{exact_quotient, is_same_element}
use Rattle.pattern_types.specs.Judged.{demand, at_most, counted, formed, scalars_judged, binary_row, number_row, numeric_row, lanes_row, operator_row, zip_row, reduce_row}
use Rattle.pattern_types.proofs.Results.{yes, and_ok, demand_ok}

-- formed, and each length of a degree of at most 4
abbrev pub IsGood : List Name → PlainTy → Type 0
IsGood names U32 = Unit {0}
IsGood names U32x4 = Unit {0}
IsGood names (PairOf a b) = IsGood names a × IsGood names b
IsGood names (ArrayOf a n) = ShownAtLeast 1 names n × AllLow 4 n × IsGood names a

pub good_formed : (names : List Name) (a : PlainTy) → IsGood names a → IsFormed names a
good_formed names U32 h = tt
good_formed names U32x4 h = tt
good_formed names (PairOf a b) h = (good_formed names a h.0, good_formed names b h.1)
good_formed names (ArrayOf a n) h = (h.0, good_formed names a h.2)

-- ---- lengths
pub constant_low : (s : ℕ) → AllLow 4 (constant s)
constant_low zero = tt
constant_low (suc s) = (omega arith, tt)

less_total : (ms ds : List ℕ) → AtMost ds ms → total (less_powers ms ds) ≤ total ms
less_total [] ds h = omega arith
less_total (m ∷ ms) [] h = omega arith
less_total (m ∷ ms) (d ∷ ds) h = let r = less_total ms ds h.1 in omega arith

pub quotient_low : (d : Monomial) (p : List Monomial) → AllDivide d p → AllLow 4 p → AllLow 4 (quotient d p)
quotient_low d [] h l = tt
quotient_low d (m ∷ p) h l =
    let a = less_total m.powers d.powers h.0.powers in
    let b = l.0 in
    (omega arith, quotient_low d p h.1 l.1)

pub exact_one : (d : Monomial) (n q : List Monomial) → exact_quotient (d ∷ []) n ≡ Some q → AllDivide d n × (q ≡ quotient d n)
exact_one d n q h = go (all_divide d n) refl h
  where
    go : (b : Bool) → all_divide d n ≡ b → (if b then Some (quotient d n) else None) ≡ Some q → AllDivide d n × (q ≡ quotient d n)
    go true e k = ((decides_all_divide d n).0 e, let f : quotient d n ≡ q = cc in sym f)
    go false e k = absurd (cc)

pub exact_on : (c : ℤ) (ms : List ℕ) (n q : List Monomial) → exact_quotient (on c ms []) n ≡ Some q → AllDivide (record { coefficient = c; powers = ms }) n × (q ≡ quotient (record { coefficient = c; powers = ms }) n)
exact_on (pos zero) ms n q h = absurd (cc)
exact_on (pos (suc c)) ms n q h = exact_one _ n q h
exact_on (negsuc c) ms n q h = exact_one _ n q h

-- ---- arrays
pub formed_right : (names : List Name) (a c : PlainTy) (n : List Monomial) → IsGood names a → AllLow 4 n → formed names a n ≡ Ok c → (c ≡ ArrayOf a n) × IsGood names c
formed_right names a c n g l h =
    let p = and_ok (demand (is_shown 1 names n) rule.Length) _ c h in
    let q = and_ok (at_most 4 limit.Arrays (counted (arrays (ArrayOf a n)))) _ c p.2 in
    let r = and_ok (at_most 4 limit.Components (counted (length (components a)))) _ c q.2 in
    let s = and_ok (scalars_judged names n a) _ c r.2 in
    let f : yes Fault (ArrayOf a n) ≡ Ok c = s.2 in
    let e : ArrayOf a n ≡ c = cc in
    (sym e, subst (IsGood names) e ((decides_shown 1 names n l).0 (demand_ok _ _ p.0 p.1), l, g))

pub same_ok : (a c : PlainTy) → yes Fault a ≡ Ok c → a ≡ c
same_ok a c h = cc

-- the row is the typing relation's, and gives a good type
abbrev pub Right : List Name → UnaryForm → (b a : PlainTy) → Type 0
Right names f b a = UnaryRow names f b a × IsGood names a

pub number_right : (b a : PlainTy) → number_row b ≡ Ok a → (b ≡ U32) × (a ≡ U32)
number_right U32 a h = (refl, sym (same_ok U32 a h))
number_right _ a h = absurd (cc)

pub numeric_right : (names : List Name) (b a : PlainTy) → numeric_row b ≡ Ok a → IsNumeric b × (a ≡ b) × IsGood names a
numeric_right names U32 a h = let e = same_ok U32 a h in (tt, sym e, subst (IsGood names) e tt)
numeric_right names U32x4 a h = let e = same_ok U32x4 a h in (tt, sym e, subst (IsGood names) e tt)
numeric_right names (PairOf b c) a h = absurd (cc)
numeric_right names (ArrayOf b n) a h = absurd (cc)

lanes_right : (names : List Name) (o : Operator) (a : PlainTy) → lanes_row o ≡ Ok a → ((is_lane_operator o ≡ true) × (a ≡ U32x4)) × IsGood names a
lanes_right names o a h =
    let p = and_ok (demand (is_lane_operator o) rule.Operator) (λ _. Ok U32x4) a h in
    let e = same_ok U32x4 a p.2 in
    ((demand_ok _ _ p.0 p.1, sym e), subst (IsGood names) e tt)

operator_right : (names : List Name) (o : Operator) (b c a : PlainTy) → operator_row o b c ≡ Ok a → OperatorRow o b c a × IsGood names a
operator_right names o U32 U32 a h = let e = same_ok U32 a h in (sym e, subst (IsGood names) e tt)
operator_right names o U32 U32x4 a h = lanes_right names o a h
operator_right names o U32x4 U32 a h = lanes_right names o a h
operator_right names o U32x4 U32x4 a h = lanes_right names o a h
operator_right names o _ _ a h = absurd (cc)

-- ---- pairs of types
pub is_element_so : (a : PlainTy) → IsTrue (is_element a) → IsElement a
is_element_so U32 h = tt
is_element_so U32x4 h = tt
is_element_so (PairOf a b) h = let p = and_parts (is_element a) (is_element b) h in (is_element_so a p.0, is_element_so b p.1)
is_element_so (ArrayOf a n) h = absurd (cc)

pub same_element : (a b : PlainTy) → IsTrue (is_same_element a b) → a ≡ b
same_element U32 U32 h = refl
same_element U32x4 U32x4 h = refl
same_element (PairOf a b) (PairOf c d) h =
    let p = and_parts (is_same_element a c) (is_same_element b d) h in
    ap (λ z. PairOf z b) (same_element a c p.0) ∙ ap (λ z. PairOf c z) (same_element b d p.1)
same_element _ _ h = absurd (cc)

zip_right : (names : List Name) (b c a : PlainTy) → IsGood names b → IsGood names c → zip_row names b c ≡ Ok a → BinaryRow binary.Zip b c a × IsGood names a
zip_right names (ArrayOf x n) (ArrayOf y m) a g k h =
    let p = and_ok (demand (is_same n m) rule.Zip) _ a h in
    let e = (decides_same n m).0 (demand_ok _ _ p.0 p.1) in
    let f = formed_right names (PairOf x y) a n (g.2, k.2) g.1 p.2 in
    ((x, y, n, refl, ap (λ z. ArrayOf y z) (sym e), f.0), f.1)
zip_right names _ _ a g k h = absurd (cc)

reduce_right : (names : List Name) (b c a : PlainTy) → reduce_row names b c ≡ Ok a → ((n : List Monomial) × (b ≡ ArrayOf U32 n) × (c ≡ U32) × (a ≡ ArrayOf U32 (constant 1))) × IsGood names a
reduce_right names (ArrayOf U32 n) U32 a h = let f = formed_right names U32 a (constant 1) tt (constant_low 1) h in ((n, refl, refl, f.0), f.1)
reduce_right names _ _ a h = absurd (cc)

pub binary_right : (names : List Name) (f : BinaryForm) (b c a : PlainTy) → IsGood names b → IsGood names c → binary_row names f b c ≡ Ok a → BinaryRow f b c a × IsGood names a
binary_right names (binary.Operator o) b c a g k h = operator_right names o b c a h
binary_right names binary.Pair b c a g k h =
    let p = and_ok (demand (is_element b && is_element c) rule.Pair) (λ _. Ok (PairOf b c)) a h in
    let e = and_parts (is_element b) (is_element c) (demand_ok _ _ p.0 p.1) in
    let f = same_ok (PairOf b c) a p.2 in
    ((is_element_so b e.0, is_element_so c e.1, sym f), subst (IsGood names) f (g, k))
binary_right names binary.Zip b c a g k h = zip_right names b c a g k h
binary_right names (binary.Reduce r) b c a g k h = reduce_right names b c a h
