-- A row of the table, where the typing relation has it: its type, unless a limit is passed. What
-- the rows share, and forms with two children.
use Rattle.std.proofs.Common.{◌≡◌, ℕ, zero, suc, ◌<◌, List, [], ◌∷◌, refl, sym, subst, arith, Bool, true, false, ℤ, pos, negsuc, Some, None}
use Rattle.std.specs.Prelude.{IsTrue, ◌&&◌, if◌then◌else◌, Result}
use Rattle.std.proofs.lemmas.Bool.{and_from}
use Rattle.size_arith.specs.declared.names.Name.{Name}
use Rattle.size_arith.specs.declared.poly.Monomial.{Monomial}
use Rattle.size_arith.specs.Polynomial.{is_zero, on, AllDivide, quotient}
use Rattle.size_arith.specs.Decisions.{is_same, all_divide}
use Rattle.size_arith.proofs.Decisions.{decides_same, decides_all_divide}
use Rattle.lift_tree.specs.declared.term.Operator.{Operator}
use Rattle.lift_tree.specs.declared.term.UnaryForm.{UnaryForm}
use Rattle.lift_tree.specs.declared.term.BinaryForm.{BinaryForm}
use Rattle.lift_tree.specs.declared.term.BinaryForm.TheVariants as binary
use Rattle.lift_tree.specs.Types.{PlainTy, U32, U32x4, PairOf, ArrayOf, IsElement, IsFormed, is_element}
use Rattle.lift_tree.specs.Typing.{constant, OperatorRow, BinaryRow, is_lane_operator}
use Rattle.pattern_types.specs.declared.refusal.Rule.TheVariants as rule
use Rattle.pattern_types.specs.declared.fault.Fault.{Fault}
use Rattle.pattern_types.specs.Tests.{exact_quotient}
use Rattle.pattern_types.specs.Judged.{unary_row, lanes_row, operator_row, zip_row, reduce_row, binary_row}
use Rattle.lift_tree.specs.Limits.{ArrayFits, OuterFits, UnaryFits}
use Rattle.pattern_types.proofs.Table.{IsGood, constant_low}
use Rattle.pattern_types.proofs.Judging.{Judges, itself, answers, judges_demand}
use Rattle.pattern_types.proofs.Fitted.{judges_formed}

-- ---- quotients
exact_one : (d : Monomial) (n : List Monomial) → AllDivide d n → exact_quotient (d ∷ []) n ≡ Some (quotient d n)
exact_one d n h = go (all_divide d n) ((decides_all_divide d n).1 h)
  where
    go : (b : Bool) → IsTrue b → (if b then Some (quotient d n) else None) ≡ Some (quotient d n)
    go true e = refl
    go false e = absurd (cc)

pub exact_on : (c : ℤ) (ms : List ℕ) (n : List Monomial) → is_zero c ≡ false → AllDivide (record { coefficient = c; powers = ms }) n → exact_quotient (on c ms []) n ≡ Some (quotient (record { coefficient = c; powers = ms }) n)
exact_on (pos zero) ms n e h = absurd (cc)
exact_on (pos (suc c)) ms n e h = exact_one _ n h
exact_on (negsuc c) ms n e h = exact_one _ n h

pub above_zero : (t : ℕ) → 0 < t → is_zero (pos t) ≡ false
above_zero zero h = absurd (omega arith)
above_zero (suc t) h = refl

-- ---- forms with one child
pub same_array : (x y : PlainTy) (n m : List Monomial) → ArrayOf x n ≡ ArrayOf y m → (x ≡ y) × (n ≡ m)
same_array x y n m e = (cc, cc)

-- the row's answer at an equal type
abbrev pub At : List Name → UnaryForm → PlainTy → PlainTy → Type 0
At names f b a = IsFormed names a → Judges itself (UnaryFits names f b) a (unary_row names f b)

-- ---- forms with two children
pub element_is : (a : PlainTy) → IsElement a → IsTrue (is_element a)
element_is U32 h = refl
element_is U32x4 h = refl
element_is (PairOf a b) h = and_from (is_element a) (is_element b) (element_is a h.0) (element_is b h.1)
element_is (ArrayOf a n) h = absurd h

abbrev Gives : List Name → PlainTy → Result PlainTy Fault → Type 0
Gives names a r = IsFormed names a → Judges itself (OuterFits names a) a r

judges_lanes : (names : List Name) (o : Operator) (a : PlainTy) → (is_lane_operator o ≡ true) × (a ≡ U32x4) → Judges itself (OuterFits names a) a (lanes_row o)
judges_lanes names o a r = subst (λ z. Judges itself (OuterFits names z) z (lanes_row o)) (sym r.1) (judges_demand (is_lane_operator o) rule.Operator _ r.0 (answers refl))

judges_operator : (names : List Name) (o : Operator) (b c a : PlainTy) → OperatorRow o b c a → Judges itself (OuterFits names a) a (operator_row o b c)
judges_operator names o U32 U32 a r = subst (λ z. Judges itself (OuterFits names z) z (operator_row o U32 U32)) (sym r) (answers refl)
judges_operator names o U32 U32x4 a r = judges_lanes names o a r
judges_operator names o U32x4 U32 a r = judges_lanes names o a r
judges_operator names o U32x4 U32x4 a r = judges_lanes names o a r
judges_operator names o _ _ a r = absurd r

pub judges_binary : (names : List Name) (f : BinaryForm) (b c a : PlainTy) → BinaryRow f b c a → IsGood names b → Gives names a (binary_row names f b c)
judges_binary names (binary.Operator o) b c a r g = λ h. judges_operator names o b c a r
judges_binary names binary.Pair b c a r g =
    subst (λ z. Gives names z (binary_row names binary.Pair b c)) (sym r.2) (λ h. judges_demand (is_element b && is_element c) rule.Pair _ (and_from (is_element b) (is_element c) (element_is b r.0) (element_is c r.1)) (answers refl))
judges_binary names binary.Zip b c a r g =
    let x = r.0 in
    let y = r.1 in
    let n = r.2 in
    let k = subst (IsGood names) r.3 g in
    subst (λ z. Gives names z (zip_row names b c)) (sym r.5) (λ h.
    subst (λ z. Judges itself (ArrayFits names (PairOf x y) n) (ArrayOf (PairOf x y) n) (zip_row names z c)) (sym r.3)
    (subst (λ z. Judges itself (ArrayFits names (PairOf x y) n) (ArrayOf (PairOf x y) n) (zip_row names (ArrayOf x n) z)) (sym r.4)
    (judges_demand (is_same n n) rule.Zip _ ((decides_same n n).1 refl) (judges_formed names (PairOf x y) n k.1 h.0))))
judges_binary names (binary.Reduce o) b c a r g =
    subst (λ z. Gives names z (reduce_row names b c)) (sym r.3) (λ h.
    subst (λ z. Judges itself (ArrayFits names U32 (constant 1)) (ArrayOf U32 (constant 1)) (reduce_row names z c)) (sym r.1)
    (subst (λ z. Judges itself (ArrayFits names U32 (constant 1)) (ArrayOf U32 (constant 1)) (reduce_row names (ArrayOf U32 r.0) z)) (sym r.2) (judges_formed names U32 (constant 1) (constant_low 1) h.0)))
