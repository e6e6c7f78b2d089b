-- Lengths that are worked out, arrays that are formed, and inputs: what they
-- are, unless a limit is passed.
use Rattle.std.proofs.Common.{ℕ, suc, ◌*◌, List, [], ◌∷◌, length, refl}
use Rattle.std.specs.Prelude.{Result, Ok, Err, map}
use Rattle.size_arith.specs.declared.names.Name.{Name}
use Rattle.size_arith.specs.declared.poly.Monomial.{Monomial}
use Rattle.size_arith.specs.Polynomial.{of_monomial, times, AllLow}
use Rattle.size_arith.specs.Shown.{ShownAtLeast, largest}
use Rattle.size_arith.specs.Decisions.{is_shown}
use Rattle.size_arith.proofs.Decisions.{decides_shown}
use Rattle.lift_tree.specs.declared.length.Factor.{Factor}
use Rattle.lift_tree.specs.declared.length.Part.{Part}
use Rattle.lift_tree.specs.InputTypes as written
use Rattle.lift_tree.specs.InputTypes.{Written}
use Rattle.lift_tree.specs.Limits.{arrays, components, IsSmall, ProductFits, SumFits, ProductsAreSmall, ScalarsAreFew, ArrayFits, InputFits}
use Rattle.lift_tree.specs.Lists.{Every}
use Rattle.lift_tree.specs.Programs.{PlainInput}
use Rattle.lift_tree.specs.Types.{PlainTy, U32, U32x4, PairOf, ArrayOf, IsFormed}
use Rattle.lift_tree.specs.Typing.{constant}
use Rattle.lift_tree.specs.WorkedOut.{factor_monomial, product_of, sum_of, with_part, length_of, worked_out}
use Rattle.pattern_types.specs.declared.refusal.Rule.TheVariants as rule
use Rattle.pattern_types.specs.declared.refusal.TypeLimit.TheVariants as limit
use Rattle.pattern_types.specs.declared.refusal.Spot.TheVariants as spot
use Rattle.pattern_types.specs.declared.refusal.TypeRefusal.{TypeRefusal}
use Rattle.pattern_types.specs.declared.refusal.TypeRefusal.TheVariants.{IllTyped, Limit, Memory}
use Rattle.pattern_types.specs.declared.fault.Fault.{Fault}
use Rattle.pattern_types.specs.declared.fault.Fault.TheVariants as fault
use Rattle.pattern_types.specs.Judged.{product_judged, sum_judged, scalars_judged, formed, input_judged, at_input, refusal_at, inputs_judged}
use Rattle.pattern_types.proofs.Products.{product_right}
use Rattle.pattern_types.proofs.Inputs.{sum_right}
use Rattle.pattern_types.proofs.Judging.{done, Judges, Comes, Refuses, itself, answers, judges_same, judges_as, judges_then, judges_three, judges_demand, judges_at_most, judges_counted, judges_within}

-- ---- lengths
abbrev multiplied : List Name → List Monomial → List Factor → List Monomial
multiplied names p [] = p
multiplied names p (f ∷ fs) = multiplied names (times p (of_monomial (factor_monomial names f))) fs

judges_factors : (names : List Name) (fs : List Factor) (p : List Monomial) → Judges itself (ProductFits names p fs) (multiplied names p fs) (product_judged names p fs)
judges_factors names [] p = answers refl
judges_factors names (f ∷ fs) p =
    let q = times p (of_monomial (factor_monomial names f)) in
    judges_then _ (judges_within q) (λ e w. judges_factors names fs q)

pub judges_product : (names : List Name) (fs : List Factor) → Judges itself (ProductFits names (constant 1) fs) (of_monomial (product_of names fs)) (product_judged names (constant 1) fs)
judges_product names fs = judges_as (judges_factors names fs (constant 1)) (λ e. (product_right names fs (multiplied names (constant 1) fs) e).0)

judges_sum : (names : List Name) (ps : List Part) (s : List Monomial) → Judges itself (SumFits names s ps) (sum_of names s ps) (sum_judged names s ps)
judges_sum names [] s = answers refl
judges_sum names (p ∷ ps) s =
    let next = with_part p.sign s (of_monomial (product_of names p.product)) in
    judges_three (judges_then _ (judges_product names p.product) (λ e w. judges_then _ (judges_within next) (λ f v. judges_sum names ps next)))

-- ---- arrays
-- the products are small and the scalars few, in the order in which they are judged
abbrev ScalarsFit : List Name → List Monomial → PlainTy → Type 0
ScalarsFit names p U32 = ScalarsAreFew names p U32
ScalarsFit names p U32x4 = ScalarsAreFew names p U32x4
ScalarsFit names p (PairOf a b) = ScalarsFit names p a × ScalarsFit names p b
ScalarsFit names p (ArrayOf a n) = IsSmall (times p n) × ScalarsFit names (times p n) a

parts_fit : (names : List Name) (p : List Monomial) (a : PlainTy) → ScalarsFit names p a → ProductsAreSmall p a × ScalarsAreFew names p a
parts_fit names p U32 h = (tt, h)
parts_fit names p U32x4 h = (tt, h)
parts_fit names p (PairOf a b) h =
    let x = parts_fit names p a h.0 in
    let y = parts_fit names p b h.1 in
    ((x.0, y.0), (x.1, y.1))
parts_fit names p (ArrayOf a n) h = let x = parts_fit names (times p n) a h.1 in ((h.0, x.0), x.1)

both_fit : (names : List Name) (p : List Monomial) (a : PlainTy) → ProductsAreSmall p a → ScalarsAreFew names p a → ScalarsFit names p a
both_fit names p U32 h k = k
both_fit names p U32x4 h k = k
both_fit names p (PairOf a b) h k = (both_fit names p a h.0 k.0, both_fit names p b h.1 k.1)
both_fit names p (ArrayOf a n) h k = (h.0, both_fit names (times p n) a h.1 k)

judges_scalars : (names : List Name) (p : List Monomial) (a : PlainTy) → Judges itself (ScalarsFit names p a) done (scalars_judged names p a)
judges_scalars names p U32 = judges_at_most 2147483647 limit.Scalars (largest names p)
judges_scalars names p U32x4 = judges_at_most 2147483647 limit.Scalars (4 * largest names p)
judges_scalars names p (PairOf a b) = judges_then _ (judges_scalars names p a) (λ e w. judges_scalars names p b)
judges_scalars names p (ArrayOf a n) = judges_then _ (judges_within (times p n)) (λ e w. judges_scalars names (times p n) a)

pub judges_formed : (names : List Name) (a : PlainTy) (n : List Monomial) → AllLow 4 n → ShownAtLeast 1 names n → Judges itself (ArrayFits names a n) (ArrayOf a n) (formed names a n)
judges_formed names a n low shown =
    judges_demand (is_shown 1 names n) rule.Length _ ((decides_shown 1 names n low).1 shown)
    (judges_same
    (judges_then _ (judges_counted limit.Arrays (arrays (ArrayOf a n))) (λ e w.
    judges_then _ (judges_counted limit.Components (length (components a))) (λ f v.
    judges_then _ (judges_scalars names n a) (λ g u. answers refl))))
    (λ h. let x = parts_fit names n a h.1.1.0 in record { arrays = h.0; components = h.1.0; products = x.0; scalars = x.1 })
    (λ h. (h.arrays, (h.components, (both_fit names n a h.products h.scalars, tt)))))

-- ---- inputs
pub judges_input : (names : List Name) (w : Written) → IsFormed names (worked_out names w) → Judges itself (InputFits names w) (worked_out names w) (input_judged names w)
judges_input names written.Number h = answers refl
judges_input names (written.Pair v w) h =
    judges_same (judges_then _ (judges_input names v h.0) (λ e x. judges_then _ (judges_input names w h.1) (λ f y. answers refl))) (λ x. (x.0, x.1.0)) (λ x. (x.0, (x.1, tt)))
judges_input names (written.Array w n) h =
    judges_three
    (judges_then _ (judges_input names w h.1) (λ e x.
    judges_then _ (judges_sum names n []) (λ f y.
    judges_formed names (worked_out names w) (length_of names n) (sum_right names n [] (length_of names n) tt f).1 h.0)))

abbrev pub fault_in : TypeRefusal → Fault
fault_in (IllTyped s r) = fault.Breaks r
fault_in (Limit l s c) = fault.Passes l c
fault_in Memory = fault.Memory

judges_at_input : {w : Type 0} {a : PlainTy} {r : Result PlainTy Fault} (i : ℕ) → Judges itself w a r → Judges fault_in w a (at_input i r)
judges_at_input {w = w} {a = a} {r = r} i h = record { comes = go r h.comes }
  where
    refused : (f : Fault) → Refuses w f → Refuses w (fault_in (refusal_at (spot.Input i) f))
    refused (fault.Breaks r) c = c
    refused (fault.Passes l n) c = c
    refused fault.Memory c = c

    go : (r : Result PlainTy Fault) → Comes itself w a r → Comes fault_in w a (at_input i r)
    go (Ok b) c = c
    go (Err f) c = refused f c

pub judges_inputs : (names : List Name) (i : ℕ) (xs : List PlainInput) → Every (IsFormed names) (map (λ (x : PlainInput). worked_out names x.ty) xs)
    → Judges fault_in (Every (λ (x : PlainInput). InputFits names x.ty) xs) (map (λ (x : PlainInput). worked_out names x.ty) xs) (inputs_judged names i xs)
judges_inputs names i [] h = answers refl
judges_inputs names i (x ∷ xs) h =
    judges_same
    (judges_then _ (judges_at_input i (judges_input names x.ty h.0)) (λ e w. judges_then _ (judges_inputs names (suc i) xs h.1) (λ f v. answers refl)))
    (λ w. (w.0, w.1.0))
    (λ w. (w.0, (w.1, tt)))
