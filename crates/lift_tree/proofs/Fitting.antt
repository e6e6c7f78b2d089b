-- What a program within its limits may name passes no limit.
use Rattle.std.proofs.Common.{◌≤◌, List, [], ◌∷◌, length, map, arith}
use Rattle.size_arith.specs.declared.names.Name.{Name}
use Rattle.size_arith.specs.declared.poly.Monomial.{Monomial}
use Rattle.size_arith.specs.Polynomial.{degree, of_monomial}
use Rattle.lift_tree.specs.declared.length.Part.{Part}
use Rattle.lift_tree.specs.InputTypes as written
use Rattle.lift_tree.specs.InputTypes.{Written}
use Rattle.lift_tree.specs.Limits.{InputFits, LimitsFit, SumFits, TypeFits}
use Rattle.lift_tree.specs.Lists.{Every}
use Rattle.lift_tree.specs.Programs.{PlainInput}
use Rattle.lift_tree.specs.WorkedOut.{product_of, range_of, sum_of, with_part, worked_out}

sum_fits : (names : List Name) (s : List Monomial) (ps : List Part) → SumFits names s ps → (length s ≤ 32) × (degree s ≤ 4) → (length (sum_of names s ps) ≤ 32) × (degree (sum_of names s ps) ≤ 4)
sum_fits names s [] h k = k
sum_fits names s (p ∷ ps) h k = sum_fits names (with_part p.sign s (of_monomial (product_of names p.product))) ps h.2 (h.1.terms, h.1.degree)

type_fits : (names : List Name) (a : Written) → InputFits names a → TypeFits names (worked_out names a)
type_fits names written.Number h = record { lengths = tt; arrays = omega arith; scalars = tt }
type_fits names (written.Pair a b) h =
    let x = type_fits names a h.0 in
    let y = type_fits names b h.1 in
    let f = x.arrays in
    let g = y.arrays in
    record { lengths = (x.lengths, y.lengths); arrays = omega (arith, f, g); scalars = (x.scalars, y.scalars) }
type_fits names (written.Array a n) h =
    let s = sum_fits names [] n h.1 (omega arith, omega arith) in
    record { lengths = (s.0, s.1, (type_fits names a h.0).lengths); arrays = h.2.arrays; scalars = h.2.scalars }

all_fit : (names : List Name) (is : List PlainInput) → Every (λ (i : PlainInput). InputFits names i.ty) is → Every (TypeFits names) (map (λ (i : PlainInput). worked_out names i.ty) is)
all_fit names [] h = tt
all_fit names (i ∷ is) h = (type_fits names i.ty h.0, all_fit names is h.1)

pub limits_fit : LimitsFit
limits_fit p t n h = record { inputs = all_fit (map range_of p.sizes) p.inputs h.inputs; nodes = h.nodes }
