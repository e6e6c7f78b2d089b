-- At the least sizes an array whose lengths are shown at least 1 has a cell.
use Rattle.std.proofs.Common.{ℤ, pos, negsuc, ◌≤◌, ◌≤ℤ◌, List, arith}
use Rattle.std.proofs.lemmas.Int.{ints}
use Rattle.std.proofs.lemmas.Nat.{mul-le}
use Rattle.size_arith.specs.declared.names.Name.{Name}
use Rattle.size_arith.specs.Polynomial.{value_at}
use Rattle.size_arith.specs.Ranges.{AreNames, leasts}
use Rattle.size_arith.proofs.LeastSizes.{at_least_one}
use Rattle.lift_tree.specs.Types as types
use Rattle.lift_tree.specs.Types.{PlainTy, IsFormed}
use Rattle.lift_ir.specs.Types.{size}
use Rattle.lift_ir.specs.AtLaunch.{natural, length_at, ty_at}

natural_some : (z : ℤ) → pos 1 ≤ℤ z → 1 ≤ natural z
natural_some (pos n) h = omega (arith, ints)
natural_some (negsuc n) h = absurd (omega (arith, ints))

pub has_a_cell : (names : List Name) (a : PlainTy) → AreNames names → IsFormed names a → 1 ≤ size (ty_at (leasts names) a)
has_a_cell names types.U32 are h = omega arith
has_a_cell names types.U32x4 are h = omega arith
has_a_cell names (types.PairOf a b) are h = omega arith
has_a_cell names (types.ArrayOf a n) are h =
    mul-le 1 1 (length_at (leasts names) n) (size (ty_at (leasts names) a)) (natural_some (value_at (leasts names) n) (at_least_one names n are h.0)) (has_a_cell names a are h.1)
