-- Worked indices and bounds.
use Rattle.std.proofs.Common.{◌≤◌, ℕ, refl, arith}
use Rattle.kernel_tree.specs.Formula.{Number, Size}
use Rattle.tidy_indices.specs.Redundant.{CellOfParts}
use Rattle.tidy_printed.specs.Tidy.{IsTidyIndex}
use Rattle.worked_kernels.specs.Indices.{turn, JoinsAreCounted, JoinsAreTidied, JoinsDoNotStay, IndicesDoNotGrow, BoundsAreTidied, BoundsDoNotStay, IfsTellOfIds}

turns_stay : (most : ℕ) → 1 ≤ most → IsTidyIndex most turn
turns_stay most some = record { irredundant = tt; short = some }

sixes_stay : IsTidyIndex 1 (Number 6)
sixes_stay = record { irredundant = tt; short = omega arith }

sizes_stay : IsTidyIndex 1 (Size 0)
sizes_stay = record { irredundant = tt; short = omega arith }

pub joins_are_counted : JoinsAreCounted
joins_are_counted = refl

pub joins_are_tidied : JoinsAreTidied
joins_are_tidied = (sixes_stay, (turns_stay 9 (omega arith), (turns_stay 1 (omega arith), tt)))

pub joins_do_not_stay : JoinsDoNotStay
joins_do_not_stay h = h.1.0.irredundant.0 (CellOfParts 4 3)

pub indices_do_not_grow : IndicesDoNotGrow
indices_do_not_grow h = let few = h.1.0.short in absurd (omega arith)

pub bounds_are_tidied : BoundsAreTidied
bounds_are_tidied = (sizes_stay, (turns_stay 1 (omega arith), (turns_stay 1 (omega arith), tt)))

pub bounds_do_not_stay : BoundsDoNotStay
bounds_do_not_stay h = let few = h.0.short in absurd (omega arith)

pub ifs_tell_of_ids : IfsTellOfIds
ifs_tell_of_ids = refl
