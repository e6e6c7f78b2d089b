use Rattle.std.proofs.Common.{◌≡◌, ◌++◌, take}
use Rattle.std.specs.Prelude.{map}
use Rattle.lift_tree.specs.Types.{ty_of}
use Rattle.kernel_sequence.proofs.sequence.joined.Given as goal

abbrev pub invariant-loop-ty : goal.invariant-loop-ty
invariant-loop-ty l = map ty_of l.all.items ≡ map ty_of l.first ++ map ty_of (take l.ty-index l.second)
