use Rattle.std.proofs.Common.{map}
use Rattle.kernel_tree.specs.Kernels.{kernel_of}
use Rattle.lift_tree.specs.FixedSizes.{size_fixed}
use Rattle.compilation.specs.Sequence.{AreMadeOf, outline_of}
use Rattle.compilation.proofs.sequence.kernels_of_each.Given as goal

abbrev pub invariant-loop-term : goal.invariant-loop-term
invariant-loop-term l = AreMadeOf (size_fixed l.local) l.yielded (map kernel_of l.made.kernels.items) (map outline_of l.made.outlines.items)
