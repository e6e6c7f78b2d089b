use Rattle.std.proofs.Common.{◌-◌, map, length}
use Rattle.kernel_tree.specs.Kernels.{kernel_of}
use Rattle.kernel_reader.specs.Views.{bytes_of}
use Rattle.kernel_reader.proofs.InOrder.{Goes}
use Rattle.kernel_reader.proofs.sequence.read_sequence.Given as goal

abbrev pub invariant-loop-kernels : goal.invariant-loop-kernels
invariant-loop-kernels l = Goes (map bytes_of l.pieces.items) l.taken (map kernel_of l.kernels.items)

abbrev pub decreases-loop-kernels : goal.decreases-loop-kernels
decreases-loop-kernels l = length l.pieces.items - l.taken
