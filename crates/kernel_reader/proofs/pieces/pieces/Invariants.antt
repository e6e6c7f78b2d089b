use Rattle.std.proofs.Common.{List, ℕ, length, map, ◌++◌}
use Rattle.kernel_tree.specs.Pieces.{ArePieces}
use Rattle.kernel_reader.specs.Views.{bytes_of}
use Rattle.kernel_reader.proofs.pieces.pieces.Given as goal

abbrev pub invariant-loop-rest : goal.invariant-loop-rest
invariant-loop-rest l = (more : List (List ℕ)) → ArePieces l.rest more → ArePieces l.fn.text (map bytes_of l.pieces.items ++ more)

abbrev pub decreases-loop-rest : goal.decreases-loop-rest
decreases-loop-rest l = length l.rest
