use Rattle.std.proofs.Common.{length}
use Rattle.index_tests.proofs.layouts.+has_cells.Given as goal

abbrev pub decreases-has_cells : goal.decreases-has_cells
decreases-has_cells l = length l.cells.now
