use Rattle.std.proofs.Common.{rules}
use Rattle.kernel_tree.specs.declared.tree.Stmt.{the_lemmas}
use Rattle.kernel_tree.proofs.Rows.{row_then}
use Rattle.device_tests.proofs.kernels.a_barrier_for_some.Goals as goal

pub invariant_of-result : goal.invariant_of-result
invariant_of-result c = search (rules, the_lemmas, row_then)
