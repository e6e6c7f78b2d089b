use Rattle.std.proofs.Common.{◌≡◌}
use Rattle.kernel_tree.specs.Code.{Code}
use Rattle.kernel_tree.specs.Tree.{code_then}
use Rattle.tidy_indices.specs.Places.{plain_place}
use Rattle.tidy_kernels.specs.Places.{tidied_in}
use Rattle.tidy_kernels.proofs.pass.+tidying.Given as goal

abbrev pub invariant-tidied_block-loop-statement : goal.invariant-tidied_block-loop-statement
invariant-tidied_block-loop-statement l = (after : Code)
    → code_then l.tidied.items (tidied_in (plain_place l.outermost) (plain_place l.here) after)
    ≡ tidied_in (plain_place l.outermost) (plain_place l.here) (code_then l.yielded after)
