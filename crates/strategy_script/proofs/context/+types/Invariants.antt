use Rattle.std.proofs.Common.{◌+◌, ◌*◌}
use Rattle.lift_tree.specs.Annotations.{annotation_of}
use Rattle.strategy_script.proofs.Deep.{depth}
use Rattle.strategy_script.proofs.context.+types.Given as goal

abbrev pub decreases-copied_types : goal.decreases-copied_types
decreases-copied_types l = 2 * depth (annotation_of l.types.now)

abbrev pub decreases-boxed_types : goal.decreases-boxed_types
decreases-boxed_types l = 2 * depth (annotation_of l.types.now) + 1
