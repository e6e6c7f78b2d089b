use Rattle.std.proofs.Common.{map}
use Rattle.lift_tree.specs.Annotations.{annotation_of}
use Rattle.lift_tree.specs.Tree.{tree_of}
use Rattle.kernel_sequence.specs.Parts.{part_of}
use Rattle.kernel_sequence.proofs.Cutless.{uncut_part}
use Rattle.kernel_sequence.proofs.cutting.uncut.Goals as goal

pub returns : goal.returns
returns c =
    uncut_part c.args._inputs (map part_of c.args.made.items) (tree_of c.args.term.now) (annotation_of c.args.types.now) (part_of c.in_ok-left.left) c.requires c.in_ok-left.ensures
