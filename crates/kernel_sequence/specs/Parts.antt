-- Parts and cuttings, wherever they lie in memory.
use Rattle.std.specs.Prelude.{map}
use Rattle.lift_tree.specs.Tree.{tree_of}
use Rattle.lift_tree.specs.Annotations.{annotation_of}
use Rattle.lowered_tree.specs.declared.lowered.Lowered.{Lowered}
use Rattle.kernel_sequence.specs.Cut as cut
use Rattle.kernel_sequence.specs.Cut.{Cutting}
use Rattle.kernel_sequence.specs.declared.parts.Part.{Part}
use Rattle.kernel_sequence.specs.declared.cutting.Cutting as held

-- the term and the types of a part
abbrev pub part_of : Part → cut.Part
part_of p = cut.part (tree_of p.term) (annotation_of p.types)

-- the kernels' terms so far, and what is left
abbrev pub cutting_of : held.Cutting → Cutting
cutting_of c = record { made = map part_of c.made.items; left = part_of c.left }

-- the term of a lowered one
abbrev pub term_part : Lowered → cut.Part
term_part l = cut.part (tree_of l.term) (annotation_of l.types)
