-- Where what a term may name and its nodes pass no limit, its type is formed and fits.
use Rattle.std.proofs.Common.{[]}
use Rattle.lift_tree.specs.Lists.{Every}
use Rattle.lift_tree.specs.Tree.{Tree}
use Rattle.lift_tree.specs.Types.{IsFormed}
use Rattle.lift_tree.specs.Limits.{NodesFit, TypeFits}
use Rattle.lift_tree.specs.Typing.{Declared}
use Rattle.lift_tree.specs.Annotations.{Annotates, Annotation, type_in}
use Rattle.lift_tree.proofs.WithinLimits.{all_few, all_within, within_in}
use Rattle.kernel_sequence.proofs.Scalars.{few_scalars}

-- no binder is around the term
pub formed_and_fit : (d : Declared) (t : Tree) (n : Annotation) → Every (IsFormed d.names) d.inputs → Every (TypeFits d.names) d.inputs → Annotates d [] t n → NodesFit d.names t n
    → IsFormed d.names (type_in n) × TypeFits d.names (type_in n)
formed_and_fit d t n formed fit y h =
    let g = within_in d (all_within d.names d.inputs formed fit) [] t n tt y h in
    (g.formed, record { lengths = g.lengths; arrays = g.few; scalars = few_scalars d (all_few d.names d.inputs fit) [] t n tt y h })
