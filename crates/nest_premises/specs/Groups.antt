-- Each legal nest is for one work-item, over all of them, over work-groups, or over rows of these.
use Rattle.std.specs.Prelude.{◌≡◌, ◌≤◌, List}
use Rattle.size_arith.specs.declared.names.Name.{Name}
use Rattle.lift_tree.specs.Tree.{Tree, nodes}
use Rattle.lift_tree.specs.Typing.{Declared}
use Rattle.lift_tree.specs.Annotations.{Annotation}
use Rattle.printed_form.specs.Programs.{lowered_root}
use Rattle.group_form.specs.GridTheorem.{grid_phase_count}
use Rattle.group_form.specs.Uses.{phase_count}
use Rattle.lowered_tree.specs.Copies.{CopiesArrays}
use Rattle.nest_premises.specs.Legal.{IsLegalTerm}
use Rattle.lowered_tree.specs.Kind.{nest_kind}
use Rattle.lowered_tree.specs.declared.kind.NestKind.TheVariants.{OverGroups, OverGrid}
use Rattle.group_form.specs.Kernels.{OfGroups, OfGrids}
use Rattle.nest_premises.specs.Printable.{IsPrintable, printer_for}
use Rattle.nest_premises.specs.Stands.{StandsAs}

-- what a legal term is lowered to stands as the term's kind says
abbrev pub LegalNestsStand : Type 0
LegalNestsStand =
    (d : Declared) (t : Tree) (n : Annotation) → IsLegalTerm d t n → CopiesArrays t n
    → StandsAs (nest_kind t) (lowered_root d.names t n)

-- a legal term with a map over work-groups on top can be printed as such
abbrev pub LegalGroupsStandOverGroups : Type 0
LegalGroupsStandOverGroups =
    (d : Declared) (t : Tree) (n : Annotation) → IsLegalTerm d t n → CopiesArrays t n
    → nest_kind t ≡ OverGroups → IsPrintable OfGroups d t n

-- and so can one with a map over rows of work-groups
abbrev pub LegalGridsStandOverGrids : Type 0
LegalGridsStandOverGrids =
    (d : Declared) (t : Tree) (n : Annotation) → IsLegalTerm d t n → CopiesArrays t n
    → nest_kind t ≡ OverGrid → IsPrintable OfGrids d t n

-- each legal term can be printed by the printer of its kind
abbrev pub LegalTermsArePrintable : Type 0
LegalTermsArePrintable =
    (d : Declared) (t : Tree) (n : Annotation) → IsLegalTerm d t n → CopiesArrays t n
    → IsPrintable (printer_for t) d t n

-- a term has no more phases than nodes
abbrev pub PhasesAreFew : Type 0
PhasesAreFew =
    (names : List Name) (t : Tree) (n : Annotation) → phase_count (lowered_root names t n) ≤ nodes t

-- also over rows of work-groups
abbrev pub GridPhasesAreFew : Type 0
GridPhasesAreFew =
    (names : List Name) (t : Tree) (n : Annotation)
    → grid_phase_count (lowered_root names t n) ≤ nodes t
