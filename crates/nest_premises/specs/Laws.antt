-- Legal terms can be lowered and printed; what stands for whom in them.
use Rattle.std.specs.Prelude.{◌≡◌, ◌≢◌, ◌↔◌, ◌⊎◌, ℕ, true, false, List, Option}
use Rattle.lift_tree.specs.declared.term.Dimension.TheVariants.{X}
use Rattle.lift_tree.specs.declared.term.Level.TheVariants.{Items}
use Rattle.lift_tree.specs.declared.term.MapKind.TheVariants.{Over}
use Rattle.lift_tree.specs.Tree.{Tree, Let, Map}
use Rattle.lift_tree.specs.Types.{PlainTy, IsElement, is_element}
use Rattle.lift_tree.specs.Typing.{Declared}
use Rattle.lift_tree.specs.Annotations.{Annotation, Two, type_in, Annotates}
use Rattle.lift_ir.specs.Fours.{KeepsFours}
use Rattle.lift_ir.specs.Forms.{Stands, StandsOverLaunch}
use Rattle.lift_ir.specs.Lowering as ir
use Rattle.lift_ir.specs.Lowering.{Written, lower}
use Rattle.lift_ir.specs.Lowerable.{IsStaged}
use Rattle.lift_ir.specs.Owner.{is_in_rows}
use Rattle.printed_form.specs.Programs.{lowered_root}
use Rattle.lowered_tree.specs.Around.{Around, at_root}
use Rattle.lowered_tree.specs.Kinds.{is_task, has_rows, asks_of}
use Rattle.lowered_tree.specs.Nest.{IsLegalNest}
use Rattle.lowered_tree.specs.Copies.{CopiesArrays}
use Rattle.nest_premises.specs.Legal.{IsLegalTerm}
use Rattle.lowered_tree.specs.Kind.{nest_kind}
use Rattle.lowered_tree.specs.declared.kind.NestKind.TheVariants.{Task, OverLaunch}
use Rattle.group_form.specs.Kernels.{OfItems}
use Rattle.nest_premises.specs.Printable.{CanBeLowered, IsPrintable, printer_for}
use Rattle.nest_premises.specs.Unbroken.{AllUnbroken}

-- a legal term, whatever its maps
abbrev pub LegalTermsCanBeLowered : Type 0
LegalTermsCanBeLowered =
    (d : Declared) (t : Tree) (n : Annotation) → IsLegalTerm d t n → CopiesArrays t n
    → CanBeLowered d t n

-- it has no parallel map just where none is on top
abbrev pub KindsTellTasks : Type 0
KindsTellTasks =
    (d : Declared) (t : Tree) (n : Annotation) → IsLegalTerm d t n → CopiesArrays t n
    → (nest_kind t ≡ Task) ↔ (is_task t ≡ true)

-- a legal term with no map over work-groups, or over rows of these, on top
abbrev pub UngroupedTermsArePrintable : Type 0
UngroupedTermsArePrintable =
    (d : Declared) (t : Tree) (n : Annotation) → IsLegalTerm d t n → CopiesArrays t n
    → printer_for t ≡ OfItems → IsPrintable OfItems d t n

-- a legal term without parallel maps
abbrev pub TasksArePrintable : Type 0
TasksArePrintable =
    (d : Declared) (t : Tree) (n : Annotation) → IsLegalTerm d t n → CopiesArrays t n
    → is_task t ≡ true → IsPrintable OfItems d t n

-- a legal term with a map over all work-items on top
abbrev pub LaunchesArePrintable : Type 0
LaunchesArePrintable =
    (d : Declared) (t : Tree) (n : Annotation) → IsLegalTerm d t n → CopiesArrays t n
    → nest_kind t ≡ OverLaunch → IsPrintable OfItems d t n

-- what a legal term is lowered to loads and stores each vector as one
abbrev pub LegalTermsKeepFours : Type 0
LegalTermsKeepFours =
    (d : Declared) (t : Tree) (n : Annotation) → IsLegalTerm d t n → CopiesArrays t n
    → KeepsFours (lowered_root d.names t n)

-- ---- what stands for whom

-- what a legal term for one work-item is lowered to
abbrev pub TasksStand : Type 0
TasksStand =
    (d : Declared) (t : Tree) (n : Annotation)
    → IsLegalTerm d t n → CopiesArrays t n → nest_kind t ≡ Task
    → Stands true (lowered_root d.names t n)

-- and one for all work-items
abbrev pub LaunchesStand : Type 0
LaunchesStand =
    (d : Declared) (t : Tree) (n : Annotation)
    → IsLegalTerm d t n → CopiesArrays t n → nest_kind t ≡ OverLaunch
    → StandsOverLaunch (lowered_root d.names t n)

-- ---- rows

-- a legal term has a map along dimension 1 just where a pair of maps over the launch or over groups
-- is on top
abbrev pub RowsAreOnTop : Type 0
RowsAreOnTop =
    (d : Declared) (t : Tree) (n : Annotation) → IsLegalTerm d t n → CopiesArrays t n
    → is_in_rows (lowered_root d.names t n) ≡ has_rows t

-- so without such a pair it asks for one work-item alone, or for one row of them
abbrev pub TermsAskForRows : Type 0
TermsAskForRows =
    (d : Declared) (t : Tree) (n : Annotation) (local : Option (ℕ × ℕ))
    → IsLegalTerm d t n → CopiesArrays t n → is_in_rows (lowered_root d.names t n) ≡ false
    → ((asks_of local t).alone ≡ true) ⊎ ((asks_of local t).flat ≡ true)

-- ---- at each node

-- in a legal nest no rule is broken, at the root or below it
abbrev pub LegalNestsAreUnbroken : Type 0
LegalNestsAreUnbroken = (t : Tree) (n : Annotation) → IsLegalNest t n → AllUnbroken (at_root t) t n

-- where no rule is broken, the body of a map over the items of a group's row stands for one
-- work-item
abbrev pub ItemBodiesStand : Type 0
ItemBodiesStand =
    (d : Declared) (g : List PlainTy) (s : Around) (xs b : Tree) (a : PlainTy) (n m : Annotation)
    → Annotates d g (Map (Over Items X) xs b) (Two a n m)
    → AllUnbroken s (Map (Over Items X) xs b) (Two a n m)
    → IsStaged Written (Map (Over Items X) xs b) (Two a n m) → Stands true (lower d.names Written b m)

-- and a let with a parallel map on top of its body binds no element
abbrev pub LetsAroundMapsBindNoElement : Type 0
LetsAroundMapsBindNoElement =
    (d : Declared) (g : List PlainTy) (s : Around) (v b : Tree) (a : PlainTy) (n m : Annotation)
    → Annotates d g (Let v b) (Two a n m) → AllUnbroken s (Let v b) (Two a n m)
    → nest_kind b ≢ Task → is_element (type_in n) ≡ false

-- ---- element types

-- the nest's rules and the lowering test for them alike
abbrev pub ElementTestsAgree : Type 0
ElementTestsAgree = (a : PlainTy) → ir.is_element a ≡ is_element a

-- and each passes
abbrev pub ElementTypesPass : Type 0
ElementTypesPass = (a : PlainTy) → IsElement a → is_element a ≡ true
