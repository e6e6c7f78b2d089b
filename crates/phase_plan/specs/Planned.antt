-- What a plan says of a legal term.
use Rattle.std.specs.Prelude.{◌≡◌, ℕ, List, Option}
use Rattle.size_arith.specs.declared.names.Name.{Name}
use Rattle.lift_tree.specs.Annotations.{Annotation}
use Rattle.lift_tree.specs.Tree.{Tree}
use Rattle.lowered_tree.specs.Kind.{nest_kind}
use Rattle.lowered_tree.specs.Nest.{IsLegalNest}
use Rattle.lowered_tree.specs.declared.kind.NestKind.TheVariants as nest
use Rattle.buffer_allocation.specs.Allocated.{AreAllocated}
use Rattle.lift_ir.specs.Lowering.{Lowered}
use Rattle.printed_form.specs.Programs.{lowered_root}
use Rattle.group_form.specs.ChosenForms.{forms_of}
use Rattle.group_form.specs.Form.{is_once}
use Rattle.group_form.specs.GridChosen.{grid_forms_of}
use Rattle.group_form.specs.GridTerms.{grid_touches}
use Rattle.group_form.specs.GridTheorem.{grid_phase_count, is_once_over}
use Rattle.group_form.specs.Uses.{group_touches, phase_count}
use Rattle.phase_plan.specs.Phases.{ArePhasesOf}
use Rattle.phase_plan.specs.declared.kind.Kind.{Kind}
use Rattle.phase_plan.specs.declared.kind.Kind.TheVariants.{Task, OverLaunch, OverGroups, OverGrid}

-- who runs the term, as its nest tells; over work-groups with the phases of what it is lowered to
abbrev pub IsKindOf : List Name → (local : Option (ℕ × ℕ)) → Tree → Lowered → Kind → Type 0
IsKindOf names local t root Task = nest_kind t ≡ nest.Task
IsKindOf names local t root OverLaunch = nest_kind t ≡ nest.OverLaunch
IsKindOf names local t root (OverGroups phases) =
    (nest_kind t ≡ nest.OverGroups)
    × ArePhasesOf (group_touches root) (phase_count root) (is_once (forms_of names local) root)
    phases.count phases.touches.items phases.barriers.items
IsKindOf names local t root (OverGrid phases) =
    (nest_kind t ≡ nest.OverGrid)
    × ArePhasesOf (grid_touches root) (grid_phase_count root)
    (is_once_over (grid_forms_of names local) root)
    phases.count phases.touches.items phases.barriers.items

-- the term's nest is legal, its arrays are those that it is given, this is what it is lowered to
-- with these ranges of sizes, and this who runs it
pub record IsPlannedFor (names : List Name) (local : Option (ℕ × ℕ)) (t : Tree) (n : Annotation)
    (locals privates : List ℕ) (root : Lowered) (runs : Kind) : Type 0 where
  pub legal : IsLegalNest t n
  pub arrays : AreAllocated locals privates t n
  pub lowered : root ≡ lowered_root names t n
  pub kind : IsKindOf names local t root runs
