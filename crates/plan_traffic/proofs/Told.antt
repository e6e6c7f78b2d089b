-- Every run of a plan's kernel has the plan's traffic.
use Rattle.std.proofs.Common.{◌≡◌, ℕ, subst, sym}
use Rattle.std.specs.Prelude.{Option}
use Rattle.lift_tree.specs.Annotations.{Annotation}
use Rattle.lift_tree.specs.Tree.{Tree}
use Rattle.lift_tree.specs.Typing.{Declared}
use Rattle.barrier_placement.specs.Fencing.{Open, fence}
use Rattle.barrier_placement.specs.Needed.{Needed}
use Rattle.lift_ir.specs.Lowering.{Lowered}
use Rattle.lowered_tree.specs.Kinds.{asks_of}
use Rattle.lowered_tree.specs.declared.kind.NestKind.{NestKind}
use Rattle.lowering.specs.Terms.{term_of}
use Rattle.nest_premises.specs.Groups.{LegalTermsArePrintable}
use Rattle.nest_premises.specs.Legal.{IsLegalTerm}
use Rattle.nest_premises.specs.Printable.{printer_for, printer_of}
use Rattle.printed_form.specs.Programs.{lowered_root}
use Rattle.group_form.specs.ChosenForms.{forms_of}
use Rattle.group_form.specs.Form.{is_once}
use Rattle.group_form.specs.GridChosen.{grid_forms_of}
use Rattle.group_form.specs.GridTerms.{grid_touches}
use Rattle.group_form.specs.GridTheorem.{is_once_over, grid_phase_count}
use Rattle.group_form.specs.Kernels.{AreNeededBy}
use Rattle.group_form.specs.Uses.{phase_count, group_touches}
use Rattle.phase_plan.specs.Planned.{IsKindOf}
use Rattle.phase_plan.specs.Plans.{declared_in, local_in, tree_in, types_in}
use Rattle.phase_plan.specs.declared.kind.Kind.{Kind}
use Rattle.phase_plan.specs.declared.kind.Kind.TheVariants.{Task, OverLaunch, OverGroups, OverGrid}
use Rattle.term_traffic.specs.Laws.{RunsHaveTraffic}
use Rattle.plan_traffic.specs.Plans.{fence_of, PlansPlaceNeededBarriers, PlansTellTraffic}

-- the barriers of a plan are those that its printer needs
needed : (d : Declared) (local : Option (ℕ × ℕ)) (t : Tree) (n : Annotation) (root : Lowered) → root ≡ lowered_root d.names t n → (kind : Kind) → IsKindOf d.names local t root kind → AreNeededBy (printer_for t) d local (fence_of kind) t n
needed d local t n root is Task told = subst (λ (j : NestKind). AreNeededBy (printer_of j) d local (λ q. Open) t n) (sym told) tt
needed d local t n root is OverLaunch told = subst (λ (j : NestKind). AreNeededBy (printer_of j) d local (λ q. Open) t n) (sym told) tt
needed d local t n root is (OverGroups phases) told =
    subst (λ (j : NestKind). AreNeededBy (printer_of j) d local (fence phases.count phases.barriers.items) t n) (sym told.0)
    (subst (λ (x : Lowered). Needed (group_touches x) (is_once (forms_of d.names local) x) (phase_count x) (fence phases.count phases.barriers.items)) is
    (subst (λ m. Needed (group_touches root) (is_once (forms_of d.names local) root) (phase_count root) (fence m phases.barriers.items)) (sym told.1.count) told.1.needed))
needed d local t n root is (OverGrid phases) told =
    subst (λ (j : NestKind). AreNeededBy (printer_of j) d local (fence phases.count phases.barriers.items) t n) (sym told.0)
    (subst (λ (x : Lowered). Needed (grid_touches x) (is_once_over (grid_forms_of d.names local) x) (grid_phase_count x) (fence phases.count phases.barriers.items)) is
    (subst (λ m. Needed (grid_touches root) (is_once_over (grid_forms_of d.names local) root) (grid_phase_count root) (fence m phases.barriers.items)) (sym told.1.count) told.1.needed))

pub needed_of : PlansPlaceNeededBarriers
needed_of plan told = needed (declared_in plan) (local_in plan) (tree_in plan) (types_in plan) (term_of plan.root) told.lowered plan.kind told.kind

pub plans_tell : LegalTermsArePrintable → RunsHaveTraffic → PlansTellTraffic
plans_tell law runs plan is told w l c k s es j ok launch buffers printed start r stuck within =
    let d = declared_in plan in
    let local = local_in plan in
    let t = tree_in plan in
    let n = types_in plan in
    let legal : IsLegalTerm (declared_in plan) (tree_in plan) (types_in plan) = record {
      declared = is.declared;
      nodes = is.nodes;
      output = is.output;
      within = is.within;
      words = is.words;
      legal = told.legal;
    } in
    let printable = law d t n legal is.copies in
    runs (printer_for t) d (asks_of local t) w t n l k c (fence_of plan.kind) s es j (printable.can.lowerable w.bases launch.admissible.sizes) (printable.at_launch local w.bases l launch) ok launch buffers printed
    (needed_of plan told) start r stuck within
