-- A plan's term has short loops at an admissible launch, whose groups are whole.
use Rattle.std.proofs.Common.{◌≡◌, ℕ, suc, ◌-◌, ◌*◌, ◌<◌, ◌^◌, subst, sym, ap, ◌∙◌, length, arith}
use Rattle.std.specs.Prelude.{min}
use Rattle.std.proofs.Math.Logic.{∥∥₁_elim}
use Rattle.std.proofs.Math.Nat.{ℕ_set}
use Rattle.lift_tree.specs.Annotations.{type_in}
use Rattle.kernel_tree.specs.Formula.{Ids}
use Rattle.kernel_tree.specs.Launch.{Launch, IsWhole, item_count, group_count, group_of, first_item, ids_of}
use Rattle.kernel_tree.specs.Numbering.{LaidOut}
use Rattle.barrier_placement.specs.Fencing.{fence, InOrder}
use Rattle.group_form.specs.Forms.{StandsOverGroups}
use Rattle.group_form.specs.GridTerms.{StandsOverGrid}
use Rattle.group_form.specs.GridTheorem.{grid_phase_count}
use Rattle.group_form.specs.Kernels.{StandsFor}
use Rattle.group_form.specs.Uses.{phase_count}
use Rattle.lift_ir.specs.AtLaunch.{length_at, ty_at}
use Rattle.lift_ir.specs.Terms.{no_type}
use Rattle.lift_ir.specs.Types.{measured}
use Rattle.lowered_tree.specs.Kinds.{asks_of}
use Rattle.lowered_tree.specs.declared.kind.NestKind.{NestKind}
use Rattle.lowered_tree.specs.Whole.{IsSoundTerm}
use Rattle.lowering.specs.Terms.{term_of}
use Rattle.nest_premises.specs.Groups.{LegalTermsArePrintable}
use Rattle.nest_premises.specs.Legal.{IsLegalTerm}
use Rattle.nest_premises.specs.Printable.{IsPrintable, printer_for, printer_of}
use Rattle.printed_form.specs.Programs.{input_shape, lowered_root}
use Rattle.printed_form.proofs.Programs.{lowered_has}
use Rattle.printed_form.proofs.Programs as programs
use Rattle.phase_plan.specs.Planned.{IsKindOf}
use Rattle.phase_plan.specs.declared.kind.Kind.{Kind}
use Rattle.phase_plan.specs.declared.kind.Kind.TheVariants.{OverGroups, OverGrid}
use Rattle.phase_plan.specs.declared.phases.Phases.{Phases}
use Rattle.phase_plan.specs.Plans.{declared_in, local_in, tree_in, types_in, IsTold}
use Rattle.phase_plan.specs.declared.planned.Plan.{Plan}
use Rattle.term_traffic.specs.Short.{HasShortLoops}
use Rattle.term_traffic.specs.Laws.{TypedTermsHaveShortLoops}
use Rattle.term_traffic.specs.Traffic.{barriers_to, group_turns, turn_phases, releases_of}
use Rattle.term_traffic.proofs.Runs.{in_one_row, in_rows}
use Rattle.item_traffic.specs.Counts.{held}
use Rattle.plan_traffic.specs.Plans.{bases_at, fence_of, IsLaunchFor}
use Rattle.plan_traffic.proofs.Barriers.{as_listed}
use Rattle.plan_traffic.proofs.Groups.{first_turns}
use Rattle.plan_traffic.proofs.Held.{held_times}
use Rattle.plan_traffic.proofs.Short.{short_once}

pub whole_at : (plan : Plan) (l : Launch) → IsLaunchFor plan l → IsWhole l
whole_at plan l launch = programs.whole l (asks_of (local_in plan) (tree_in plan)) (declared_in plan).names (bases_at plan l) launch.admissible

-- a plan's term can be printed as its nest tells
printable : (plan : Plan) → LegalTermsArePrintable → IsSoundTerm (declared_in plan) (tree_in plan) (types_in plan) → IsTold plan → IsPrintable (printer_for (tree_in plan)) (declared_in plan) (tree_in plan) (types_in plan)
printable plan law is told =
    let legal : IsLegalTerm (declared_in plan) (tree_in plan) (types_in plan) = record {
      declared = is.declared;
      nodes = is.nodes;
      output = is.output;
      within = is.within;
      words = is.words;
      legal = told.legal;
    } in
    law (declared_in plan) (tree_in plan) (types_in plan) legal is.copies

short_told : (plan : Plan) (l : Launch) → TypedTermsHaveShortLoops → LegalTermsArePrintable → IsLaunchFor plan l → IsSoundTerm (declared_in plan) (tree_in plan) (types_in plan) → IsTold plan → HasShortLoops (length_at (bases_at plan l)) (term_of plan.root)
short_told plan l loops law launch is told =
    let d = declared_in plan in
    let t = tree_in plan in
    let n = types_in plan in
    let bases = bases_at plan l in
    let program = (printable plan law is told).can.lowerable bases launch.admissible.sizes in
    let typed = lowered_has d (asks_of (local_in plan) t) bases t n l program launch in
    let short = loops bases (λ v. measured (length_at bases) (input_shape d.inputs v)) no_type (lowered_root d.names t n) (ty_at bases (type_in n)) typed in
    subst (HasShortLoops (length_at bases)) (sym told.lowered) short

pub short_at : (plan : Plan) (l : Launch) → TypedTermsHaveShortLoops → LegalTermsArePrintable → IsLaunchFor plan l → HasShortLoops (length_at (bases_at plan l)) (term_of plan.root)
short_at plan l loops law launch =
    ∥∥₁_elim plan.planned (short_once (length_at (bases_at plan l)) (term_of plan.root)) (λ told. ∥∥₁_elim plan.spaced.now.mapped.lowered.sound (short_once (length_at (bases_at plan l)) (term_of plan.root)) (λ is. short_told plan l loops law launch is told))

-- as many barriers stand in a turn as are listed
abbrev pub Listed : Plan → Phases → Type 0
Listed plan phases = barriers_to (fence phases.count phases.barriers.items) (suc (turn_phases (term_of plan.root))) ≡ length phases.barriers.items

listed : (plan : Plan) (phases : Phases) (n : ℕ) → turn_phases (term_of plan.root) ≡ n → phases.count ≡ n → InOrder n phases.barriers.items → Listed plan phases
listed plan phases n is count order =
    ap (λ m. barriers_to (fence m phases.barriers.items) (suc (turn_phases (term_of plan.root)))) count
    ∙ ap (λ m. barriers_to (fence n phases.barriers.items) (suc m)) is ∙ as_listed n phases.barriers.items order

pub listed_over_groups : (plan : Plan) (phases : Phases) → LegalTermsArePrintable → plan.kind ≡ OverGroups phases → Listed plan phases
listed_over_groups plan phases law e =
    ∥∥₁_elim plan.planned (ℕ_set _ _) (λ told. ∥∥₁_elim plan.spaced.now.mapped.lowered.sound (ℕ_set _ _) (λ is.
    let kind = subst (IsKindOf (declared_in plan).names (local_in plan) (tree_in plan) (term_of plan.root)) e told.kind in
    let stand = subst (λ (j : NestKind). StandsFor (printer_of j) (lowered_root (declared_in plan).names (tree_in plan) (types_in plan))) kind.0 (printable plan law is told).stands in
    listed plan phases (phase_count (term_of plan.root)) (in_one_row (term_of plan.root) (subst StandsOverGroups (sym told.lowered) stand)) kind.1.count kind.1.in_order))

pub listed_over_grid : (plan : Plan) (phases : Phases) → LegalTermsArePrintable → plan.kind ≡ OverGrid phases → Listed plan phases
listed_over_grid plan phases law e =
    ∥∥₁_elim plan.planned (ℕ_set _ _) (λ told. ∥∥₁_elim plan.spaced.now.mapped.lowered.sound (ℕ_set _ _) (λ is.
    let kind = subst (IsKindOf (declared_in plan).names (local_in plan) (tree_in plan) (term_of plan.root)) e told.kind in
    let stand = subst (λ (j : NestKind). StandsFor (printer_of j) (lowered_root (declared_in plan).names (tree_in plan) (types_in plan))) kind.0 (printable plan law is told).stands in
    listed plan phases (grid_phase_count (term_of plan.root)) (in_rows (term_of plan.root) (subst StandsOverGrid (sym told.lowered) stand)) kind.1.count kind.1.in_order))

-- a group is released at each of these in each of its turns
pub released : (plan : Plan) (l : Launch) (phases : Phases) (g j r t n : ℕ) → Listed plan phases → fence_of plan.kind ≡ fence phases.count phases.barriers.items → LaidOut l → g < group_count l → j < item_count l → group_of l j ≡ g → t ≡ held (group_turns (length_at (bases_at plan l)) (ids_of l (first_item l g)) (term_of plan.root)) → n ≡ length phases.barriers.items → r ≡ min (t * n) (2 ^ 64 - 1)
    → r ≡ held (releases_of (length_at (bases_at plan l)) (ids_of l j) (fence_of plan.kind) (term_of plan.root))
released plan l phases g j r t n lists fences laid below lt is turns count h =
    held_times r t n (group_turns (length_at (bases_at plan l)) (ids_of l (first_item l g)) (term_of plan.root)) h turns
    ∙ ap (λ z. held (z * n)) (first_turns l laid (length_at (bases_at plan l)) (term_of plan.root) g j below lt is)
    ∙ ap (λ z. held (group_turns (length_at (bases_at plan l)) (ids_of l j) (term_of plan.root) * z)) (count ∙ sym lists)
    ∙ ap (λ f. held (releases_of (length_at (bases_at plan l)) (ids_of l j) f (term_of plan.root))) (sym fences)

-- where no groups work together none is released
pub none_released : (plan : Plan) (l : Launch) (ids : Ids) (kind : Kind) → plan.kind ≡ kind → ((m : ℕ) → barriers_to (fence_of kind) m ≡ 0) → 0 ≡ held (releases_of (length_at (bases_at plan l)) ids (fence_of plan.kind) (term_of plan.root))
none_released plan l ids kind is none =
    let t = group_turns (length_at (bases_at plan l)) ids (term_of plan.root) in
    let e : 0 ≡ held (t * 0) = omega arith in
    e ∙ ap (λ z. held (group_turns (length_at (bases_at plan l)) ids (term_of plan.root) * z)) (sym (none (suc (turn_phases (term_of plan.root)))))
    ∙ ap (λ (z : Kind). held (releases_of (length_at (bases_at plan l)) ids (fence_of z) (term_of plan.root))) (sym is)
