-- What a cost tells is what every run of the program's kernel does.
use Rattle.std.proofs.Common.{◌≡◌, ◌∙◌, ◌<◌, Bool, ℕ, List, [], Option, Ok, length, map, ap, subst, sym}
use Rattle.std.specs.Prelude.{count_by}
use Rattle.size_arith.specs.Ranges.{AreNames}
use Rattle.cost_lines.specs.Costs as planned
use Rattle.cost_lines.specs.Lines.{cost_lines}
use Rattle.kernel_tree.specs.declared.events.Event.{Event}
use Rattle.kernel_tree.specs.Device.{IsRun, IsStart, IsStuck, State, device_of, run}
use Rattle.kernel_tree.specs.Histories.{is_release}
use Rattle.kernel_tree.specs.Launch.{Cells, IsWhole, Launch, first_item, group_count, ids_of, item_count}
use Rattle.kernel_tree.specs.Numbering.{LaidOut}
use Rattle.launch_file.specs.LaunchFile.{Cost, Given, IsLaunchFile}
use Rattle.launch_lengths.specs.Bases.{bases_of}
use Rattle.launch_lengths.specs.Laws.{BasesComeBack}
use Rattle.lift_ir.specs.AtLaunch.{length_at}
use Rattle.lift_ir.specs.Lowering.{Lowered}
use Rattle.lift_tree.specs.Annotations.{type_in}
use Rattle.lift_tree.specs.Launches.{Asks, lists_of}
use Rattle.lift_tree.specs.Meaning.{World, meaning}
use Rattle.lift_tree.specs.Programs.{PlainProgram}
use Rattle.lift_tree.specs.Types.{PlainTy}
use Rattle.lift_tree.specs.Typing.{Declared, OneType, declared_by}
use Rattle.lift_tree.specs.Values.{Value}
use Rattle.lift_tree.proofs.Annotated.{annotated_is_typed}
use Rattle.lowered_tree.specs.Kinds.{asks_of}
use Rattle.lowered_tree.specs.Named.{declared_of}
use Rattle.lowered_tree.specs.declared.lowered.Spaced.{Spaced}
use Rattle.nest_premises.specs.Groups.{LegalTermsArePrintable}
use Rattle.nest_premises.specs.Laws.{TermsAskForRows}
use Rattle.nest_premises.specs.Printable.{printer_for}
use Rattle.phase_plan.specs.Plans.{IsTold}
use Rattle.phase_plan.specs.declared.planned.Plan.{Plan}
use Rattle.plan_traffic.specs.Plans.{PlansPlaceNeededBarriers, bases_at, fence_of}
use Rattle.printed_form.specs.Programs.{AreBuffersOf, IsLaunchOf}
use Rattle.printed_form.proofs.Programs as programs
use Rattle.strategy_script.specs.LocalSize.{local_fixed}
use Rattle.strategy_script.specs.Steps.{State as TermState}
use Rattle.term_traffic.specs.Laws.{HasTraffic, RunsHaveTraffic, traffic_by}
use Rattle.term_traffic.specs.Traffic.{releases_of, traffic_of}
use Rattle.sequence_runs.specs.Stages.{AsksForRow}
use Rattle.program_source.specs.Program.{source_value}
use Rattle.compilation.specs.Compiled.{IsCompiled}
use Rattle.compilation.specs.Laws.{CompilationEndsOnce}
use Rattle.compilation.specs.Legal.{lowered_state}
use Rattle.compilation.specs.Meets.{Admits}
use Rattle.compilation.specs.Placed.{AreOfLast}
use Rattle.compilation.specs.declared.kernel.Placed.{Placed}
use Rattle.program_runs.proofs.Admitted.{launch_is_admissible}
use Rattle.program_runs.specs.Costs.{AreCostsOf, CostsInEveryRun, TellTraffic, TextsHaveCosts, releases_at, traffic_at}

-- ---- the launch

-- the base names' values are told by the sizes that a launch file gives
pub given_bases : BasesComeBack → (p : PlainProgram) (asks : Asks) (launch : List ℕ) (g : Given) → AreNames (declared_by p).names → IsLaunchFile p (Cost asks) launch g → bases_of (declared_by p).names g.launch.sizes ≡ g.bases
given_bases back p asks launch g names file =
    let gives = file.2 in
    ap (bases_of (declared_by p).names) gives.bases ∙ back (declared_by p).names g.bases names gives.admissible.sizes

-- ---- what a plan tells is told of its term

-- what is told of a term with its spaces
abbrev Told : Spaced → Launch → Bool → List ℕ → Type 0
Told s l items lines = TellTraffic (declared_of s.mapped.lowered) s.mapped.local (lowered_state s.mapped.lowered) (bases_of s.mapped.lowered.names l.sizes) l items lines

pub plan_tells : PlansPlaceNeededBarriers → (s : Spaced) (plan : Plan) (l : Launch) (items : Bool) (lines : List ℕ) → plan.spaced.now ≡ s → IsTold plan
    → lines ≡ cost_lines items (planned.traffic_at plan l) (item_count l) (planned.releases_at plan l) (group_count l) → Told s l items lines
plan_tells needed s plan l items lines same told is =
    subst (λ (x : Spaced). Told x l items lines) same (record {
      fence = fence_of plan.kind;
      needed = needed plan told;
      written = is ∙ ap (λ (root : Lowered). cost_lines items (λ j. traffic_of (length_at (bases_at plan l)) (ids_of l j) root) (item_count l) (λ g. releases_of (length_at (bases_at plan l)) (ids_of l (first_item l g)) (fence_of plan.kind) root) (group_count l)) told.lowered;
    })

-- and of a program's last term, where it is told of that term placed
pub last_tells : (d : Declared) (local : Option (ℕ × ℕ)) (last : TermState) (x : Placed) (bases : List ℕ) (l : Launch) (items : Bool) (lines : List ℕ) → AreOfLast d local last x → bases_of d.names l.sizes ≡ bases → Told x.spaced l items lines → TellTraffic d local last bases l items lines
last_tells d local last x bases l items lines are same told =
    subst (λ (ys : List ℕ). TellTraffic d local last ys l items lines) same
    (subst (λ (o : Option (ℕ × ℕ)). TellTraffic d o last (bases_of d.names l.sizes) l items lines) are.fixed
    (subst (λ (t : TermState). TellTraffic d x.spaced.mapped.local t (bases_of d.names l.sizes) l items lines) are.term
    (subst (λ (e : Declared). TellTraffic e x.spaced.mapped.local (lowered_state x.spaced.mapped.lowered) (bases_of e.names l.sizes) l items lines) are.declared told)))

-- the launch is one of the term placed
pub launch_of_placed : (d : Declared) (local : Option (ℕ × ℕ)) (last : TermState) (x : Placed) (bases : List ℕ) (l : Launch) → AreOfLast d local last x → bases_of d.names l.sizes ≡ bases → IsLaunchOf d (asks_of local last.tree) bases last.tree last.types l
    → IsLaunchOf (declared_of x.spaced.mapped.lowered) (asks_of x.spaced.mapped.local (lowered_state x.spaced.mapped.lowered).tree) (bases_of x.spaced.mapped.lowered.names l.sizes) (lowered_state x.spaced.mapped.lowered).tree (lowered_state x.spaced.mapped.lowered).types l
launch_of_placed d local last x bases l are same is =
    subst (λ (e : Declared). IsLaunchOf e (asks_of x.spaced.mapped.local (lowered_state x.spaced.mapped.lowered).tree) (bases_of e.names l.sizes) (lowered_state x.spaced.mapped.lowered).tree (lowered_state x.spaced.mapped.lowered).types l) (sym are.declared)
    (subst (λ (t : TermState). IsLaunchOf d (asks_of x.spaced.mapped.local t.tree) (bases_of d.names l.sizes) t.tree t.types l) (sym are.term)
    (subst (λ (o : Option (ℕ × ℕ)). IsLaunchOf d (asks_of o last.tree) (bases_of d.names l.sizes) last.tree last.types l) (sym are.fixed)
    (subst (λ (ys : List ℕ). IsLaunchOf d (asks_of local last.tree) ys last.tree last.types l) (sym same) is)))

-- ---- every run of a text

-- what is known of runs and of compilation
pub record Laws : Type 0 where
  pub back : BasesComeBack
  pub ends : CompilationEndsOnce
  pub laid : (l : Launch) → IsWhole l → LaidOut l
  pub one_type : OneType
  pub printable : LegalTermsArePrintable
  pub rows : TermsAskForRows
  pub runs : RunsHaveTraffic

module _ (laws : Laws) (script : List ℕ) (p : PlainProgram) (output : PlainTy) (asks : Asks) (program text : List ℕ) (compiled : IsCompiled program script p output asks text) where
  same_type : output ≡ type_in compiled.last.types
  same_type =
      laws.one_type (declared_by p) [] compiled.last.tree output (type_in compiled.last.types) (compiled.keeps.typed output compiled.typed.typed)
      (annotated_is_typed (declared_by p) [] compiled.last.tree compiled.last.types compiled.accepted.legal.nodes)

  module _ (items : Bool) (lines launch : List ℕ) (g : Given) (file : IsLaunchFile p (Cost (asks_of (local_fixed script) compiled.last.tree)) launch g) (told : TellTraffic (declared_by p) (local_fixed script) compiled.last g.bases g.launch items lines) where
    asked : AsksForRow (local_fixed script) (declared_by p) compiled.last.tree compiled.last.types
    asked = laws.rows (declared_by p) compiled.last.tree compiled.last.types (local_fixed script) compiled.accepted.legal compiled.accepted.copies

    here : IsLaunchOf (declared_by p) (asks_of (local_fixed script) compiled.last.tree) g.bases compiled.last.tree compiled.last.types g.launch
    here = launch_is_admissible p (Cost (asks_of (local_fixed script) compiled.last.tree)) launch g compiled.last.tree compiled.last.types asked file

    laid : LaidOut g.launch
    laid = laws.laid g.launch (programs.whole g.launch (asks_of (local_fixed script) compiled.last.tree) (declared_by p).names g.bases here.admissible)

    module _ (w : World) (c : Cells) (s : State) (es : List Event) (a : Admits p output (asks_of (local_fixed script) compiled.last.tree) w g.launch c) (start : IsStart compiled.kernel g.launch c s) (r : IsRun (device_of compiled.kernel g.launch c) s es)
        (stuck : IsStuck (device_of compiled.kernel g.launch c) (run (device_of compiled.kernel g.launch c) s es)) where
      of_world : IsLaunchOf (declared_by p) (asks_of (local_fixed script) compiled.last.tree) w.bases compiled.last.tree compiled.last.types g.launch
      of_world = record { admissible = a.launch; sizes = a.sizes ∙ a.world.sizes; asked = asked }

      -- the valuation is the launch file's
      same_bases : w.bases ≡ g.bases
      same_bases =
          sym (laws.back (declared_by p).names w.bases compiled.accepted.legal.declared.names a.launch.sizes) ∙ ap (bases_of (declared_by p).names) (sym of_world.sizes ∙ here.sizes)
          ∙ laws.back (declared_by p).names g.bases compiled.accepted.legal.declared.names here.admissible.sizes

      same_value : meaning w [] compiled.last.tree ≡ source_value p w
      same_value = compiled.keeps.value w [] a.world (λ n b e. absurd (cc (e)))

      buffers : AreBuffersOf (declared_by p) w compiled.last.tree compiled.last.types c
      buffers = record {
        inputs = a.inputs;
        outputs = a.outputs ∙ ap (λ (b : PlainTy). map length (lists_of b (source_value p w))) same_type ∙ ap (λ (v : Value). map length (lists_of (type_in compiled.last.types) v)) (sym same_value);
      }

      has_traffic : (item : ℕ) → item < item_count g.launch → HasTraffic (declared_by p) w.bases compiled.last.tree compiled.last.types told.fence compiled.kernel g.launch c s es item
      has_traffic item within =
          let can = laws.printable (declared_by p) compiled.last.tree compiled.last.types compiled.accepted.legal compiled.accepted.copies in
          laws.runs (printer_for compiled.last.tree) (declared_by p) (asks_of (local_fixed script) compiled.last.tree) w compiled.last.tree compiled.last.types g.launch compiled.kernel c told.fence s es item
          (can.can.lowerable w.bases a.launch.sizes) (can.at_launch (local_fixed script) w.bases g.launch of_world) a.world of_world buffers (compiled.prints w.bases g.launch of_world) told.needed start r stuck within

      item_costs : (item : ℕ) → item < item_count g.launch → traffic_by compiled.kernel g.launch c s es item ≡ traffic_at (declared_by p) compiled.last g.bases g.launch item
      item_costs item within = (has_traffic item within).accesses ∙ ap (λ (ys : List ℕ). traffic_at (declared_by p) compiled.last ys g.launch item) same_bases

      group_costs : (group : ℕ) → group < group_count g.launch → count_by (is_release group) es ≡ releases_at (declared_by p) compiled.last told.fence g.bases g.launch group
      group_costs group below =
          let first = laid.items group (first_item g.launch group) below (laid.first group) in
          ap (λ n. count_by (is_release n) es) (sym (laid.first group))
          ∙ (has_traffic (first_item g.launch group) first).releases ∙ ap (λ (ys : List ℕ). releases_at (declared_by p) compiled.last told.fence ys g.launch group) same_bases

    costs : CostsInEveryRun p output (asks_of (local_fixed script) compiled.last.tree) compiled.kernel g.launch (traffic_at (declared_by p) compiled.last g.bases g.launch) (releases_at (declared_by p) compiled.last told.fence g.bases g.launch)
    costs w c s es a start r stuck = (item_costs w c s es a start r stuck, group_costs w c s es a start r stuck)

    pub costs_of : AreCostsOf program launch items text lines
    costs_of = record {
      source = p;
      output = output;
      asks = asks_of (local_fixed script) compiled.last.tree;
      read = compiled.read;
      typed = compiled.typed;
      given = g;
      launch_file = file;
      kernel = compiled.kernel;
      spelled = compiled.written;
      traffic = traffic_at (declared_by p) compiled.last g.bases g.launch;
      releases = releases_at (declared_by p) compiled.last told.fence g.bases g.launch;
      costs = costs;
      written = told.written;
    }

pub costs_of_texts : Laws → TextsHaveCosts
costs_of_texts laws program script launch items lines are source output asks text other =
    let same : source ≡ are.source = are.read.only source other.read.is in
    for_program (subst (λ (q : PlainProgram). IsCompiled program script q output asks text) same other)
  where
    for_program : IsCompiled program script are.source output asks text → AreCostsOf program launch items text lines
    for_program compiled =
        let one_end = laws.ends are.source script (Ok are.last) (Ok compiled.last) are.legal compiled.legal in
        let same_last : are.last ≡ compiled.last = cc (one_end) in
        costs_of laws script are.source output asks program text compiled items lines launch are.given
        (subst (λ (t : TermState). IsLaunchFile are.source (Cost (asks_of (local_fixed script) t.tree)) launch are.given) same_last are.launch_file)
        (subst (λ (t : TermState). TellTraffic (declared_by are.source) (local_fixed script) t are.given.bases are.given.launch items lines) same_last are.told)
