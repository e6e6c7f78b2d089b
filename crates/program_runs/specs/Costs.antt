-- What a program's kernel costs at a launch.
use Rattle.std.specs.Prelude.{◌≡◌, ◌<◌, ℕ, List, Bool, Option, Ok, count_by}
use Rattle.barrier_placement.specs.Fencing.{Fencing}
use Rattle.cost_lines.specs.Lines.{cost_lines}
use Rattle.group_form.specs.Kernels.{AreNeededBy}
use Rattle.kernel_tree.specs.declared.events.Event.{Event}
use Rattle.kernel_tree.specs.Code.{Kernel}
use Rattle.kernel_tree.specs.Device.{IsRun, IsStart, IsStuck, State, device_of, run}
use Rattle.kernel_tree.specs.Histories.{is_release}
use Rattle.kernel_tree.specs.KernelText.{IsKernelText, lift}
use Rattle.kernel_tree.specs.Launch.{Cells, Launch, first_item, group_count, ids_of, item_count}
use Rattle.launch_file.specs.LaunchFile.{Cost, Given, IsLaunchFile}
use Rattle.lift_ir.specs.AtLaunch.{length_at}
use Rattle.lift_tree.specs.Launches.{Asks}
use Rattle.lift_tree.specs.Meaning.{World}
use Rattle.lift_tree.specs.Programs.{PlainProgram}
use Rattle.lift_tree.specs.Types.{PlainTy}
use Rattle.lift_tree.specs.Typing.{Declared, HasOutput, declared_by}
use Rattle.lowered_tree.specs.Kinds.{asks_of}
use Rattle.nest_premises.specs.Printable.{printer_for}
use Rattle.printed_form.specs.Programs.{lowered_root}
use Rattle.strategy_script.specs.LocalSize.{local_fixed}
use Rattle.strategy_script.specs.Steps.{State as TermState}
use Rattle.term_traffic.specs.Laws.{traffic_by}
use Rattle.term_traffic.specs.Traffic.{ItemTraffic, releases_of, traffic_of}
use Rattle.program_source.specs.Program.{IsRead}
use Rattle.compilation.specs.Compiled.{IsCompiled}
use Rattle.compilation.specs.Legal.{LegalOf}
use Rattle.compilation.specs.Meets.{Admits}

-- what an item loads and stores at a launch, as a typed term tells
abbrev pub traffic_at :
    Declared → TermState → (bases : List ℕ) → Launch → (item : ℕ) → ItemTraffic
traffic_at d t bases l item =
    traffic_of (length_at bases) (ids_of l item) (lowered_root d.names t.tree t.types)

-- and how often a group is released, where these barriers stand in the body
abbrev pub releases_at :
    Declared → TermState → (fence : ℕ → Fencing) → (bases : List ℕ) → Launch → (group : ℕ) → ℕ
releases_at d t fence bases l group =
    releases_of (length_at bases) (ids_of l (first_item l group)) fence
    (lowered_root d.names t.tree t.types)

-- The lines tell the traffic of a typed term at a launch, with the barriers that it needs.
pub record TellTraffic (d : Declared) (local : Option (ℕ × ℕ)) (t : TermState) (bases : List ℕ)
    (l : Launch) (items : Bool) (lines : List ℕ) : Type 0 where
  pub fence : ℕ → Fencing
  pub needed : AreNeededBy (printer_for t.tree) d local fence t.tree t.types
  pub written : lines
      ≡ cost_lines items (traffic_at d t bases l) (item_count l)
      (releases_at d t fence bases l) (group_count l)

-- The lines tell the traffic of the script's last term, a legal one within the limits, at the
-- launch that the launch file gives.
pub record AreCostLines (program script launch : List ℕ) (items : Bool)
    (lines : List ℕ) : Type 0 where
  pub source : PlainProgram
  pub read : IsRead program source
  pub last : TermState
  pub legal : LegalOf source script (Ok last)
  pub given : Given
  pub launch_file : IsLaunchFile source (Cost (asks_of (local_fixed script) last.tree)) launch given
  pub told : TellTraffic (declared_by source) (local_fixed script) last given.bases given.launch
      items lines

-- at the launch, on all inputs, whatever other memory holds, in every run of the kernel that can't
-- go on each item has made just these loads and stores, and each group has been released so often
abbrev pub CostsInEveryRun : PlainProgram → (output : PlainTy) → (asks : Asks) → Kernel → Launch
    → (traffic : ℕ → ItemTraffic) → (releases : ℕ → ℕ) → Type 0
CostsInEveryRun p output asks k l traffic releases =
    (w : World) (c : Cells) (s : State) (es : List Event) → Admits p output asks w l c
    → IsStart k l c s → IsRun (device_of k l c) s es
    → IsStuck (device_of k l c) (run (device_of k l c) s es)
    → ((item : ℕ) → item < item_count l → traffic_by k l c s es item ≡ traffic item)
    × ((group : ℕ) → group < group_count l → count_by (is_release group) es ≡ releases group)

-- The lines tell the loads, stores and releases of every run of the text's kernel, at the launch
-- that the launch file gives.
pub record AreCostsOf (program launch : List ℕ) (items : Bool)
    (text lines : List ℕ) : Type 0 where
  pub source : PlainProgram
  pub output : PlainTy
  pub asks : Asks
  pub read : IsRead program source
  pub typed : HasOutput source source.body output
  pub given : Given
  pub launch_file : IsLaunchFile source (Cost asks) launch given
  pub kernel : Kernel
  pub spelled : IsKernelText lift text kernel
  pub traffic : ℕ → ItemTraffic
  pub releases : ℕ → ℕ
  pub costs : CostsInEveryRun source output asks kernel given.launch traffic releases
  pub written : lines
      ≡ cost_lines items traffic (item_count given.launch) releases (group_count given.launch)

-- the lines of a cost tell the loads, stores and releases of every run of every text of the
-- program's kernel, and so of the text that is written for the same files
abbrev pub TextsHaveCosts : Type 0
TextsHaveCosts =
    (program script launch : List ℕ) (items : Bool) (lines : List ℕ)
    → AreCostLines program script launch items lines
    → (source : PlainProgram) (output : PlainTy) (asks : Asks) (text : List ℕ)
    → IsCompiled program script source output asks text
    → AreCostsOf program launch items text lines
