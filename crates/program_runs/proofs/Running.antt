-- The run of a compiled kernel at what a launch file gives.
use Rattle.std.proofs.Common.{◌≡◌, ◌∙◌, Bool, true, false, ℕ, List, [], ◌∷◌, ◌++◌, length, map, refl, sym, ap, subst, arith, Option, Some, None}
use Rattle.std.proofs.Props.{props}
use Rattle.kernel_tree.specs.declared.events.Event.{Event}
use Rattle.kernel_tree.specs.declared.events.Seen.{Seen}
use Rattle.kernel_tree.specs.Code.{Kernel}
use Rattle.kernel_tree.specs.Formula.{spread}
use Rattle.kernel_tree.specs.KernelText.{IsKernelText, lift}
use Rattle.kernel_tree.specs.Launch.{Launch, Cells, HasLocal, MayStart}
use Rattle.kernel_tree.specs.Device.{Device, State, IsStart, first_vars, start_state, device_of, IsRun}
use Rattle.std.proofs.lemmas.List.{length-replicate}
use Rattle.kernel_tree.specs.Schedule.{Schedule, ScheduledRun}
use Rattle.kernel_tree.proofs.Scheduled.{no_fault}
use Rattle.kernel_tree.specs.declared.events.Event.TheVariants.{Step}
use Rattle.kernel_tree.specs.declared.events.FaultKind.{FaultKind}
use Rattle.kernel_tree.specs.declared.events.Cell as shown
use Rattle.ndrange_device.specs.Outcomes.{EndsUnder, FaultsUnder, SeesRun, sights}
use Rattle.launch_file.specs.LaunchFile.{Given}
use Rattle.launch_file.specs.ResultLine.{result_line}
use Rattle.lift_tree.specs.Launches.{Asks, lists_of}
use Rattle.lift_tree.specs.Programs.{PlainProgram}
use Rattle.lift_tree.specs.Types.{PlainTy, HasType}
use Rattle.lift_tree.specs.Typing.{ValuesHaveTypes, declared_by}
use Rattle.lift_tree.specs.Values.{Value}
use Rattle.printed_form.specs.Headline.{LeavesWanted}
use Rattle.value_lists.specs.Lists.{list_lengths, value_in}
use Rattle.value_lists.specs.Laws.{ListsHaveLengths, ListsHoldOneValue}
use Rattle.program_source.specs.Program.{source_value}
use Rattle.compilation.specs.Meets.{Admits, IsTextFor}
use Rattle.program_runs.specs.Runs.{IsAdmissibleFor, RunsAsGiven, begun, traced_sights, world_given}
use Rattle.program_runs.proofs.LaidOut.{blank_lengths, row_lengths, rows_are}

-- each text is of one kernel
abbrev pub OneKernel : Type 0
OneKernel = (name bytes : List ℕ) (k l : Kernel) → IsKernelText name bytes k → IsKernelText name bytes l → k ≡ l

local_once : (size : Option (ℕ × ℕ)) (l : Launch) → IsProp (HasLocal size l)
local_once None l = Prim.hlevel props
local_once (Some size) l = Prim.hlevel props

-- that a kernel may start is a fact that a truncated fact gives
pub start_once : (k : Kernel) (l : Launch) (c : Cells) → IsProp (MayStart k l c)
start_once k l c = let x = local_once k.local l in Prim.hlevel (x, props)

pub start_is : (k : Kernel) (l : Launch) (c : Cells) → IsStart k l c (start_state k c)
start_is k l c = record {
  vars = λ j. first_vars k c.rest;
  long = λ j lt. length-replicate k.variables c.rest;
  wide = λ j lt. length-replicate k.vectors (spread c.rest);
  items = λ j lt. refl;
  inputs = λ a i lt. refl;
  epochs = λ g f. refl;
}

-- a run that leaves what is wanted ends with just these rows
pub rows_wanted : (schedule : Schedule) (k : Kernel) (l : Launch) (c : Cells) (rows want : List (List ℕ)) (events releases : ℕ) (e : EndsUnder schedule k l c rows events releases) → LeavesWanted k l c want (start_state k c) e.run → rows ≡ want
rows_wanted schedule k l c rows want events releases e h =
    rows_are rows c.outs want e.left.count e.left.lengths h.shape
    (λ a i lt. e.left.words a i (let z = row_lengths want c.outs h.shape a in let n = e.left.lengths a in omega (arith, z, n, lt)) ∙ h.left e.over a i lt)

run_as_given : (schedule : Schedule) (k : Kernel) (l m : Launch) (c d : Cells) (rows : List (List ℕ)) (events releases : ℕ) → l ≡ m → c ≡ d → EndsUnder schedule k l c rows events releases → EndsUnder schedule k m d rows events releases
run_as_given schedule k l m c d rows events releases launch cells e = subst (λ x. EndsUnder schedule k m x rows events releases) cells (subst (λ x. EndsUnder schedule k x c rows events releases) launch e)

module _ (p : PlainProgram) (output : PlainTy) (asks : Asks) (text : List ℕ) (g : Given) (types : ValuesHaveTypes) (ok : IsAdmissibleFor p asks g) (is : IsTextFor p output asks text) where
  value_typed : HasType g.bases output (source_value p (world_given g))
  value_typed = types (declared_by p) (world_given g) [] [] p.body output is.typed.declared ok.world tt (λ n a e. absurd (cc (e))) is.typed.typed

  -- the value that is read from its lists
  pub value_is : ListsHoldOneValue → value_in g.bases output (lists_of output (source_value p (world_given g))) 0 0 ≡ source_value p (world_given g)
  value_is law = law g.bases output (source_value p (world_given g)) is.laid_out.elements value_typed

  -- so the line of what is read from these lists is the value's
  pub value_told : ListsHoldOneValue → (rows : List (List ℕ)) (v : Value) (counts : Option (ℕ × ℕ)) → rows ≡ lists_of output (source_value p (world_given g)) → v ≡ value_in g.bases output rows 0 0
      → result_line v counts ≡ result_line (source_value p (world_given g)) counts
  value_told law rows v counts left held = ap (λ (x : Value). result_line x counts) (held ∙ ap (λ (ls : List (List ℕ)). value_in g.bases output ls 0 0) left ∙ value_is law)

  module _ (lengths : ListsHaveLengths) where
    long : map length (begun p output (world_given g)).outs ≡ map length (lists_of output (source_value p (world_given g)))
    long = blank_lengths (list_lengths g.bases output) ∙ sym (lengths g.bases output (source_value p (world_given g)) is.laid_out.elements value_typed)

    admits : Admits p output asks (world_given g) g.launch (begun p output (world_given g))
    admits = record { world = ok.world; launch = ok.launch; sizes = refl; inputs = refl; outputs = long }

    module _ (one : OneKernel) (k : Kernel) (read : IsKernelText lift text k) where
      same : is.kernel ≡ k
      same = one lift text is.kernel k is.written read

      -- the device takes the kernel
      starts : MayStart k g.launch (begun p output (world_given g))
      starts = subst (λ (x : Kernel). MayStart x g.launch (begun p output (world_given g))) same (is.starts (world_given g) g.launch (begun p output (world_given g)) admits)

      leaves : (es : List Event) → IsRun (device_of k g.launch (begun p output (world_given g))) (start_state k (begun p output (world_given g))) es
          → LeavesWanted k g.launch (begun p output (world_given g)) (lists_of output (source_value p (world_given g))) (start_state k (begun p output (world_given g))) es
      leaves es r =
          subst (λ (x : Kernel). (es : List Event) → IsRun (device_of x g.launch (begun p output (world_given g))) (start_state x (begun p output (world_given g))) es
          → LeavesWanted x g.launch (begun p output (world_given g)) (lists_of output (source_value p (world_given g))) (start_state x (begun p output (world_given g))) es) same
          (λ fs q. is.leaves (world_given g) g.launch (begun p output (world_given g)) admits (start_state is.kernel (begun p output (world_given g))) fs (start_is is.kernel g.launch (begun p output (world_given g))) q) es r

      -- so the run has no fault
      clean : (schedule : Schedule) (kind : FaultKind) (event item : ℕ) (cell : Option shown.Cell) → FaultsUnder schedule k g.launch (begun p output (world_given g)) kind event item cell → ⊥
      clean schedule kind event item cell f =
          no_fault (device_of k g.launch (begun p output (world_given g))) (start_state k (begun p output (world_given g))) f.front (Step item) [] kind
          (leaves (f.front ++ Step item ∷ []) f.faults.scheduled.is_run.enabled).faultless f.faults.fault

      -- the run leaves the value's lists
      left : (schedule : Schedule) (rows : List (List ℕ)) (events releases : ℕ) → EndsUnder schedule k g.launch (begun p output (world_given g)) rows events releases → rows ≡ lists_of output (source_value p (world_given g))
      left schedule rows events releases e =
          rows_wanted schedule k g.launch (begun p output (world_given g)) rows (lists_of output (source_value p (world_given g))) events releases e (leaves e.run e.scheduled.is_run.enabled)

      -- what was made is at the launch, with these cells
      module _ (l : Launch) (c : Cells) (launch : l ≡ g.launch) (cells : c ≡ begun p output (world_given g)) where
        pub starts_as_made : MayStart k l c
        starts_as_made = rw (launch, cells) starts

        pub clean_as_made : (schedule : Schedule) (kind : FaultKind) (event item : ℕ) (cell : Option shown.Cell) → FaultsUnder schedule k l c kind event item cell → ⊥
        clean_as_made schedule kind event item cell f =
            clean schedule kind event item cell (subst (λ x. FaultsUnder schedule k g.launch x kind event item cell) cells (subst (λ x. FaultsUnder schedule k x c kind event item cell) launch f))

        pub left_as_made : (schedule : Schedule) (rows : List (List ℕ)) (events releases : ℕ) → EndsUnder schedule k l c rows events releases → rows ≡ lists_of output (source_value p (world_given g))
        left_as_made schedule rows events releases e = left schedule rows events releases (run_as_given schedule k l g.launch c (begun p output (world_given g)) rows events releases launch cells e)

-- the run at the launch that is given
pub run_is : (p : PlainProgram) (output : PlainTy) (g : Given) (k : Kernel) (l : Launch) (c : Cells) (rows : List (List ℕ)) (events releases : ℕ) → l ≡ g.launch → c ≡ begun p output (world_given g)
    → rows ≡ lists_of output (source_value p (world_given g)) → EndsUnder g.schedule k l c rows events releases → RunsAsGiven p output k g events releases
run_is p output g k l c rows events releases launch cells left e =
    subst (λ x. EndsUnder g.schedule k g.launch (begun p output (world_given g)) x events releases) left (run_as_given g.schedule k l g.launch c (begun p output (world_given g)) rows events releases launch cells e)

-- a schedule makes one run
abbrev pub OneRun : Type 0
OneRun = (d : Device) (schedule : Schedule) (s : State) (es fs : List Event) → ScheduledRun schedule d s es → ScheduledRun schedule d s fs → es ≡ fs

seen_of_run : OneRun → (schedule : Schedule) (k : Kernel) (l : Launch) (c : Cells) (traced : Bool) (seen : List Seen) (es : List Event) → ScheduledRun schedule (device_of k l c) (start_state k c) es
    → (traced ≡ true → SeesRun schedule k l c seen) → (traced ≡ false → seen ≡ []) → seen ≡ traced_sights traced k l c es
seen_of_run one schedule k l c true seen es run sees none =
    let s = sees refl in
    s.sights ∙ ap (sights (device_of k l c) (start_state k c)) (one (device_of k l c) schedule (start_state k c) s.run es s.scheduled run)
seen_of_run one schedule k l c false seen es run sees none = none refl

-- what is seen is of the run at the launch that is given
pub seen_is : OneRun → (p : PlainProgram) (output : PlainTy) (g : Given) (k : Kernel) (l : Launch) (c : Cells) (traced : Bool) (seen : List Seen) → l ≡ g.launch → c ≡ begun p output (world_given g)
    → (traced ≡ true → SeesRun g.schedule k l c seen) → (traced ≡ false → seen ≡ [])
    → (es : List Event) → ScheduledRun g.schedule (device_of k g.launch (begun p output (world_given g))) (start_state k (begun p output (world_given g))) es
    → seen ≡ traced_sights traced k g.launch (begun p output (world_given g)) es
seen_is one p output g k l c traced seen launch cells sees none es run =
    seen_of_run one g.schedule k g.launch (begun p output (world_given g)) traced seen es run
    (λ t. subst (λ x. SeesRun g.schedule k g.launch x seen) cells (subst (λ x. SeesRun g.schedule k x c seen) launch (sees t))) none
