-- Kernels run in order: what is known of the next, from what those before it left.
use Rattle.std.proofs.Common.{◌≡◌, ◌∙◌, ◌+◌, ◌<◌, ℕ, zero, suc, true, List, [], ◌∷◌, ◌++◌, length, map, Option, refl, sym, ap, ap₂, arith, subst}
use Rattle.std.specs.Prelude.{slice_index}
use Rattle.kernel_tree.specs.declared.events.Event.{Event}
use Rattle.kernel_tree.specs.declared.events.Event.TheVariants.{Step}
use Rattle.kernel_tree.specs.declared.events.FaultKind.{FaultKind}
use Rattle.kernel_tree.specs.declared.events.Cell as shown
use Rattle.kernel_tree.specs.Code.{Kernel}
use Rattle.kernel_tree.specs.Device.{State, IsStart, IsRun, device_of, row, start_state}
use Rattle.kernel_tree.specs.Grammar.{is_kernel}
use Rattle.kernel_tree.specs.Inputs.{LeavesInputs}
use Rattle.kernel_tree.specs.Launch.{Cells, Launch, MayStart}
use Rattle.kernel_tree.specs.Schedule.{Schedule}
use Rattle.kernel_tree.proofs.Scheduled.{no_fault}
use Rattle.lift_tree.specs.Annotations.{type_in}
use Rattle.size_arith.specs.Ranges.{sizes_at}
use Rattle.lift_tree.specs.Launches.{IsAdmissibleLaunch, lists_of}
use Rattle.lift_tree.specs.Types.{PlainTy}
use Rattle.lift_tree.specs.Values.{Value}
use Rattle.value_lists.specs.Lists.{list_lengths}
use Rattle.lowered_tree.specs.Kinds.{asks_of}
use Rattle.ndrange_device.specs.Outcomes.{EndsUnder, FaultsUnder}
use Rattle.sequence_runs.specs.Runs.{AllKeep, AreRuns, BeginsWith, IsStageRun, Passes, Stage, StageKeeps, StageRun}
use Rattle.program_runs.specs.Sequences.{begun_from}
use Rattle.program_runs.proofs.LaidOut.{blank_lengths}
use Rattle.program_runs.proofs.Running.{rows_wanted, start_is}

-- ---- rows of lists one behind another

same_lengths : (p q : List (List ℕ)) → length p ≡ length q → ((a : ℕ) → length (row p a) ≡ length (row q a)) → map (length {A = ℕ}) p ≡ map (length {A = ℕ}) q
same_lengths [] [] count long = refl
same_lengths [] (y ∷ q) count long = absurd (omega (arith, count))
same_lengths (x ∷ p) [] count long = absurd (omega (arith, count))
same_lengths (x ∷ p) (y ∷ q) count long = ap₂ (λ (m : ℕ) (ms : List ℕ). m ∷ ms) (long 0) (same_lengths p q (omega (arith, count)) (λ a. long (suc a)))

lengths_more : (p q r : List (List ℕ)) → map (length {A = ℕ}) q ≡ map (length {A = ℕ}) r → map (length {A = ℕ}) (p ++ q) ≡ map (length {A = ℕ}) (p ++ r)
lengths_more [] q r e = e
lengths_more (x ∷ p) q r e = ap (λ (ms : List ℕ). length x ∷ ms) (lengths_more p q r e)

row_before : (p q : List (List ℕ)) (a i : ℕ) → i < length (row p a) → row (p ++ q) a ≡ row p a
row_before [] q a i lt = absurd (omega (arith, lt))
row_before (x ∷ p) q zero i lt = refl
row_before (x ∷ p) q (suc a) i lt = row_before p q a i lt

row_behind : (p q : List (List ℕ)) (a : ℕ) → row (p ++ q) (length p + a) ≡ row q a
row_behind [] q a = let e : length {A = List ℕ} [] + a ≡ a = omega arith in ap (row q) e
row_behind (x ∷ p) q a = let e : length (x ∷ p) + a ≡ suc (length p + a) = omega arith in ap (row (x ∷ p ++ q)) e ∙ row_behind p q a

-- ---- the next kernel

-- where these kernels are run in order on these buffers, every run keeps what its kernel owes, and
-- the last leaves the value
abbrev pub KeepOn : (local : Option (ℕ × ℕ)) → (bases : List ℕ) → PlainTy → Value → List Stage → (ins : List (List ℕ)) → Type 0
KeepOn local bases output v ks ins = (rs : List StageRun) → BeginsWith ins rs → AreRuns local bases ks rs → AllKeep bases output v ks rs

-- a run writes no input
abbrev pub InputsStay : Type 0
InputsStay = (k : Kernel) (l : Launch) (c : Cells) (s : State) (es : List Event) → is_kernel k ≡ true → IsStart k l c s → IsRun (device_of k l c) s es → LeavesInputs (device_of k l c) c s es

-- what the kernel begins with on these buffers
abbrev pub from : Stage → (bases : List ℕ) → (ins : List (List ℕ)) → Cells
from k bases ins = begun_from ins bases (type_in k.types)

abbrev run_so : Stage → (bases : List ℕ) → (ins : List (List ℕ)) → Launch → List Event → StageRun
run_so k bases ins l es = record { launch = l; cells = from k bases ins; state = start_state k.kernel (from k bases ins); events = es }

-- the first of those to come
module _ (local : Option (ℕ × ℕ)) (bases : List ℕ) (output : PlainTy) (v : Value) (k : Stage) (ks : List Stage) (ins : List (List ℕ)) (keep : KeepOn local bases output v (k ∷ ks) ins) (l : Launch) (ok : IsAdmissibleLaunch k.declared.names (asks_of local k.tree) bases l.global l.local) (sized : l.sizes ≡ sizes_at k.declared.names bases) where
  is_run : (es : List Event) → IsRun (device_of k.kernel l (from k bases ins)) (start_state k.kernel (from k bases ins)) es
      → IsStageRun local bases k (run_so k bases ins l es)
  is_run es r = record { launch = ok; sizes = sized; outputs = blank_lengths (list_lengths bases (type_in k.types)); start = start_is k.kernel l (from k bases ins); run = r }

  keeps : (es : List Event) → IsRun (device_of k.kernel l (from k bases ins)) (start_state k.kernel (from k bases ins)) es
      → (a : PlainTy) × (u : Value) × StageKeeps bases k (run_so k bases ins l es) a u
  keeps es r = first ks (keep (run_so k bases ins l es ∷ []) refl (is_run es r, tt, tt))
    where
      first : (ks : List Stage) → AllKeep bases output v (k ∷ ks) (run_so k bases ins l es ∷ [])
          → (a : PlainTy) × (u : Value) × StageKeeps bases k (run_so k bases ins l es) a u
      first [] h = (output, v, h)
      first (next ∷ ks) h = (type_in k.types, h.0.0, h.0.2)

  -- the device takes it
  pub starts_next : MayStart k.kernel l (from k bases ins)
  starts_next = (keeps [] tt).2.starts

  -- its run has no fault
  pub clean_next : (schedule : Schedule) (kind : FaultKind) (event item : ℕ) (cell : Option shown.Cell) → FaultsUnder schedule k.kernel l (from k bases ins) kind event item cell → ⊥
  clean_next schedule kind event item cell f =
      no_fault (device_of k.kernel l (from k bases ins)) (start_state k.kernel (from k bases ins)) f.front (Step item) [] kind
      (keeps (f.front ++ Step item ∷ []) f.faults.scheduled.is_run.enabled).2.keeps.leaves.faultless f.faults.fault

  module _ (schedule : Schedule) (rows : List (List ℕ)) (events releases : ℕ) (e : EndsUnder schedule k.kernel l (from k bases ins) rows events releases) where
    passes : InputsStay → is_kernel k.kernel ≡ true → (c : Cells) → c.ins ≡ ins ++ rows
        → Passes k (run_so k bases ins l e.run) c
    passes stay grammar c is =
        let held = (stay k.kernel l (from k bases ins) (start_state k.kernel (from k bases ins)) e.run grammar (start_is k.kernel l (from k bases ins)) e.scheduled.is_run.enabled).held in
        record {
          shape = ap (map length) is ∙ lengths_more ins rows (from k bases ins).outs (same_lengths rows (from k bases ins).outs e.left.count e.left.lengths);
          inputs = λ a i lt. ap (λ (z : List (List ℕ)). slice_index (row z a) i) is ∙ ap (λ (z : List ℕ). slice_index z i) (row_before ins rows a i lt) ∙ sym (held a i lt);
          outputs = λ a i lt. ap (λ (z : List (List ℕ)). slice_index (row z (length ins + a)) i) is ∙ ap (λ (z : List ℕ). slice_index z i) (row_behind ins rows a) ∙ e.left.words a i (let n = e.left.lengths a in omega (arith, n, lt));
        }

    -- those behind it keep on what it left
    pub keeps_next : InputsStay → is_kernel k.kernel ≡ true → KeepOn local bases output v ks (ins ++ rows)
    keeps_next stay grammar [] begins runs = tt
    keeps_next stay grammar (r ∷ rs) begins runs =
        later ks runs (keep (run_so k bases ins l e.run ∷ r ∷ rs) refl
        (is_run e.run e.scheduled.is_run.enabled, (e.over, passes stay grammar r.cells begins), runs))
      where
        later : (ks : List Stage) → AreRuns local bases ks (r ∷ rs) → AllKeep bases output v (k ∷ ks) (run_so k bases ins l e.run ∷ r ∷ rs)
            → AllKeep bases output v ks (r ∷ rs)
        later [] runs h = absurd runs
        later (next ∷ ks) runs h = h.1

    -- the last leaves the value's lists
    pub left_at_last : ks ≡ [] → rows ≡ lists_of output v
    left_at_last none =
        rows_wanted schedule k.kernel l (from k bases ins) rows (lists_of output v) events releases e
        (subst (λ (z : List Stage). KeepOn local bases output v (k ∷ z) ins) none keep (run_so k bases ins l e.run ∷ []) refl (is_run e.run e.scheduled.is_run.enabled, tt, tt)).keeps.leaves
