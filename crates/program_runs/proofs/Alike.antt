-- Kernels that are printed for one term go alike, and so the texts of one program's kernels run
-- alike.
use Rattle.std.proofs.Common.{◌≡◌, ◌∙◌, Bool, true, false, ℕ, suc, List, [], ◌∷◌, ◌++◌, Option, None, Ok, length, map, replicate, refl, sym, ap, ap₂, subst, arith, append_assoc}
use Rattle.kernel_tree.specs.Alike.{GoesAlike}
use Rattle.kernel_tree.specs.Code.{Kernel}
use Rattle.kernel_tree.specs.Device.{Device, IsRun, State, device_of, row, run, start_state}
use Rattle.kernel_tree.specs.Formula.{spread}
use Rattle.kernel_tree.specs.Faults.{Among, FaultIs, IsFaultless, accesses, accesses_of}
use Rattle.kernel_tree.specs.KernelText.{lift}
use Rattle.kernel_tree.specs.Launch.{Cells, Launch}
use Rattle.kernel_tree.specs.Schedule.{Schedule}
use Rattle.kernel_tree.specs.Seen.{IsSeen, seen_of}
use Rattle.kernel_tree.specs.declared.events.Event.{Event}
use Rattle.kernel_tree.proofs.Confluence.{among-left, among-right}
use Rattle.kernel_tree.proofs.EveryRun.{accesses-append, is_run-front, run-append}
use Rattle.kernel_tree.proofs.Scheduled.{divergence_in, failure_in}
use Rattle.kernel_tree.proofs.Sights.{one_sight}
use Rattle.ndrange_device.specs.Outcomes.{EndsUnder, sights}
use Rattle.launch_file.specs.LaunchFile.{Given, Run}
use Rattle.strategy_script.specs.LocalSize.{local_fixed}
use Rattle.lift_tree.specs.Annotations.{Annotation, type_in}
use Rattle.lift_tree.specs.Launches.{Asks, lists_of}
use Rattle.lift_tree.specs.Meaning.{World, meaning}
use Rattle.lift_tree.specs.Programs.{PlainProgram}
use Rattle.lift_tree.specs.Tree.{Tree}
use Rattle.lift_tree.specs.Types.{PlainTy}
use Rattle.lift_tree.specs.Typing.{Declared, OneType, Types, declared_by}
use Rattle.lift_tree.specs.Values.{Value}
use Rattle.lift_tree.proofs.Annotated.{annotated_is_typed}
use Rattle.lowered_tree.specs.Kinds.{asks_of}
use Rattle.nest_premises.specs.Groups.{LegalTermsArePrintable}
use Rattle.nest_premises.specs.Laws.{TermsAskForRows}
use Rattle.nest_premises.specs.Printable.{printer_for}
use Rattle.printed_form.specs.Headline.{LeavesWanted}
use Rattle.printed_form.specs.Programs.{AreBuffersOf, DeclaresFor, IsLaunchOf, SameContents}
use Rattle.group_form.specs.Kernels.{KernelsGoAlike, Printer, OfItems, OfGroups, OfGrids, PrintsBy}
use Rattle.rewriting.specs.Keeps.{Keeps}
use Rattle.strategy_script.specs.Steps.{State as TermState}
use Rattle.program_source.specs.Program.{source_value}
use Rattle.compilation.specs.Compiled.{IsCompiled, PrintsAtAll}
use Rattle.compilation.specs.Laws.{CompilationEndsOnce}
use Rattle.compilation.specs.Legal.{IsAccepted}
use Rattle.compilation.specs.Meets.{Admits, MeetsSource}
use Rattle.program_runs.specs.Alike.{AreLinesOf, PrintedKernelsGoAlike}
use Rattle.program_runs.specs.Runs.{AreLinesOfText, IsAdmissibleFor, RunsAsGiven, begun, traced_sights, world_given}
use Rattle.program_runs.specs.Started.{AreRunLines}
use Rattle.program_runs.proofs.Admitted.{given_is_admissible}
use Rattle.program_runs.proofs.Running.{OneKernel, start_is}

-- ---- of a legal term

pub kernels_alike : LegalTermsArePrintable → KernelsGoAlike → PrintedKernelsGoAlike
kernels_alike printable alike d local t n w l k m c s r legal copies ok here cells =
    let can = printable d t n legal copies in
    alike (printer_for t) d (asks_of local t) w t n l k m c s r (can.can.lowerable w.bases ok.bases) (can.at_launch local w.bases l here) ok here cells

-- ---- the same is seen

one_last : (d : Device) (s : State) (front : List Event) (e : Event) → IsFaultless d s (front ++ e ∷ []) → FaultIs d s front e None
one_last d s front e ok =
    let all = accesses-append d s front (e ∷ []) in (
      failure_in d s front e [] ok.no_failure,
      λ r. ok.no_race r.0 r.1
          (subst (Among r.0) (sym all) (among-left r.0 (accesses d s front) _ r.2))
          (subst (Among r.1) (sym all) (among-right r.1 (accesses d s front) _ (among-left r.1 (accesses_of d (run d s front) e) _ r.3)))
          r.4,
      divergence_in d s front e [] ok.no_divergence,
    )

-- what is seen of an event without a fault
clean_seen : (d : Device) (s : State) (front : List Event) (e : Event) → IsFaultless d s (front ++ e ∷ []) → IsSeen d s front e (seen_of d (run d s front) e 0 None)
clean_seen d s front e ok = record { kind = None; fault = one_last d s front e ok; lane = 0; in_lane = refl; is = refl }

module _ (c : Device) (s : State) (d : Device) (t : State) (alike : GoesAlike c s d t) where
  last_seen : (front : List Event) (e : Event) → IsRun c s (front ++ e ∷ []) → seen_of c (run c s front) e 0 None ≡ seen_of d (run d t front) e 0 None
  last_seen front e r =
      let ok = alike.faultless (front ++ e ∷ []) r in
      one_sight d t front e (seen_of c (run c s front) e 0 None) (seen_of d (run d t front) e 0 None)
      (alike.seen front e (seen_of c (run c s front) e 0 None) r (clean_seen c s front e ok.0)) (clean_seen d t front e ok.1)

  seen_from : (front es : List Event) → IsRun c s (front ++ es) → sights c (run c s front) es ≡ sights d (run d t front) es
  seen_from front [] r = refl
  seen_from front (e ∷ es) r =
      let q = subst (IsRun c s) (sym (append_assoc front (e ∷ []) es)) r in
      ap₂ (λ x xs. x ∷ xs) (last_seen front e (is_run-front c s (front ++ e ∷ []) es q))
      (ap (λ x. sights c x es) (sym (run-append c s front (e ∷ []))) ∙ seen_from (front ++ e ∷ []) es q ∙ ap (λ x. sights d x es) (run-append d t front (e ∷ [])))

  seen_alike : (es : List Event) → IsRun c s es → sights c s es ≡ sights d t es
  seen_alike es r = seen_from [] es r

-- ---- runs that go alike end alike

module _ (schedule : Schedule) (k m : Kernel) (l : Launch) (c : Cells) (rows : List (List ℕ)) (events releases : ℕ) (alike : GoesAlike (device_of k l c) (start_state k c) (device_of m l c) (start_state m c)) (e : EndsUnder schedule k l c rows events releases) where
  pub enabled : IsRun (device_of k l c) (start_state k c) e.run
  enabled = e.scheduled.is_run.enabled

  abbrev pub ends_alike : LeavesWanted m l c rows (start_state m c) e.run → EndsUnder schedule m l c rows events releases
  ends_alike leaves =
      let over = alike.stuck e.run enabled e.over in
      record {
        run = e.run;
        scheduled = alike.scheduled schedule e.run e.scheduled;
        faultless = (alike.faultless e.run enabled).1;
        over = over;
        counted = e.counted;
        released = e.released;
        left = record { count = e.left.count; lengths = e.left.lengths; words = λ a i lt. sym (leaves.left over a i lt) };
      }

  traced_alike : (traced : Bool) → traced_sights traced k l c e.run ≡ traced_sights traced m l c e.run
  traced_alike true = seen_alike (device_of k l c) (start_state k c) (device_of m l c) (start_state m c) alike e.run enabled
  traced_alike false = refl

-- ---- texts

-- outputs that are as many and as long as rows
shape_of_rows : (rows outs : List (List ℕ)) → length rows ≡ length outs → ((a : ℕ) → length (row rows a) ≡ length (row outs a)) → map length outs ≡ map length rows
shape_of_rows [] [] count long = refl
shape_of_rows [] (o ∷ os) count long = absurd (omega (arith, count))
shape_of_rows (r ∷ rs) [] count long = absurd (omega (arith, count))
shape_of_rows (r ∷ rs) (o ∷ os) count long = ap₂ (λ x xs. x ∷ xs) (sym (long 0)) (shape_of_rows rs os (omega (arith, count)) (λ a. long (suc a)))

pub declares_for : (p : Printer) (d : Declared) (local : Option (ℕ × ℕ)) (bases : List ℕ) (t : Tree) (n : Annotation) (l : Launch) (k : Kernel) → PrintsBy p d local bases t n l k → DeclaresFor d local t n k
declares_for OfItems d local bases t n l k prints = prints.declares
declares_for OfGroups d local bases t n l k prints = prints.declares
declares_for OfGrids d local bases t n l k prints = prints.declares

-- kernels with one term's declarations begin with the same
pub same_contents : (d : Declared) (local : Option (ℕ × ℕ)) (t : Tree) (n : Annotation) (l : Launch) (k m : Kernel) (c : Cells) → DeclaresFor d local t n k → DeclaresFor d local t n m → SameContents l (start_state k c) (start_state m c)
same_contents d local t n l k m c a b = record {
  variables = λ j lt.
      ap₂ (λ (words vectors : ℕ). record { words = replicate words c.rest; vectors = replicate vectors (spread c.rest) }) (a.variables ∙ sym b.variables) (a.vectors ∙ sym b.vectors);
  memory = refl;
}

module _ (one_type : OneType) (rows : TermsAskForRows) (alike : PrintedKernelsGoAlike) (p : PlainProgram) (output : PlainTy) (local : Option (ℕ × ℕ)) (last : TermState) (accepted : IsAccepted p last.tree last.types) (keeps : Keeps (declared_by p) [] p.body last.tree) (typed : Types (declared_by p) [] p.body output)
    (k m : Kernel) (first : PrintsAtAll p local last k) (other : PrintsAtAll p local last m) (meets : MeetsSource p output local last m)
    (g : Given) (ok : IsAdmissibleFor p (asks_of local last.tree) g) (events releases : ℕ) (e : RunsAsGiven p output k g events releases) where
  abbrev w : World
  w = world_given g

  abbrev cells : Cells
  cells = begun p output w

  long : map length cells.outs ≡ map length (lists_of output (source_value p w))
  long = shape_of_rows (lists_of output (source_value p w)) cells.outs e.left.count e.left.lengths

  here : IsLaunchOf (declared_by p) (asks_of local last.tree) g.bases last.tree last.types g.launch
  here = record {
    admissible = ok.launch;
    sizes = ok.world.sizes;
    asked = rows (declared_by p) last.tree last.types local accepted.legal accepted.copies;
  }

  same_type : output ≡ type_in last.types
  same_type = one_type (declared_by p) [] last.tree output (type_in last.types) (keeps.typed output typed) (annotated_is_typed (declared_by p) [] last.tree last.types accepted.legal.nodes)

  same_value : meaning w [] last.tree ≡ source_value p w
  same_value = keeps.value w [] ok.world (λ n a e. absurd (cc (e)))

  buffers : AreBuffersOf (declared_by p) w last.tree last.types cells
  buffers = record {
    inputs = refl;
    outputs = long ∙ ap (λ (a : PlainTy). map length (lists_of a (source_value p w))) same_type ∙ ap (λ (v : Value). map length (lists_of (type_in last.types) v)) (sym same_value);
  }

  declares : (x : Kernel) → PrintsAtAll p local last x → DeclaresFor (declared_by p) local last.tree last.types x
  declares x prints = declares_for (printer_for last.tree) (declared_by p) local g.bases last.tree last.types g.launch x (prints g.bases g.launch here)

  go_alike : GoesAlike (device_of k g.launch cells) (start_state k cells) (device_of m g.launch cells) (start_state m cells)
  go_alike =
      alike (declared_by p) local last.tree last.types w g.launch k m cells (start_state k cells) (start_state m cells) accepted.legal accepted.copies ok.world here buffers
      (first g.bases g.launch here) (other g.bases g.launch here) (start_is k g.launch cells) (start_is m g.launch cells)
      (same_contents (declared_by p) local last.tree last.types g.launch k m cells (declares k first) (declares m other))

  admits : Admits p output (asks_of local last.tree) w g.launch cells
  admits = record { world = ok.world; launch = ok.launch; sizes = refl; inputs = refl; outputs = long }

  abbrev runs_alike : RunsAsGiven p output m g events releases
  runs_alike =
      ends_alike g.schedule k m g.launch cells (lists_of output (source_value p w)) events releases go_alike e
      (meets w g.launch cells admits (start_state m cells) e.run (start_is m g.launch cells) (go_alike.is_run e.run e.scheduled.is_run.enabled)).leaves

  traced_as : (traced : Bool) → traced_sights traced k g.launch cells e.run ≡ traced_sights traced m g.launch cells runs_alike.run
  traced_as traced = traced_alike g.schedule k m g.launch cells (lists_of output (source_value p w)) events releases go_alike e traced

module _ (one : OneKernel) (one_type : OneType) (rows : TermsAskForRows) (ends : CompilationEndsOnce) (alike : PrintedKernelsGoAlike) (program script launch : List ℕ) (traced : Bool) (lines : List ℕ) (ran : AreRunLines program script launch traced lines) where
  abbrev local : Option (ℕ × ℕ)
  local = local_fixed script

  abbrev last : TermState
  last = ran.compiled.last

  abbrev own : Kernel
  own = ran.run.run.kernel

  first : PrintsAtAll ran.source local last own
  first = subst (PrintsAtAll ran.source local last) (one lift ran.text ran.compiled.kernel own ran.compiled.written ran.run.run.read) ran.compiled.prints

  ok : IsAdmissibleFor ran.source (asks_of local last.tree) ran.given
  ok = subst (λ (a : Asks). IsAdmissibleFor ran.source a ran.given) (sym ran.compiled.asked) (given_is_admissible ran.source (Run ran.asks) launch ran.given refl ran.launch_file)

  module _ (output : PlainTy) (asks : Asks) (text : List ℕ) (other : IsCompiled program script ran.source output asks text) where
    same_last : other.last ≡ last
    same_last =
        let one_end = ends ran.source script (Ok other.last) (Ok last) other.legal ran.compiled.legal in
        cc (one_end)

    same_output : output ≡ ran.output
    same_output = one_type (declared_by ran.source) [] ran.source.body output ran.output other.typed.typed ran.compiled.typed.typed

    second : PrintsAtAll ran.source local last other.kernel
    second = subst (λ (x : TermState). PrintsAtAll ran.source local x other.kernel) same_last other.prints

    meets : MeetsSource ran.source ran.output local last other.kernel
    meets = subst (λ (a : PlainTy). MeetsSource ran.source a local last other.kernel) same_output (subst (λ (x : TermState). MeetsSource ran.source output local x other.kernel) same_last other.meets)

    abbrev e : RunsAsGiven ran.source ran.output other.kernel ran.given ran.run.events ran.run.releases
    e =
        runs_alike one_type rows alike ran.source ran.output local last ran.compiled.accepted ran.compiled.keeps ran.compiled.typed.typed own other.kernel first second meets ran.given ok
        ran.run.events ran.run.releases ran.run.run.run

    seen_of_both : traced_sights traced own ran.given.launch (begun ran.source ran.output (world_given ran.given)) ran.run.run.run.run
        ≡ traced_sights traced other.kernel ran.given.launch (begun ran.source ran.output (world_given ran.given)) e.run
    seen_of_both =
        traced_as one_type rows alike ran.source ran.output local last ran.compiled.accepted ran.compiled.keeps ran.compiled.typed.typed own other.kernel first second meets ran.given ok
        ran.run.events ran.run.releases ran.run.run.run traced

    for_program : AreLinesOfText ran.source ran.output text ran.given traced lines
    for_program = record {
      events = ran.run.events;
      releases = ran.run.releases;
      seen = ran.run.seen;
      run = record { kernel = other.kernel; read = other.written; run = e; seen_of_it = ran.run.run.seen_of_it ∙ seen_of_both };
      written = ran.run.written;
    }

  pub lines_alike : (source : PlainProgram) (output : PlainTy) (asks : Asks) (text : List ℕ) → IsCompiled program script source output asks text → AreLinesOf program launch traced text lines
  lines_alike source output asks text other =
      let same : source ≡ ran.source = ran.compiled.read.only source other.read.is in
      record {
        source = ran.source;
        output = ran.output;
        asks = ran.asks;
        read = ran.compiled.read;
        given = ran.given;
        launch_file = ran.launch_file;
        run = for_program output asks text (subst (λ (q : PlainProgram). IsCompiled program script q output asks text) same other);
      }
