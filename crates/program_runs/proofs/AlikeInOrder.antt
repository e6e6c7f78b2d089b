-- The line of kernels that are run in order is that of every text of the program's kernels.
use Rattle.std.proofs.Common.{◌≡◌, ◌∙◌, ◌++◌, ℕ, List, [], ◌∷◌, Option, Ok, ap, arith, length, length-append, map, refl, subst, sym}
use Rattle.std.specs.Prelude.{sum, sum_by}
use Rattle.std.proofs.lemmas.List.{length-map}
use Rattle.std.proofs.lemmas.List.Sums.{sum-map}
use Rattle.kernel_spelling.specs.SequenceText.{TextsAreOfOneSequence}
use Rattle.kernel_tree.specs.Alike.{GoesAlike}
use Rattle.kernel_tree.specs.Code.{Kernel}
use Rattle.kernel_tree.specs.Device.{IsRun, device_of, start_state}
use Rattle.kernel_tree.specs.Launch.{Cells, Launch}
use Rattle.kernel_tree.specs.declared.events.Event.{Event}
use Rattle.lift_tree.specs.Annotations.{type_in}
use Rattle.lift_tree.specs.Launches.{IsAdmissibleLaunch, buffers_of, lists_of}
use Rattle.lift_tree.specs.Lists.{Every}
use Rattle.lift_tree.specs.Meaning.{World, meaning}
use Rattle.lift_tree.specs.Programs.{PlainInput, PlainProgram}
use Rattle.lift_tree.specs.Types.{HasType, HoldsElements, IsOutput, PlainTy, U32, U32x4, PairOf, ArrayOf}
use Rattle.lift_tree.specs.Typing.{Declared, IsAdmissible, ValuesHaveTypes, declared_by}
use Rattle.lift_tree.specs.Values.{Value}
use Rattle.lift_tree.specs.WorkedOut.{worked_out}
use Rattle.lift_tree.proofs.Annotated.{annotated_is_typed}
use Rattle.lowered_tree.specs.Kinds.{asks_of}
use Rattle.size_arith.specs.declared.names.Name.{Name}
use Rattle.kernel_sequence.specs.Cut.{Part}
use Rattle.launch_file.specs.LaunchFile.{GivesInputs}
use Rattle.launch_file.specs.Stages.{Count, Shared}
use Rattle.ndrange_device.specs.Outcomes.{EndsUnder, capped}
use Rattle.nest_premises.specs.Laws.{TermsAskForRows}
use Rattle.nest_premises.specs.Printable.{printer_for}
use Rattle.printed_form.specs.Headline.{LeavesWanted}
use Rattle.printed_form.specs.Programs.{AreBuffersOf, DeclaresFor, IsLaunchOf}
use Rattle.sequence_runs.specs.Runs.{Stage}
use Rattle.serde_json.specs.Data.{Data}
use Rattle.strategy_script.specs.LocalSize.{local_fixed}
use Rattle.value_lists.specs.Laws.{ListsHaveLengths}
use Rattle.value_lists.specs.Lists.{list_lengths}
use Rattle.compilation.specs.Laws.{SequencesEndOnce}
use Rattle.compilation.specs.Sequence.{AreKernelsFor, HasLegalTerm, HaveInputsBehind, IsCompiledSequence, IsOwnKernel, Outline, outline_in, part_of, with_input}
use Rattle.program_runs.specs.Alike.{IsLineOfSequence, PrintedKernelsGoAlike}
use Rattle.program_runs.specs.Sequences.{AreAdmissibleFor, AreAdmissibleLaunches, AreRunInTurn, IsSequenceLine, KernelRun, RunInTurn, begun_from, launch_at}
use Rattle.program_runs.specs.Started.{IsRunStagesLine}
use Rattle.program_runs.proofs.Admitted.{stages_are_admissible}
use Rattle.program_runs.proofs.Alike.{declares_for, ends_alike, same_contents}
use Rattle.program_runs.proofs.Buffers.{buffers_more, types_more}
use Rattle.program_runs.proofs.LaidOut.{blank_lengths}
use Rattle.program_runs.proofs.Running.{rows_wanted, start_is}

-- the laws that it rests on
pub record Laws : Type 0 where
  pub one : TextsAreOfOneSequence
  pub ends : SequencesEndOnce
  pub rows : TermsAskForRows
  pub lengths : ListsHaveLengths
  pub values : ValuesHaveTypes
  pub alike : PrintedKernelsGoAlike

elements : (a : PlainTy) → IsOutput a → HoldsElements a
elements U32 h = absurd h
elements U32x4 h = absurd h
elements (PairOf a b) h = absurd h
elements (ArrayOf a n) h = h

-- ---- two kernels of one term

-- with this kernel for its own
abbrev with_kernel : Stage → Kernel → Stage
with_kernel k m = record k { kernel = m }

-- both are this term's, a legal one over what is declared
record AreOfOneTerm (local : Option (ℕ × ℕ)) (d : Declared) (k : Stage) (m : Kernel) : Type 0 where
  pub own : k.declared ≡ d
  pub term : HasLegalTerm k
  pub first : IsOwnKernel local k
  pub other : IsOwnKernel local (with_kernel k m)

-- and so they are one by one, each term behind what those before it make
abbrev AreOfOneTermEach : (local : Option (ℕ × ℕ)) → Declared → List Stage → List Stage → Type 0
AreOfOneTermEach local d [] [] = Unit {0}
AreOfOneTermEach local d [] (m ∷ ms) = ⊥
AreOfOneTermEach local d (k ∷ ks) [] = ⊥
AreOfOneTermEach local d (k ∷ ks) (m ∷ ms) =
    AreOfOneTerm local d k m.kernel × AreOfOneTermEach local (with_input d (type_in k.types)) ks ms

one_term_each : (local : Option (ℕ × ℕ)) (d : Declared) (ks ms : List Stage) → map part_of ks ≡ map part_of ms → HaveInputsBehind d ks → HaveInputsBehind d ms
    → Every HasLegalTerm ks → AreKernelsFor local ks → AreKernelsFor local ms → AreOfOneTermEach local d ks ms
one_term_each local d [] [] same behind beside legal first other = tt
one_term_each local d [] (m ∷ ms) same behind beside legal first other = absurd (cc (same))
one_term_each local d (k ∷ ks) [] same behind beside legal first other = absurd (cc (same))
one_term_each local d (k ∷ ks) (m ∷ ms) same behind beside legal first other =
    let this : part_of k ≡ part_of m = cc (same) in (
      record {
        own = behind.0;
        term = legal.0;
        first = first.0;
        other = subst (λ (z : Part). IsOwnKernel local (record { declared = k.declared; tree = z.tree; types = z.types; kernel = m.kernel })) (sym this)
            (subst (λ (z : Declared). IsOwnKernel local (record { declared = z; tree = m.tree; types = m.types; kernel = m.kernel })) (beside.0 ∙ sym behind.0) other.0);
      },
      one_term_each local (with_input d (type_in k.types)) ks ms (cc (same)) behind.1 (subst (λ (z : Part). HaveInputsBehind (with_input d (type_in z.types)) ms) (sym this) beside.1) legal.1 first.1 other.1,
    )

-- ---- kernels in order

abbrev outlines_of : (local : Option (ℕ × ℕ)) → List Stage → List Outline
outlines_of local ks = map (outline_in local) (map part_of ks)

module _ (laws : Laws) (p : PlainProgram) (local : Option (ℕ × ℕ)) (s : Shared) where
  -- where inputs have these values
  abbrev world_of : List Value → World
  world_of vs = record { bases = s.bases; sizes = s.sizes; inputs = vs }

  -- inputs of what is declared, which have these values and are held in these buffers
  record Holds (d : Declared) (vs : List Value) (ins : List (List ℕ)) : Type 0 where
    pub names : d.names ≡ (declared_by p).names
    pub admissible : IsAdmissible d (world_of vs)
    pub even : length d.inputs ≡ length vs
    pub buffers : ins ≡ buffers_of d.inputs vs

  -- the first of the kernels to come, and another of its term
  module _ (d : Declared) (vs : List Value) (ins : List (List ℕ)) (holds : Holds d vs ins) (k : Stage) (m : Kernel) (two : AreOfOneTerm local d k m)
      (c : Count) (its : IsAdmissibleLaunch (declared_by p).names (asks_of local k.tree) s.bases c.global c.local) where
    abbrev w : World
    w = world_of vs

    abbrev l : Launch
    l = launch_at s.sizes c

    abbrev cells : Cells
    cells = begun_from ins s.bases (type_in k.types)

    abbrev wanted : List (List ℕ)
    wanted = lists_of (type_in k.types) (meaning w [] k.tree)

    ok : IsAdmissible k.declared w
    ok = subst (λ (z : Declared). IsAdmissible z w) (sym two.own) holds.admissible

    launch : IsAdmissibleLaunch k.declared.names (asks_of local k.tree) s.bases c.global c.local
    launch = subst (λ (z : List Name). IsAdmissibleLaunch z (asks_of local k.tree) s.bases c.global c.local) (sym (ap (λ (z : Declared). z.names) two.own ∙ holds.names)) its

    here : IsLaunchOf k.declared (asks_of local k.tree) s.bases k.tree k.types l
    here = record { admissible = launch; sizes = ok.sizes; asked = laws.rows k.declared k.tree k.types local two.term.legal two.term.copies }

    typed : HasType s.bases (type_in k.types) (meaning w [] k.tree)
    typed =
        laws.values k.declared w [] [] k.tree (type_in k.types) two.term.legal.declared ok tt (λ n a e. absurd (cc (e)))
        (annotated_is_typed k.declared [] k.tree k.types two.term.legal.nodes)

    buffers : AreBuffersOf k.declared w k.tree k.types cells
    buffers = record {
      inputs = holds.buffers ∙ ap (λ (z : Declared). buffers_of z.inputs vs) (sym two.own);
      outputs = blank_lengths (list_lengths s.bases (type_in k.types)) ∙ sym (laws.lengths s.bases (type_in k.types) (meaning w [] k.tree) (elements (type_in k.types) two.term.legal.output) typed);
    }

    declares : (x : Kernel) → IsOwnKernel local (with_kernel k x) → DeclaresFor k.declared local k.tree k.types x
    declares x is = declares_for (printer_for k.tree) k.declared local s.bases k.tree k.types l x (is.prints s.bases l here)

    go_alike : GoesAlike (device_of k.kernel l cells) (start_state k.kernel cells) (device_of m l cells) (start_state m cells)
    go_alike =
        laws.alike k.declared local k.tree k.types w l k.kernel m cells (start_state k.kernel cells) (start_state m cells) two.term.legal two.term.copies ok here buffers
        (two.first.prints s.bases l here) (two.other.prints s.bases l here) (start_is k.kernel l cells) (start_is m l cells)
        (same_contents k.declared local k.tree k.types l k.kernel m cells (declares k.kernel two.first) (declares m two.other))

    leaves : (x : Kernel) → IsOwnKernel local (with_kernel k x) → (es : List Event) → IsRun (device_of x l cells) (start_state x cells) es → LeavesWanted x l cells wanted (start_state x cells) es
    leaves x is es run = (is.keeps w l cells ok here buffers (start_state x cells) es (start_is x l cells) run).leaves

    module _ (rows : List (List ℕ)) (events releases : ℕ) (e : EndsUnder s.schedule k.kernel l cells rows events releases) where
      left_is : rows ≡ wanted
      left_is = rows_wanted s.schedule k.kernel l cells rows wanted events releases e (leaves k.kernel two.first e.run e.scheduled.is_run.enabled)

      other_ends : EndsUnder s.schedule m l cells rows events releases
      other_ends =
          ends_alike s.schedule k.kernel m l cells rows events releases go_alike e
          (subst (λ (z : List (List ℕ)). LeavesWanted m l cells z (start_state m cells) e.run) (sym left_is) (leaves m two.other e.run (go_alike.is_run e.run e.scheduled.is_run.enabled)))

      -- and so for those behind it
      holds_more : Holds (with_input d (type_in k.types)) (vs ++ meaning w [] k.tree ∷ []) (ins ++ rows)
      holds_more =
          let even = holds.even in
          record {
            names = holds.names;
            admissible = record {
              bases = holds.admissible.bases;
              sizes = holds.admissible.sizes;
              inputs = types_more s.bases d.inputs vs (type_in k.types) (meaning w [] k.tree) even holds.admissible.inputs typed;
            };
            even = omega (arith, even, length-append d.inputs (type_in k.types ∷ []), length-append vs (meaning w [] k.tree ∷ []));
            buffers =
                ap (λ (z : List (List ℕ)). z ++ rows) holds.buffers ∙ ap (λ (z : List (List ℕ)). buffers_of d.inputs vs ++ z) left_is
                ∙ sym (buffers_more d.inputs vs (type_in k.types) (meaning w [] k.tree) even);
          }

  -- runs in turn of other kernels, with as many events as these
  record RunAlike (ins : List (List ℕ)) (ks ms : List Stage) (cs : List Count) (rs : List KernelRun) : Type 0 where
    pub runs : List KernelRun
    pub of_kernels : map (λ (r : KernelRun). r.kernel) runs ≡ map (λ (m : Stage). m.kernel) ms
    pub of_outputs : map (λ (r : KernelRun). r.output) runs ≡ map (λ (o : Outline). o.output) (outlines_of local ks)
    pub of_launches : map (λ (r : KernelRun). r.launch) runs ≡ map (launch_at s.sizes) cs
    pub run : RunInTurn s.schedule s.bases ins runs
    pub events : map (λ (r : KernelRun). r.events) rs ≡ map (λ (r : KernelRun). r.events) runs
    pub releases : map (λ (r : KernelRun). r.releases) rs ≡ map (λ (r : KernelRun). r.releases) runs

  -- a run of just this kernel, output and launch
  as_its : (ins : List (List ℕ)) (r : KernelRun) (k : Kernel) (a : PlainTy) (l : Launch) → r.kernel ≡ k → r.output ≡ a → r.launch ≡ l
      → EndsUnder s.schedule r.kernel r.launch (begun_from ins s.bases r.output) r.left r.events r.releases
      → EndsUnder s.schedule k l (begun_from ins s.bases a) r.left r.events r.releases
  as_its ins r k a l kernel output launch e =
      subst (λ (z : Kernel). EndsUnder s.schedule z l (begun_from ins s.bases a) r.left r.events r.releases) kernel
      (subst (λ (z : Launch). EndsUnder s.schedule r.kernel z (begun_from ins s.bases a) r.left r.events r.releases) launch
      (subst (λ (z : PlainTy). EndsUnder s.schedule r.kernel r.launch (begun_from ins s.bases z) r.left r.events r.releases) output e))

  run_alike : (d : Declared) (vs : List Value) (ins : List (List ℕ)) (ks ms : List Stage) (cs : List Count) (rs : List KernelRun)
      → Holds d vs ins → AreOfOneTermEach local d ks ms → AreAdmissibleLaunches p s.bases (outlines_of local ks) cs
      → map (λ (r : KernelRun). r.kernel) rs ≡ map (λ (k : Stage). k.kernel) ks
      → map (λ (r : KernelRun). r.output) rs ≡ map (λ (o : Outline). o.output) (outlines_of local ks)
      → map (λ (r : KernelRun). r.launch) rs ≡ map (launch_at s.sizes) cs
      → RunInTurn s.schedule s.bases ins rs
      → RunAlike ins ks ms cs rs
  run_alike d vs ins [] [] [] [] holds two launches kernels outputs at run =
      record { runs = []; of_kernels = refl; of_outputs = refl; of_launches = refl; run = tt; events = refl; releases = refl }
  run_alike d vs ins [] [] [] (r ∷ rs) holds two launches kernels outputs at run = absurd (cc (kernels))
  run_alike d vs ins [] [] (c ∷ cs) rs holds two launches kernels outputs at run = absurd launches
  run_alike d vs ins [] (m ∷ ms) cs rs holds two launches kernels outputs at run = absurd two
  run_alike d vs ins (k ∷ ks) [] cs rs holds two launches kernels outputs at run = absurd two
  run_alike d vs ins (k ∷ ks) (m ∷ ms) [] rs holds two launches kernels outputs at run = absurd launches
  run_alike d vs ins (k ∷ ks) (m ∷ ms) (c ∷ cs) [] holds two launches kernels outputs at run = absurd (cc (kernels))
  run_alike d vs ins (k ∷ ks) (m ∷ ms) (c ∷ cs) (r ∷ rs) holds two launches kernels outputs at run =
      let a = type_in k.types in
      let l = launch_at s.sizes c in
      let e : EndsUnder s.schedule k.kernel l (begun_from ins s.bases a) r.left r.events r.releases = as_its ins r k.kernel a l (cc (kernels)) (cc (outputs)) (cc (at)) run.0 in
      let rest =
      run_alike (with_input d a) (vs ++ meaning (world_of vs) [] k.tree ∷ []) (ins ++ r.left) ks ms cs rs (holds_more d vs ins holds k m.kernel two.0 c launches.0 r.left r.events r.releases e)
      two.1 launches.1 (cc (kernels)) (cc (outputs)) (cc (at)) run.1 in
      record {
        runs = record { kernel = m.kernel; output = a; launch = l; left = r.left; events = r.events; releases = r.releases } ∷ rest.runs;
        of_kernels = ap (λ (z : List Kernel). m.kernel ∷ z) rest.of_kernels;
        of_outputs = ap (λ (z : List PlainTy). a ∷ z) rest.of_outputs;
        of_launches = ap (λ (z : List Launch). l ∷ z) rest.of_launches;
        run = (other_ends d vs ins holds k m.kernel two.0 c launches.0 r.left r.events r.releases e, rest.run);
        events = ap (λ (z : List ℕ). r.events ∷ z) rest.events;
        releases = ap (λ (z : List ℕ). r.releases ∷ z) rest.releases;
      }

-- ---- texts

same_sum : (f : KernelRun → ℕ) (rs qs : List KernelRun) → map f rs ≡ map f qs → sum_by f rs ≡ sum_by f qs
same_sum f rs qs same = sym (sum-map f rs) ∙ ap sum same ∙ sum-map f qs

-- a launch file gives each input
given_each : (is : List PlainInput) (d : Data) (vs : List Value) → GivesInputs is d vs → length is ≡ length vs
given_each [] d [] h = refl
given_each [] d (v ∷ vs) h = absurd h
given_each (i ∷ is) d [] h = absurd h
given_each (i ∷ is) d (v ∷ vs) h = let e = given_each is d vs h.1 in omega (arith, e)

module _ (laws : Laws) (program script launch line : List ℕ) (ran : IsRunStagesLine program script launch line) where
  abbrev p : PlainProgram
  p = ran.source

  abbrev local : Option (ℕ × ℕ)
  local = local_fixed script

  abbrev s : Shared
  s = ran.given.shared

  abbrev first : List Stage
  first = ran.compiled.kernels

  outlined : outlines_of local first ≡ ran.outlines
  outlined = ap (map (outline_in local)) ran.compiled.terms ∙ ran.compiled.outlined

  admitted : AreAdmissibleFor p ran.outlines ran.given
  admitted = stages_are_admissible p ran.outlines launch ran.given ran.launch_file

  even : length (declared_by p).inputs ≡ length s.inputs
  even =
      let inputs = ran.launch_file.2.shared.inputs in
      let given = given_each p.inputs inputs.0 s.inputs inputs.3 in
      length-map p.inputs (λ (i : PlainInput). worked_out (declared_by p).names i.ty) ∙ given

  kernels_are : ran.run.kernels ≡ map (λ (k : Stage). k.kernel) first
  kernels_are = laws.one ran.text ran.run.kernels (map (λ (k : Stage). k.kernel) first) ran.run.read ran.compiled.written

  module _ (output : PlainTy) (outlines : List Outline) (text : List ℕ) (other : IsCompiledSequence program script ran.source output outlines text) where
    same_terms : map part_of first ≡ map part_of other.kernels
    same_terms =
        let one_end = laws.ends p script (Ok ran.compiled.parts) (Ok other.parts) ran.compiled.compiled other.compiled in
        let same : ran.compiled.parts ≡ other.parts = cc (one_end) in
        ran.compiled.terms ∙ same ∙ sym other.terms

    abbrev of_run : AreRunInTurn s (buffers_of (declared_by p).inputs s.inputs) ran.run.kernels ran.outlines ran.given.counts ran.run.events ran.run.releases
    of_run = ran.run.run

    runs : RunAlike laws p local s (buffers_of (declared_by p).inputs s.inputs) first other.kernels ran.given.counts of_run.runs
    runs =
        run_alike laws p local s (declared_by p) s.inputs (buffers_of (declared_by p).inputs s.inputs) first other.kernels ran.given.counts of_run.runs
        (record { names = refl; admissible = admitted.world; even = even; buffers = refl })
        (one_term_each local (declared_by p) first other.kernels same_terms ran.compiled.inputs other.inputs ran.compiled.legal ran.compiled.each other.each)
        (subst (λ (z : List Outline). AreAdmissibleLaunches p s.bases z ran.given.counts) (sym outlined) admitted.launches)
        (of_run.of_kernels ∙ kernels_are) (of_run.of_outputs ∙ ap (map (λ (o : Outline). o.output)) (sym outlined)) of_run.of_launches of_run.run

    line_is : IsSequenceLine ran.source ran.outlines text ran.given line
    line_is = record {
      kernels = map (λ (m : Stage). m.kernel) other.kernels;
      read = other.written;
      events = ran.run.events;
      releases = ran.run.releases;
      run = record {
        runs = runs.runs;
        of_kernels = runs.of_kernels;
        of_outputs = runs.of_outputs ∙ ap (map (λ (o : Outline). o.output)) outlined;
        of_launches = runs.of_launches;
        run = runs.run;
        counted = of_run.counted ∙ ap capped (same_sum (λ (r : KernelRun). r.events) of_run.runs runs.runs runs.events);
        released = of_run.released ∙ ap capped (same_sum (λ (r : KernelRun). r.releases) of_run.runs runs.runs runs.releases);
      };
      written = ran.run.written;
    }

  pub line_alike : (source : PlainProgram) (output : PlainTy) (outlines : List Outline) (text : List ℕ) → IsCompiledSequence program script source output outlines text → IsLineOfSequence program launch text line
  line_alike source output outlines text other =
      let same : source ≡ ran.source = ran.compiled.read.only source other.read.is in
      record {
        source = ran.source;
        outlines = ran.outlines;
        read = ran.compiled.read;
        given = ran.given;
        launch_file = ran.launch_file;
        run = line_is output outlines text (subst (λ (q : PlainProgram). IsCompiledSequence program script q output outlines text) same other);
      }
