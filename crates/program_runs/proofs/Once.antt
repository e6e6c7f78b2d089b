-- The stages of each command come to one end.
use Rattle.std.proofs.Common.{◌≡◌, ◌∙◌, ℕ, List, ap, map, sym, subst, refl, arith, inl, inr, None, Result, Ok, Err}
use Rattle.std.proofs.lemmas.Option.{none-some, same_Some}
use Rattle.lift_reader.specs.ProgramText.{IsProgramText, first_limit}
use Rattle.lift_reader.specs.declared.refusal.ReadRefusal.TheVariants as readings
use Rattle.lift_tree.specs.Limits.{HasProperInputs}
use Rattle.lift_tree.specs.Programs.{PlainProgram}
use Rattle.lift_tree.specs.Launches.{Asks}
use Rattle.lowered_tree.specs.Kinds.{asks_of}
use Rattle.launch_file.specs.Judged as launches
use Rattle.launch_file.specs.Laws.{FilesAreNotRefused, FilesGiveOneThing, StagesFilesAreNotRefused, StagesFilesGiveOneThing}
use Rattle.launch_file.specs.Stages as in_order
use Rattle.launch_file.specs.LaunchFile as asks
use Rattle.launch_file.specs.LaunchFile.{PlainAsk}
use Rattle.launch_file.specs.declared.refusal.LaunchNo.{LaunchNo}
use Rattle.launch_file.specs.declared.refusal.LaunchNo.TheVariants as no
use Rattle.pattern_types.specs.declared.refusal.TypeRefusal.TheVariants as typings
use Rattle.strategy_script.specs.declared.faults.StepNo.TheVariants as stops
use Rattle.strategy_script.specs.declared.script.ScriptNo.TheVariants as scripts
use Rattle.kernel_sequence.specs.declared.no.CutNo.TheVariants as cuts
use Rattle.thread_mapping.specs.declared.judging.NestNo.TheVariants as nests
use Rattle.buffer_allocation.specs.declared.buffers.AllocNo.TheVariants as allocations
use Rattle.fault_lines.specs.Failure.{Failure, HidesNoMemory, launch_failed, source_failed}
use Rattle.fault_lines.specs.declared.refusal.Refusal.{Refusal}
use Rattle.fault_lines.specs.declared.refusal.Refusal.TheVariants as told
use Rattle.strategy_script.specs.LocalSize.{local_fixed}
use Rattle.stages.specs.Stages.{As, Gives, IsOne, Passed}
use Rattle.stages.proofs.One.{as_one, err_same, gives_one, then_one}
use Rattle.program_source.specs.Ends.{Accepts, HasOneEnd, OnSource}
use Rattle.program_source.specs.Laws.{SourcesEndOnce, TypedProgramsAreProper}
use Rattle.program_source.specs.Program.{IsRead, ReadsProgram, TypesOf}
use Rattle.program_source.specs.Terms.{TermsOf}
use Rattle.compilation.specs.Laws.{CompilationEndsOnce, SequencesEndOnce}
use Rattle.compilation.specs.Legal.{LegalOf}
use Rattle.compilation.specs.Sequence.{SequenceOf, outline_in}
use Rattle.program_runs.specs.Started.{EvalOf, LaunchOf, LaunchedOf, LaunchesOf, RunStagesOf, asks_in_order}
use Rattle.program_runs.specs.Table.{stages_of, text_at}
use Rattle.program_runs.specs.declared.command.Command.{Command}
use Rattle.program_runs.specs.declared.command.Command.TheVariants.{Compile, Run, Cost, Eval, Steps, Stages, RunStages, Demo}

-- what is known of programs that are typed, and of their launch files
pub record LaunchLaws : Type 0 where
  pub proper : TypedProgramsAreProper
  pub refused : FilesAreNotRefused
  pub one : FilesGiveOneThing
  pub refused_in_order : StagesFilesAreNotRefused
  pub one_in_order : StagesFilesGiveOneThing

launch_one : FilesAreNotRefused → FilesGiveOneThing → (p : PlainProgram) (ask : PlainAsk) (launch : List ℕ) → HasProperInputs p → IsOne (LaunchOf p ask launch)
launch_one well one p ask launch proper (Ok g) (Ok h) a b = ap Ok (one p ask launch g h proper a b)
launch_one well one p ask launch proper (Ok g) (Err e) a b = absurd (well p ask launch g e proper a b)
launch_one well one p ask launch proper (Err e) (Ok g) a b = absurd (well p ask launch g e proper b a)
launch_one well one p ask launch proper (Err e) (Err f) (inl a) (inl b) = ap Err (a.1 ∙ sym b.1)
launch_one well one p ask launch proper (Err e) (Err f) (inl a) (inr b) = absurd (a.0 b.0 b.1)
launch_one well one p ask launch proper (Err e) (Err f) (inr a) (inl b) = absurd (b.0 a.0 a.1)
launch_one well one p ask launch proper (Err e) (Err f) (inr a) (inr b) =
    sym a.2 ∙ ap (launches.judged p ask) (same_Some a.0 b.0 (sym a.1.1 ∙ b.1.1)) ∙ b.2

launched_one : CompilationEndsOnce → LaunchLaws → (ask : Asks → PlainAsk) (text : List ℕ) (p : PlainProgram) (script launch : List ℕ) → IsRead text p → IsOne (LaunchedOf ask p script launch)
launched_one compiled laws ask text p script launch read =
    then_one _ _ (as_one source_failed (LegalOf p script) (compiled p script)) (λ last is.
    as_one (launch_failed p) (LaunchOf p (ask (asks_of (local_fixed script) last.tree)) launch) (launch_one laws.refused laws.one p (ask (asks_of (local_fixed script) last.tree)) launch (laws.proper text p is.1.0 read is.1.1)))

launches_one : StagesFilesAreNotRefused → StagesFilesGiveOneThing → (p : PlainProgram) (asks : List PlainAsk) (launch : List ℕ) → HasProperInputs p → IsOne (LaunchesOf p asks launch)
launches_one well one p asks launch proper (Ok g) (Ok h) a b = ap Ok (one p asks launch g h proper a b)
launches_one well one p asks launch proper (Ok g) (Err e) a b = absurd (well p asks launch g e proper a b)
launches_one well one p asks launch proper (Err e) (Ok g) a b = absurd (well p asks launch g e proper b a)
launches_one well one p asks launch proper (Err e) (Err f) (inl a) (inl b) = ap Err (a.1 ∙ sym b.1)
launches_one well one p asks launch proper (Err e) (Err f) (inl a) (inr b) = absurd (a.0 b.0 b.1)
launches_one well one p asks launch proper (Err e) (Err f) (inr a) (inl b) = absurd (b.0 a.0 a.1)
launches_one well one p asks launch proper (Err e) (Err f) (inr a) (inr b) =
    sym a.2 ∙ ap (in_order.stages_judged p asks) (same_Some a.0 b.0 (sym a.1.1 ∙ b.1.1)) ∙ b.2

run_stages_one : SequencesEndOnce → LaunchLaws → (text : List ℕ) (p : PlainProgram) (script launch : List ℕ) → IsRead text p → IsOne (RunStagesOf p script launch)
run_stages_one compiled laws text p script launch read =
    then_one _ _ (as_one source_failed (SequenceOf p script) (compiled p script)) (λ parts made.
    as_one (launch_failed p) (LaunchesOf p (asks_in_order (map (outline_in (local_fixed script)) parts)) launch)
    (launches_one laws.refused_in_order laws.one_in_order p (asks_in_order (map (outline_in (local_fixed script)) parts)) launch (laws.proper text p made.1.0 read made.1.1)))

eval_one : SourcesEndOnce → LaunchLaws → (text : List ℕ) (p : PlainProgram) (launch : List ℕ) → IsRead text p → IsOne (EvalOf p launch)
eval_one sources laws text p launch read =
    then_one _ _ (as_one source_failed (TypesOf p) (sources.types p)) (λ types is.
    as_one (launch_failed p) (LaunchOf p asks.Eval launch) (launch_one laws.refused laws.one p asks.Eval launch (laws.proper text p types read is)))

-- ---- a cause hides no want of memory

refusal_whole : (why : Refusal) → HidesNoMemory (source_failed why)
refusal_whole (told.Program readings.Memory) = λ e. refl
refusal_whole (told.Typing typings.Memory) = λ e. refl
refusal_whole (told.Script scripts.Memory) = λ e. refl
refusal_whole (told.Step stops.Memory) = λ e. refl
refusal_whole (told.Nest nests.Memory) = λ e. refl
refusal_whole (told.Alloc allocations.Memory) = λ e. refl
refusal_whole (told.Cut cuts.Memory) = λ e. refl
refusal_whole told.Memory = λ e. refl
refusal_whole _ = λ e. absurd (omega (arith, e))

launch_whole : (p : PlainProgram) (why : LaunchNo) → HidesNoMemory (launch_failed p why)
launch_whole p no.Memory = λ e. refl
launch_whole p _ = λ e. absurd (omega (arith, e))

-- so does one that is told as such a refusal
told_whole : (f : Failure) (why : Refusal) → f ≡ source_failed why → HidesNoMemory f
told_whole f why is = subst HidesNoMemory (sym is) (refusal_whole why)

source_whole : {A : Type 0} (R : PlainProgram → Result A Refusal → Type 0) (p : PlainProgram) (f : Failure) → As source_failed (R p) (Err f) → HidesNoMemory f
source_whole R p f (why, h, is) = told_whole f why is

launched_whole : (ask : Asks → PlainAsk) (script launch : List ℕ) (p : PlainProgram) (f : Failure) → LaunchedOf ask p script launch (Err f) → HidesNoMemory f
launched_whole ask script launch p f (inl (why, h, is)) = told_whole f why is
launched_whole ask script launch p f (inr (last, legal, (why, h, is))) = subst HidesNoMemory (sym is) (launch_whole p why)

run_stages_whole : (script launch : List ℕ) (p : PlainProgram) (f : Failure) → RunStagesOf p script launch (Err f) → HidesNoMemory f
run_stages_whole script launch p f (inl (why, h, is)) = told_whole f why is
run_stages_whole script launch p f (inr (parts, made, (why, h, is))) = subst HidesNoMemory (sym is) (launch_whole p why)

eval_whole : (launch : List ℕ) (p : PlainProgram) (f : Failure) → EvalOf p launch (Err f) → HidesNoMemory f
eval_whole launch p f (inl (why, h, is)) = told_whole f why is
eval_whole launch p f (inr (types, typed, (why, h, is))) = subst HidesNoMemory (sym is) (launch_whole p why)

all_whole : {A : Type 0} (text : List ℕ) (S : PlainProgram → Result A Failure → Type 0) → ((p : PlainProgram) (f : Failure) → S p (Err f) → HidesNoMemory f) → (f : Failure) → OnSource text S (Err f) → HidesNoMemory f
all_whole text S each f (inl (why, h, is)) = told_whole f (told.Program why) is
all_whole text S each f (inr (p, read, h)) = each p f h

-- ---- whole texts

one_cause : {A : Type 0} (text : List ℕ) (S : PlainProgram → Result A Failure → Type 0) → IsOne (OnSource text S) → (f g : Failure) → OnSource text S (Err f) → OnSource text S (Err g) → f ≡ g
one_cause text S one f g h k = err_same _ f g refl (one (Err f) (Err g) h k)

-- a program's text is read as that program, unless it is refused
read_or_refused : {A : Type 0} (text : List ℕ) (S : PlainProgram → Result A Failure → Type 0) (f : Failure) (p : PlainProgram) → IsProgramText text p → first_limit p ≡ None → OnSource text S (Err f) → IsRead text p
read_or_refused text S f p is within (inl (readings.Syntax token offset, h, e)) = absurd (h.1 p is)
read_or_refused text S f p is within (inl (readings.Limit which count, h, e)) = absurd (none-some _ (sym within ∙ h.passes p is))
read_or_refused text S f p is within (inl (readings.Memory, h, e)) = absurd h
read_or_refused text S f p is within (inr (q, read, h)) = subst (IsRead text) (sym (read.only p is)) read

no_cause : {A : Type 0} (text : List ℕ) (S : PlainProgram → Result A Failure → Type 0) → IsOne (OnSource text S) → (f : Failure) → Accepts text S → OnSource text S (Err f) → ⊥
no_cause text S one f (p, is, within, (a, h)) refused =
    let read = read_or_refused text S f p is within refused in
    let two : Ok a ≡ Err f = one (Ok a) (Err f) (p, read, h) refused in
    cc (two)

one_end : {A : Type 0} → SourcesEndOnce → (text : List ℕ) (S : PlainProgram → Result A Failure → Type 0) → ((p : PlainProgram) → IsRead text p → IsOne (S p))
    → ((p : PlainProgram) (f : Failure) → S p (Err f) → HidesNoMemory f) → HasOneEnd text S
one_end sources text S each whole =
    let one : IsOne (OnSource text S) = then_one _ S (as_one (λ why. source_failed (told.Program why)) (ReadsProgram text) (sources.read text)) each in
    record { cause = one_cause text S one; none = no_cause text S one; whole = all_whole text S whole }

-- ---- commands

-- a stage of which it is told only that it passes comes to the same end
passed_end : {A : Type 0} (text : List ℕ) (S : PlainProgram → Result A Failure → Type 0) → HasOneEnd text S → HasOneEnd text (λ p. Passed (S p))
passed_end text S end = record { cause = end.cause; none = λ f ok. end.none f (ok.0, ok.1, ok.2, ok.3.1); whole = end.whole }

terms_end : SourcesEndOnce → (program script : List ℕ) → HasOneEnd program (λ p. As source_failed (TermsOf p script))
terms_end sources program script = one_end sources program (λ p. As source_failed (TermsOf p script)) (λ p read. as_one source_failed (TermsOf p script) (sources.terms p script)) (source_whole (λ p. TermsOf p script))

kernel_end : SourcesEndOnce → CompilationEndsOnce → (program script : List ℕ) → HasOneEnd program (λ p. As source_failed (LegalOf p script))
kernel_end sources compiled program script = one_end sources program (λ p. As source_failed (LegalOf p script)) (λ p read. as_one source_failed (LegalOf p script) (compiled p script)) (source_whole (λ p. LegalOf p script))

launched_end : SourcesEndOnce → CompilationEndsOnce → LaunchLaws → (ask : Asks → PlainAsk) (program script launch : List ℕ) → HasOneEnd program (λ p. LaunchedOf ask p script launch)
launched_end sources compiled laws ask program script launch = one_end sources program (λ p. LaunchedOf ask p script launch) (λ p read. launched_one compiled laws ask program p script launch read) (launched_whole ask script launch)

eval_end : SourcesEndOnce → LaunchLaws → (program launch : List ℕ) → HasOneEnd program (λ p. EvalOf p launch)
eval_end sources laws program launch = one_end sources program (λ p. EvalOf p launch) (λ p read. eval_one sources laws program p launch read) (eval_whole launch)

stages_end : SourcesEndOnce → SequencesEndOnce → (program script : List ℕ) → HasOneEnd program (λ p. As source_failed (SequenceOf p script))
stages_end sources compiled program script = one_end sources program (λ p. As source_failed (SequenceOf p script)) (λ p read. as_one source_failed (SequenceOf p script) (compiled p script)) (source_whole (λ p. SequenceOf p script))

run_stages_end : SourcesEndOnce → SequencesEndOnce → LaunchLaws → (program script launch : List ℕ) → HasOneEnd program (λ p. RunStagesOf p script launch)
run_stages_end sources compiled laws program script launch = one_end sources program (λ p. RunStagesOf p script launch) (λ p read. run_stages_one compiled laws program p script launch read) (run_stages_whole script launch)

demo_end : SourcesEndOnce → (program : List ℕ) → HasOneEnd program (λ p. Gives (tt {0}))
demo_end sources program = one_end sources program (λ p. Gives (tt {0})) (λ p read. gives_one (tt {0})) (λ p f h. absurd (cc (h)))

pub commands_end : SourcesEndOnce → CompilationEndsOnce → SequencesEndOnce → LaunchLaws → (command : Command) (texts : List (List ℕ)) → HasOneEnd (text_at texts 0) (stages_of command texts)
commands_end sources compiled sequences laws Compile texts = passed_end _ _ (kernel_end sources compiled (text_at texts 0) (text_at texts 1))
commands_end sources compiled sequences laws (Run traced) texts = passed_end _ _ (launched_end sources compiled laws asks.Run (text_at texts 0) (text_at texts 1) (text_at texts 2))
commands_end sources compiled sequences laws (Cost items) texts = passed_end _ _ (launched_end sources compiled laws asks.Cost (text_at texts 0) (text_at texts 1) (text_at texts 2))
commands_end sources compiled sequences laws Eval texts = passed_end _ _ (eval_end sources laws (text_at texts 0) (text_at texts 1))
commands_end sources compiled sequences laws Steps texts = passed_end _ _ (terms_end sources (text_at texts 0) (text_at texts 1))
commands_end sources compiled sequences laws Stages texts = passed_end _ _ (stages_end sources sequences (text_at texts 0) (text_at texts 1))
commands_end sources compiled sequences laws RunStages texts = passed_end _ _ (run_stages_end sources sequences laws (text_at texts 0) (text_at texts 1) (text_at texts 2))
commands_end sources compiled sequences laws (Demo seed) texts = demo_end sources (text_at texts 0)
