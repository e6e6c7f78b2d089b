-- No stage refuses the demo, and its launch is admissible.
use Rattle.std.proofs.Common.{◌≡◌, ◌∙◌, ap, ap₂, sym, subst, refl, inl, inr, ℕ, List, [], ◌∷◌, Option, None, Ok, Err}
use Rattle.lift_tree.specs.Launches.{Asks}
use Rattle.lift_tree.specs.Programs.{PlainProgram}
use Rattle.lift_tree.specs.Types.{PlainTy}
use Rattle.lowered_tree.specs.Kinds.{asks_of}
use Rattle.lowered_tree.specs.Nest.{IsLegalWith, LegalWithoutFault}
use Rattle.strategy_script.specs.LocalSize.{local_fixed}
use Rattle.strategy_script.specs.Scripts.{PlainScript}
use Rattle.strategy_script.specs.Steps.{State}
use Rattle.fault_lines.specs.Failure.{source_failed}
use Rattle.fault_lines.specs.declared.refusal.Refusal.{Refusal}
use Rattle.fault_lines.specs.declared.refusal.Refusal.TheVariants as told
use Rattle.demo_program.specs.Accepted.{DemoIsAccepted, demo_asks, demo_program}
use Rattle.demo_program.specs.Admitted.{DemosMayRun}
use Rattle.demo_program.specs.Data.{demo_given}
use Rattle.demo_program.specs.Texts.{program_text, script_text}
use Rattle.program_source.specs.Ends.{OnSource}
use Rattle.program_source.specs.Program.{OnProgram, StopsFor}
use Rattle.stages.specs.Stages.{As}
use Rattle.stages.proofs.One.{ok_same}
use Rattle.compilation.specs.Compiled.{IsCompiled}
use Rattle.compilation.specs.Laws.{CompilationEndsOnce}
use Rattle.compilation.specs.Legal.{LegalOf}
use Rattle.program_runs.specs.Runs.{IsAdmissibleFor}
use Rattle.program_runs.specs.Table.{StagesEndOnce}
use Rattle.program_runs.specs.declared.command.Command.TheVariants.{Compile}

-- no local size is fixed
no_size : DemoIsAccepted → None ≡ local_fixed script_text
no_size d = ap (λ (s : PlainScript). s.local) d.script.found

-- the last term is compiled
compiles : LegalWithoutFault → (d : DemoIsAccepted) → LegalOf demo_program script_text (Ok d.last)
compiles law d =
    let legal = subst (λ (o : Option (ℕ × ℕ)). IsLegalWith o d.last.tree d.last.types) (no_size d) ((law None d.last.tree d.last.types).0 d.legal) in
    (_, (d.types, d.typed, (record { local = None; steps = d.steps }, (d.script, d.few), d.made)), (d.last, record { front = d.front; is = refl }, (tt, legal, (tt, d.fits, refl))))

-- what stops the demo's compilation would stop its text
stopped : (why : Refusal) → OnProgram program_text (λ p. LegalOf p script_text) (Err why) → OnSource program_text (λ p. As source_failed (LegalOf p script_text)) (Err (source_failed why))
stopped why (inl (e, h, same)) = inl (e, h, ap source_failed same)
stopped why (inr (p, read, h)) = inr (p, read, (why, h, refl))

-- the demo is refused for want of memory alone
pub refused_for_memory : StagesEndOnce → LegalWithoutFault → DemoIsAccepted → (why : Refusal) → StopsFor (OnProgram program_text (λ p. LegalOf p script_text)) why → why ≡ told.Memory
refused_for_memory ends law d why (inl memory) = memory
refused_for_memory ends law d why (inr h) = absurd ((ends Compile (program_text ∷ script_text ∷ [])).none (source_failed why) (demo_program, d.read, d.within, (tt, (d.last, compiles law d))) (stopped why h))

-- the demo's launch is admissible for what is compiled
pub admitted : CompilationEndsOnce → LegalWithoutFault → DemoIsAccepted → DemosMayRun → (p : PlainProgram) (output : PlainTy) (asks : Asks) (text : List ℕ) (seed : ℕ) → IsCompiled program_text script_text p output asks text → IsAdmissibleFor p asks (demo_given seed)
admitted once law d may p output asks text seed c =
    let same : demo_program ≡ p = c.read.only demo_program d.read in
    let legal : LegalOf demo_program script_text (Ok c.last) = subst (λ q. LegalOf q script_text (Ok c.last)) (sym same) c.legal in
    let last : d.last ≡ c.last = ok_same _ _ _ refl (once demo_program script_text (Ok d.last) (Ok c.last) (compiles law d) legal) in
    let asked : demo_asks ≡ asks = sym d.asked ∙ ap₂ (λ (o : Option (ℕ × ℕ)) (s : State). asks_of o s.tree) (no_size d) last ∙ c.asked in
    let m = may seed in
    subst (λ (a : Asks). IsAdmissibleFor p a (demo_given seed)) asked
    (subst (λ q. IsAdmissibleFor q demo_asks (demo_given seed)) same (record { world = m.world; launch = m.launch }))

-- ---- the texts as they are handed over

pub admitted_at : CompilationEndsOnce → LegalWithoutFault → DemoIsAccepted → DemosMayRun → (program script : List ℕ) → program ≡ program_text → script ≡ script_text → (p : PlainProgram) (output : PlainTy) (asks : Asks) (text : List ℕ) (seed : ℕ)
    → IsCompiled program script p output asks text → IsAdmissibleFor p asks (demo_given seed)
admitted_at once law d may program script first second p output asks text seed c =
    admitted once law d may p output asks text seed (subst (λ x. IsCompiled program_text x p output asks text) second (subst (λ x. IsCompiled x script p output asks text) first c))

pub memory_alone : StagesEndOnce → LegalWithoutFault → DemoIsAccepted → (program script : List ℕ) → program ≡ program_text → script ≡ script_text → (why : Refusal) → StopsFor (OnProgram program (λ p. LegalOf p script)) why → why ≡ told.Memory
memory_alone ends law d program script first second why h =
    refused_for_memory ends law d why (subst (λ x. StopsFor (OnProgram program_text (λ p. LegalOf p x)) why) second (subst (λ x. StopsFor (OnProgram x (λ p. LegalOf p script)) why) first h))
