-- What each stage gives, and why it stops.
use Rattle.std.proofs.Common.{◌≡◌, ◌≢◌, ◌≤◌, ℕ, List, subst, length, refl, inl, inr, Result, Ok, Err}
use Rattle.lift_tree.specs.Annotations.{Annotation}
use Rattle.lift_tree.specs.Programs.{PlainProgram}
use Rattle.lift_tree.specs.Tree.{Tree}
use Rattle.lift_reader.specs.ProgramText.{Answers, IsProgramText, Refuses}
use Rattle.lift_reader.specs.declared.refusal.ReadRefusal.{ReadRefusal}
use Rattle.lift_reader.specs.declared.refusal.ReadRefusal.TheVariants as readings
use Rattle.pattern_types.specs.Judged.{program_judged}
use Rattle.pattern_types.specs.declared.refusal.TypeRefusal.{TypeRefusal}
use Rattle.pattern_types.specs.declared.refusal.TypeRefusal.TheVariants as typings
use Rattle.strategy_script.specs.ScriptText.{IsScript, RefusesScript}
use Rattle.strategy_script.specs.Steps.{terms_of}
use Rattle.strategy_script.specs.declared.faults.StepNo.{StepNo}
use Rattle.strategy_script.specs.declared.faults.StepNo.TheVariants as stops
use Rattle.strategy_script.specs.declared.script.ScriptLimit.TheVariants as limits
use Rattle.strategy_script.specs.declared.script.ScriptNo.{ScriptNo}
use Rattle.strategy_script.specs.declared.script.ScriptNo.TheVariants as scripts
use Rattle.strategy_script.specs.Scripts.{PlainScript}
use Rattle.fault_lines.specs.Refusal.{program_refused, script_refused, step_refused, typing_refused}
use Rattle.fault_lines.specs.declared.refusal.Refusal.{Refusal}
use Rattle.program_source.specs.Program.{IsRead, OnProgram, StopsFor, TypesOf}
use Rattle.stages.specs.Stages.{Then}
use Rattle.program_source.specs.Terms.{TermsOf, source_of}

-- ---- the program's text

pub program_stops : {A : Type 0} (text : List ℕ) (S : PlainProgram → Result A Refusal → Type 0) (why : ReadRefusal)
    → Refuses text why → ((p : PlainProgram) → IsProgramText text p → Answers p (Err why)) → StopsFor (OnProgram text S) (program_refused why)
program_stops text S (readings.Syntax token offset) h only = inr (inl (readings.Syntax token offset, (h, only), refl))
program_stops text S (readings.Limit which count) h only = inr (inl (readings.Limit which count, record { program = h.0; is = h.1; passes = only }, refl))
program_stops text S readings.Memory h only = inl refl

-- what stops a program that is read stops its text
pub on_program : {A : Type 0} (text : List ℕ) (p : PlainProgram) (S : PlainProgram → Result A Refusal → Type 0) (why : Refusal) → IsRead text p → StopsFor (S p) why → StopsFor (OnProgram text S) why
on_program text p S why read (inl memory) = inl memory
on_program text p S why read (inr h) = inr (inr (p, read, h))

-- what stops a text at its types stops it at each stage that begins with these
pub types_first : {A : Type 0} (text : List ℕ) (S : PlainProgram → Annotation → Result A Refusal → Type 0) (why : Refusal)
    → StopsFor (OnProgram text TypesOf) why → StopsFor (OnProgram text (λ p. Then (TypesOf p) (S p))) why
types_first text S why (inl memory) = inl memory
types_first text S why (inr (inl h)) = inr (inl h)
types_first text S why (inr (inr (p, read, h))) = inr (inr (p, read, inl h))

-- ---- its types

pub types_stop : (p : PlainProgram) (t : Tree) (why : TypeRefusal) → t ≡ p.body → (why ≢ typings.Memory → program_judged p t ≡ Err why) → StopsFor (TypesOf p) (typing_refused why)
types_stop p t (typings.IllTyped spot rule) whole h = inr (typings.IllTyped spot rule, subst (λ b. program_judged p b ≡ Err (typings.IllTyped spot rule)) whole (h (λ e. cc (e))), refl)
types_stop p t (typings.Limit which spot count) whole h = inr (typings.Limit which spot count, subst (λ b. program_judged p b ≡ Err (typings.Limit which spot count)) whole (h (λ e. cc (e))), refl)
types_stop p t typings.Memory whole h = inl refl

-- ---- the script's text and its steps

pub script_stops : (p : PlainProgram) (types : Annotation) (script : List ℕ) (why : ScriptNo) → program_judged p p.body ≡ Ok types → RefusesScript script why → StopsFor (TermsOf p script) (script_refused why)
script_stops p types script (scripts.Syntax line) typed h = inr (inr (types, typed, inl (scripts.Syntax line, h, refl)))
script_stops p types script (scripts.Limit limits.Steps count) typed h = inr (inr (types, typed, inl (scripts.Limit limits.Steps count, h, refl)))
script_stops p types script scripts.Memory typed h = inl refl

pub step_stops : (p : PlainProgram) (types : Annotation) (script : List ℕ) (read : PlainScript) (why : StepNo) → program_judged p p.body ≡ Ok types → IsScript script read → length read.steps ≤ 256
    → (why ≢ stops.Memory → terms_of p read.steps (source_of p types) ≡ Err why) → StopsFor (TermsOf p script) (step_refused why)
step_stops p types script read (stops.Inapplicable step why) typed is few h = inr (inr (types, typed, inr (read, (is, few), (stops.Inapplicable step why, h (λ e. cc (e)), refl))))
step_stops p types script read (stops.Limit which step count) typed is few h = inr (inr (types, typed, inr (read, (is, few), (stops.Limit which step count, h (λ e. cc (e)), refl))))
step_stops p types script read stops.Memory typed is few h = inl refl
