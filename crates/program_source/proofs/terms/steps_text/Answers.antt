use Rattle.std.proofs.Common.{◌≡◌}
use Rattle.lift_tree.specs.Annotations.{annotation_of}
use Rattle.lift_tree.specs.Programs.{program_of}
use Rattle.program_source.specs.Program.{OnProgram, StopsFor}
use Rattle.program_source.specs.Terms.{TermsOf}
use Rattle.fault_lines.specs.declared.refusal.Refusal.{Refusal}
use Rattle.fault_lines.specs.declared.refusal.Refusal.TheVariants as told
use Rattle.stages.proofs.HandedOn.{handed_on}
use Rattle.stages.proofs.Refused.{made_stands, refused_for}
use Rattle.program_source.proofs.Once.{text_one}
use Rattle.program_source.proofs.Stages.{on_program, step_stops}
use Rattle.program_source.proofs.TermsMade.{source_made, steps_text_is}
use Rattle.program_source.proofs.terms.steps_text.Goals as goal

pub script_lines-requires : goal.script_lines-requires
script_lines-requires c = record { ready = c.in_ok-source.ensures.begun.ready }

pub returns-in_err-script_lines-clause-refused : goal.returns-in_err-script_lines-clause-refused
returns-in_err-script_lines-clause-refused c =
    let b = c.in_ok-source.ensures.begun in
    let t = c.in_ok-source.source in
    handed_on (StopsFor (OnProgram c.args.program.now (λ p. TermsOf p c.args.script.now))) _ _ c.from_residual-in_err-script_lines.ensures.1
    (on_program c.args.program.now (program_of t.program) (λ p. TermsOf p c.args.script.now) _ b.read
    (step_stops (program_of t.program) (annotation_of t.types) c.args.script.now _ _ b.judged b.is b.few
    (λ well. source_made t _ _ b.whole (c.in_err-script_lines.ensures.refused well))))

pub returns-in_err-source-clause-exact : goal.returns-in_err-source-clause-exact
returns-in_err-source-clause-exact c =
    let R = OnProgram c.args.program.now (λ p. TermsOf p c.args.script.now) in
    let one = text_one c.sources_end_once.ensures c.args.program.now c.args.script.now in
    refused_for R (λ (e : Refusal). e) (λ e. e ≡ told.Memory) one _ _ c.from_residual.ensures.1 c.in_err-source.ensures.refused

pub returns-in_err-script_lines-clause-exact : goal.returns-in_err-script_lines-clause-exact
returns-in_err-script_lines-clause-exact c =
    let b = c.in_ok-source.ensures.begun in
    let t = c.in_ok-source.source in
    let R = OnProgram c.args.program.now (λ p. TermsOf p c.args.script.now) in
    let one = text_one c.sources_end_once.ensures c.args.program.now c.args.script.now in
    refused_for R (λ (e : Refusal). e) (λ e. e ≡ told.Memory) one _ _ c.from_residual-in_err-script_lines.ensures.1
    (on_program c.args.program.now (program_of t.program) (λ p. TermsOf p c.args.script.now) _ b.read
    (step_stops (program_of t.program) (annotation_of t.types) c.args.script.now _ _ b.judged b.is b.few
    (λ well. source_made t _ _ b.whole (c.in_err-script_lines.ensures.refused well))))

pub returns-clause-written : goal.returns-clause-written
returns-clause-written c = steps_text_is _ _ _ _ _ c.in_ok-source.ensures.begun c.in_ok-script_lines.ensures.lines

pub returns-clause-exact : goal.returns-clause-exact
returns-clause-exact c = λ why cause.
    let R = OnProgram c.args.program.now (λ p. TermsOf p c.args.script.now) in
    let one = text_one c.sources_end_once.ensures c.args.program.now c.args.script.now in
    let made = steps_text_is _ _ _ _ _ c.in_ok-source.ensures.begun c.in_ok-script_lines.ensures.lines in
    made_stands _ R one _ why (made.source, made.read, made.made) cause
