use Rattle.lift_tree.specs.Annotations.{annotation_of}
use Rattle.lift_tree.specs.Programs.{program_of}
use Rattle.program_source.specs.Program.{OnProgram, StopsFor}
use Rattle.program_source.specs.Terms.{TermsOf}
use Rattle.stages.proofs.HandedOn.{handed_on}
use Rattle.program_source.proofs.Stages.{on_program, step_stops}
use Rattle.program_source.proofs.Low.{programs_are_low}
use Rattle.program_source.proofs.TermsMade.{last_is, source_made}
use Rattle.program_source.proofs.Within.{typed_within}
use Rattle.program_source.proofs.terms.last_term.Goals as goal

pub returns-in_err-typed-clause-refused : goal.returns-in_err-typed-clause-refused
returns-in_err-typed-clause-refused c =
    let b = c.in_ok-source.ensures.begun in
    let t = c.in_ok-source.source in
    handed_on (StopsFor (OnProgram c.args.program.now (λ p. TermsOf p c.args.script.now))) _ _ c.from_residual-in_err-typed.ensures.1
    (on_program c.args.program.now (program_of t.program) (λ p. TermsOf p c.args.script.now) _ b.read
    (step_stops (program_of t.program) (annotation_of t.types) c.args.script.now _ _ b.judged b.is b.few
    (λ well. source_made t _ _ b.whole (c.in_err-typed.ensures.refused well))))

pub returns-clause-last : goal.returns-clause-last
returns-clause-last c =
    last_is c.args.program.now c.args.script.now _ _ _ c.types_are_judged.ensures (programs_are_low c.bodies_are_text_terms.ensures) c.in_ok-source.ensures.begun c.in_ok-typed.ensures.last c.in_ok-typed.ensures.after

pub returns-clause-within : goal.returns-clause-within
returns-clause-within c =
    typed_within c.bodies_are_text_terms.ensures c.args.program.now c.args.script.now _
    (last_is c.args.program.now c.args.script.now _ _ _ c.types_are_judged.ensures (programs_are_low c.bodies_are_text_terms.ensures) c.in_ok-source.ensures.begun c.in_ok-typed.ensures.last c.in_ok-typed.ensures.after)
