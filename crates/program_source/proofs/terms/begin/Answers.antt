use Rattle.lift_tree.specs.Annotations.{annotation_of}
use Rattle.lift_tree.specs.Programs.{program_of}
use Rattle.fault_lines.specs.declared.refusal.Refusal.TheVariants as told
use Rattle.program_source.specs.Program.{OnProgram, StopsFor}
use Rattle.stages.specs.Stages.{As, Then}
use Rattle.program_source.specs.Terms.{StepsOf, TermsOf}
use Rattle.strategy_script.specs.ScriptText.{ReadsScript}
use Rattle.stages.proofs.HandedOn.{handed_on}
use Rattle.program_source.proofs.Stages.{on_program, script_stops, types_first}
use Rattle.program_source.proofs.terms.begin.Goals as goal

pub returns-in_err-source-clause-refused : goal.returns-in_err-source-clause-refused
returns-in_err-source-clause-refused c =
    let script = c.args.script.now in
    handed_on (StopsFor (OnProgram c.args.program.now (λ p. TermsOf p script))) _ _ c.from_residual.ensures.1
    (types_first c.args.program.now (λ p types. Then (As told.Script (ReadsScript script)) (λ read. StepsOf p types read.steps)) _ c.in_err-source.ensures.refused)

pub returns-in_err-script-clause-refused : goal.returns-in_err-script-clause-refused
returns-in_err-script-clause-refused c =
    let t = c.in_ok-source.source in
    let script = c.args.script.now in
    handed_on (StopsFor (OnProgram c.args.program.now (λ p. TermsOf p script))) _ _ c.from_residual-in_err-script.ensures.1
    (on_program c.args.program.now (program_of t.program) (λ p. TermsOf p script) _ c.in_ok-source.ensures.found
    (script_stops (program_of t.program) (annotation_of t.types) script _ c.in_ok-source.ensures.judged c.in_err-script.ensures.refused))

pub returns-clause-begun : goal.returns-clause-begun
returns-clause-begun c = record {
  read = c.in_ok-source.ensures.found;
  whole = c.in_ok-source.ensures.whole;
  judged = c.in_ok-source.ensures.judged;
  ready = c.in_ok-source.ensures.ready;
  is = c.in_ok-script.ensures.script.0;
  few = c.in_ok-script.ensures.script.1;
}
