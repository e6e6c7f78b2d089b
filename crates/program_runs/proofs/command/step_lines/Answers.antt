use Rattle.fault_lines.specs.Failure.{source_failed}
use Rattle.fault_lines.specs.Shown.{failure_of}
use Rattle.program_source.specs.Ends.{FailsFor, OnSource}
use Rattle.stages.proofs.HandedOn.{told_on}
use Rattle.stages.specs.Stages.{As, Passed}
use Rattle.program_source.specs.Terms.{TermsOf}
use Rattle.program_runs.proofs.Failed.{source_stops}
use Rattle.program_runs.proofs.command.step_lines.Goals as goal

pub returns-in_err-text-clause-refused : goal.returns-in_err-text-clause-refused
returns-in_err-text-clause-refused c =
    let text = c.args.program.now in
    let script = c.args.script.now in
    told_on failure_of (FailsFor (OnSource text (λ p. Passed (As source_failed (TermsOf p script))))) _ _ c.from_residual.ensures.1
    (source_stops text (λ p. TermsOf p script) _ c.in_err-text.ensures.refused)
