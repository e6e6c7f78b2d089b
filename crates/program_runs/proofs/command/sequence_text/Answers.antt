use Rattle.fault_lines.specs.Failure.{source_failed}
use Rattle.fault_lines.specs.Shown.{failure_of}
use Rattle.program_source.specs.Ends.{FailsFor, OnSource}
use Rattle.stages.proofs.HandedOn.{told_on}
use Rattle.stages.specs.Stages.{As, Passed}
use Rattle.compilation.specs.Sequence.{SequenceOf}
use Rattle.program_runs.proofs.Failed.{source_stops}
use Rattle.program_runs.proofs.command.sequence_text.Goals as goal

pub returns-in_err-compiled-clause-refused : goal.returns-in_err-compiled-clause-refused
returns-in_err-compiled-clause-refused c =
    let text = c.args.program.now in
    let script = c.args.script.now in
    told_on failure_of (FailsFor (OnSource text (λ p. Passed (As source_failed (SequenceOf p script))))) _ _ c.from_residual.ensures.1
    (source_stops text (λ p. SequenceOf p script) _ c.in_err-compiled.ensures.refused)

pub returns-clause-written : goal.returns-clause-written
returns-clause-written c = record { source = _; output = _; outlines = _; compiled = c.in_ok-compiled.ensures.found }
