use Rattle.std.proofs.Common.{◌≡◌, ap}
use Rattle.fault_lines.specs.Failure.{Failure, Memory, source_failed}
use Rattle.fault_lines.specs.Shown.{failure_of}
use Rattle.stages.proofs.HandedOn.{told_on}
use Rattle.program_runs.proofs.Unrefused.{admitted_at, memory_alone}
use Rattle.program_runs.proofs.demo.demo_text.Goals as goal

pub seeded_line-requires : goal.seeded_line-requires
seeded_line-requires c =
    admitted_at c.compilation_ends_once.ensures c.legal_without_fault.ensures c.demo_is_accepted.ensures c.demos_may_run.ensures c.program.result.now c.script.result.now c.program.ensures c.script.ensures _ _ _ _ c.args.seed c.in_ok-compiled.ensures.found

pub returns-in_err-compiled-clause-refused : goal.returns-in_err-compiled-clause-refused
returns-in_err-compiled-clause-refused c =
    told_on failure_of (λ (f : Failure). f ≡ Memory) _ _ c.from_residual.ensures.1
    (ap source_failed (memory_alone c.one_end.ensures c.legal_without_fault.ensures c.demo_is_accepted.ensures c.program.result.now c.script.result.now c.program.ensures c.script.ensures _ c.in_err-compiled.ensures.refused))
