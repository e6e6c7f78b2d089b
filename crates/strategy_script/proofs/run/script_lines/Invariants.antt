use Rattle.std.proofs.Common.{length}
use Rattle.lift_tree.specs.Programs.{program_of}
use Rattle.strategy_script.proofs.Listed.{IsKnown}
use Rattle.strategy_script.proofs.Written.{AreWritten}
use Rattle.strategy_script.proofs.run.script_lines.Given as goal

abbrev pub invariant-steps : goal.invariant-steps
invariant-steps l = record {
  known : IsKnown (program_of l.fn.source.program) l.known;
  written : AreWritten (program_of l.fn.source.program) l.fn.script.steps l.rest l.made l.fn.source l.current l.text.items;
}

abbrev pub decreases-steps : goal.decreases-steps
decreases-steps l = length l.rest
