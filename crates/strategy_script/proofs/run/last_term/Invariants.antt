use Rattle.std.proofs.Common.{List, length}
use Rattle.lift_tree.specs.Programs.{program_of}
use Rattle.strategy_script.specs.Steps.{State}
use Rattle.strategy_script.proofs.Listed.{IsKnown, IsRunning}
use Rattle.strategy_script.proofs.run.last_term.Given as goal

abbrev pub invariant-steps : goal.invariant-steps
invariant-steps l = record {
  known : IsKnown (program_of l.fn.source.program) l.known;
  running : (front : List State) × IsRunning (program_of l.fn.source.program) l.fn.script.steps l.rest l.made l.fn.source l.current front;
}

abbrev pub decreases-steps : goal.decreases-steps
decreases-steps l = length l.rest
