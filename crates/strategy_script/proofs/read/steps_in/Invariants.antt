use Rattle.std.proofs.Common.{◌≡◌, ◌+◌, ◌++◌, ◌≤◌, length}
use Rattle.std.specs.Str.Lines.{lines}
use Rattle.strategy_script.specs.ScriptText.{step_lines, steps_in}
use Rattle.strategy_script.proofs.read.steps_in.Given as goal

pub record Seen (steps good all room : Type 0) : Type 0 where
  pub steps_so_far : steps
  pub good_so_far : good
  pub all_so_far : all
  pub few : room

abbrev pub invariant-loop-rest : goal.invariant-loop-rest
invariant-loop-rest l = Seen
    (l.steps.items ++ steps_in l.rest ≡ steps_in l.fn.text)
    (l.lines + step_lines (lines l.rest) ≡ l.fn.before + step_lines (lines l.fn.text))
    (l.lines + length (lines l.rest) ≡ l.fn.before + length (lines l.fn.text))
    (l.lines + length l.rest ≤ l.fn.before + length l.fn.text)

abbrev pub decreases-loop-rest : goal.decreases-loop-rest
decreases-loop-rest l = length l.rest
