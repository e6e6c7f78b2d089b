use Rattle.std.proofs.Common.{◌≡◌, ◌+◌, ◌≤◌, length}
use Rattle.std.specs.Str.Lines.{lines}
use Rattle.strategy_script.specs.LocalSize.{local_in}
use Rattle.strategy_script.specs.ScriptText.{good_lines, steps_in}
use Rattle.strategy_script.proofs.read.opening_of.Given as goal

pub record Seen (size good all steps room : Type 0) : Type 0 where
  pub same_size : size
  pub good_so_far : good
  pub all_so_far : all
  pub same_steps : steps
  pub few : room

abbrev pub invariant-loop-line : goal.invariant-loop-line
invariant-loop-line l = Seen
    (local_in (lines l.rest) ≡ local_in (lines l.fn.text))
    (l.lines + good_lines l.rest ≡ good_lines l.fn.text)
    (l.lines + length (lines l.rest) ≡ length (lines l.fn.text))
    (steps_in l.rest ≡ steps_in l.fn.text)
    (l.lines + length l.rest ≤ length l.fn.text)

abbrev pub decreases-loop-line : goal.decreases-loop-line
decreases-loop-line l = length l.rest
