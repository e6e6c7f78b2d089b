use Rattle.std.proofs.Common.{length, ◌-◌, ◌+◌, ◌≡◌, ◌≤◌, drop, cond}
use Rattle.lift_reader.specs.Tokens.{gap_len, comment_len}
use Rattle.lift_reader.proofs.token.gap_len.Given as goal

abbrev pub invariant-loop-n : goal.invariant-loop-n
invariant-loop-n l = (l.n + cond l.comment (comment_len (drop l.n l.text)) (gap_len (drop l.n l.text)) ≡ gap_len l.text) × (l.n ≤ length l.text)

abbrev pub decreases-loop-n : goal.decreases-loop-n
decreases-loop-n l = length l.text - l.n
