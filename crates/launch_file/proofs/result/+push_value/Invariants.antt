use Rattle.std.proofs.Common.{◌≡◌, ◌++◌}
use Rattle.launch_file.proofs.Texts.{joined}
use Rattle.launch_file.proofs.result.+push_value.Given as goal

abbrev pub decreases-push_value : goal.decreases-push_value
decreases-push_value l = goal.size-push_value l

abbrev pub invariant-loop-index : goal.invariant-loop-index
invariant-loop-index l = l.text.items ≡ l.initial.text.items ++ joined l.member-items l.index
