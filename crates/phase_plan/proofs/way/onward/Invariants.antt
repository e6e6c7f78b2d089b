use Rattle.std.proofs.Common.{◌≡◌, ◌++◌, drop}
use Rattle.group_form.specs.Named.{onward}
use Rattle.phase_plan.proofs.way.onward.Given as goal

abbrev pub invariant-loop-way : goal.invariant-loop-way
invariant-loop-way l = l.all.items ++ onward l.second (drop l.way-index l.ways) ≡ onward l.second l.ways
