use Rattle.std.proofs.Common.{◌≡◌, ◌++◌, drop}
use Rattle.group_form.specs.Named.{ways}
use Rattle.phase_plan.proofs.component.add_nearest.Given as goal

abbrev pub invariant-loop-component : goal.invariant-loop-component
invariant-loop-component l = l.all.items ++ ways 0 (drop l.component-index l.components) ≡ l.initial.all.items ++ ways 0 l.components
