use Rattle.std.proofs.Common.{◌≡◌, ◌++◌, drop}
use Rattle.group_form.specs.Named.{outside}
use Rattle.phase_plan.proofs.component.add_outside.Given as goal

abbrev pub invariant-loop-component : goal.invariant-loop-component
invariant-loop-component l = l.all.items ++ outside (drop l.component-index l.components) ≡ l.initial.all.items ++ outside l.components
