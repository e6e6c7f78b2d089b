use Rattle.std.proofs.Common.{◌≡◌, ◌++◌, drop}
use Rattle.group_form.specs.Named.{components_of}
use Rattle.phase_plan.proofs.component.add_components.Given as goal

abbrev pub invariant-loop-way : goal.invariant-loop-way
invariant-loop-way l = l.all.items ++ components_of l.variable (drop l.way-index l.ways) ≡ l.initial.all.items ++ components_of l.variable l.ways
