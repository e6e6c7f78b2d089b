use Rattle.std.proofs.Common.{◌≡◌, ◌++◌, drop}
use Rattle.group_form.specs.Uses.{touches_in, variable_reads}
use Rattle.phase_plan.specs.Origins.{origins_in}
use Rattle.phase_plan.proofs.uses.add_variable_reads.Given as goal

abbrev pub invariant-loop-component : goal.invariant-loop-component
invariant-loop-component l = l.touches.items ++ touches_in l.phase (variable_reads (origins_in l.scope) (drop l.component-index l.components)) ≡ l.initial.touches.items ++ touches_in l.phase (variable_reads (origins_in l.scope) l.components)
