use Rattle.std.proofs.Common.{◌≡◌, ◌++◌, drop}
use Rattle.group_form.specs.Uses.{touches_in, element_reads}
use Rattle.phase_plan.specs.Origins.{origin_in}
use Rattle.phase_plan.proofs.uses.add_element_reads.Given as goal

abbrev pub invariant-loop-way : goal.invariant-loop-way
invariant-loop-way l = l.touches.items ++ touches_in l.phase (element_reads (origin_in l.origin) (drop l.way-index l.ways)) ≡ l.initial.touches.items ++ touches_in l.phase (element_reads (origin_in l.origin) l.ways)
