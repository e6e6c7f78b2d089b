use Rattle.std.proofs.Common.{◌+◌, ◌++◌, List, drop}
use Rattle.group_form.specs.Named.{Component}
use Rattle.group_form.specs.Origins.{at_way, bent}
use Rattle.group_form.specs.Uses.{reads_of, variable_reads, touches_in}
use Rattle.phase_plan.specs.Origins.{origins_in}
use Rattle.phase_plan.proofs.Loops.{stepped}
use Rattle.phase_plan.proofs.Touching.{touched_append}
use Rattle.phase_plan.proofs.uses.add_variable_reads.Goals as goal

pub loop-component-preserved : goal.loop-component-preserved
loop-component-preserved c =
    let q = c.args.phase in
    let env = origins_in c.args.scope.now in
    let components = c.args.components.now in
    let i = c.loop-component.component-index in
    let component = c.component-item.result in
    let so_far = c.loop-component.touches.items in
    let reads = reads_of (at_way (bent (env component.var)) component.way) in
    let given = λ (cs : List Component). touches_in q (variable_reads env cs) in
    stepped given components i component (touches_in q reads) so_far c.add_variable_read.new.touches.items (c.args.touches.now.items ++ given components) c.loop-component-test.true c.component-item.is
    (touched_append q reads (variable_reads env (drop (i + 1) components)))
    c.in_ok-add_variable_read.ensures
    c.loop-component.invariant
