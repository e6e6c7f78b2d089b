use Rattle.std.proofs.Common.{◌+◌, ◌++◌, List, Bool, ap, ◌∙◌, drop}
use Rattle.group_form.specs.Origins.{at_way}
use Rattle.group_form.specs.Uses.{reads_of, element_reads, touches_in}
use Rattle.phase_plan.specs.Origins.{origin_in}
use Rattle.phase_plan.proofs.Loops.{stepped}
use Rattle.phase_plan.proofs.Touching.{touched_append}
use Rattle.phase_plan.proofs.uses.add_element_reads.Goals as goal

pub loop-way-preserved : goal.loop-way-preserved
loop-way-preserved c =
    let q = c.args.phase in
    let o = origin_in c.args.origin.now in
    let ways = c.args.ways.now in
    let i = c.loop-way.way-index in
    let way = c.way-item.result in
    let so_far = c.loop-way.touches.items in
    let given = λ (ws : List (List Bool)). touches_in q (element_reads o ws) in
    stepped given ways i way (touches_in q (reads_of (at_way o way))) so_far c.add_component_reads.new.touches.items (c.args.touches.now.items ++ given ways) c.loop-way-test.true c.way-item.is
    (touched_append q (reads_of (at_way o way)) (element_reads o (drop (i + 1) ways)))
    (c.in_ok-add_component_reads.ensures ∙ ap (λ w. so_far ++ touches_in q (reads_of (at_way o w))) c.choices.ensures)
    c.loop-way.invariant
