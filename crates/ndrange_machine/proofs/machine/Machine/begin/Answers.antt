use Rattle.std.proofs.Common.{◌∙◌, ap, arith, subst}
use Rattle.ndrange_machine.specs.Groups.{AtStart}
use Rattle.kernel_tree.specs.Launch.{group_count}
use Rattle.enabled_events.specs.Grids.{laid}
use Rattle.ndrange_machine.proofs.Settling.{begun_none, begun_more, begins, flags_at_start}
use Rattle.ndrange_machine.proofs.machine.Machine.begin.Goals as goal

pub loop-group-init : goal.loop-group-init
loop-group-init c = begun_none c.args.self.now

pub loop-group-preserved : goal.loop-group-preserved
loop-group-preserved c = begun_more c.args.self.now c.loop-group.self c.refresh.new.self c.loop-group.group c.loop-group.invariant c.refresh.ensures.core c.refresh.ensures.marks c.refresh.ensures.flags

pub returns-clause-core : goal.returns-clause-core
returns-clause-core c = c.loop-group.invariant.core

pub returns-clause-marks : goal.returns-clause-marks
returns-clause-marks c = c.loop-group.invariant.marks

pub returns-clause-flags : goal.returns-clause-flags
returns-clause-flags c =
    let count = c.group_count-group-end.ensures ∙ ap (λ z. group_count (laid z)) c.grid.ensures in
    let far = c.loop-group-test.false in
    begins c.args.self.now c.loop-group.self c.loop-group.group c.loop-group.invariant (omega arith)

pub returns-then-steps-clause-flags : goal.returns-then-steps-clause-flags
returns-then-steps-clause-flags c = λ k l d s holds.
    flags_at_start c.args.self.now (subst (AtStart c.args.self.now) c.if-steps.true c.requires) k l d s holds
