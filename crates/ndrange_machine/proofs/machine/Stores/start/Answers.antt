use Rattle.std.proofs.Common.{◌∙◌, ap, subst}
use Rattle.kernel_tree.specs.Launch.{item_count, group_count}
use Rattle.enabled_events.specs.Grids.{laid}
use Rattle.race_marks.specs.Marked.{BeginsMarks}
use Rattle.ndrange_machine.specs.Memory.{rows_of}
use Rattle.ndrange_machine.specs.Words.{AreFilled}
use Rattle.ndrange_machine.proofs.machine.Stores.start.Goals as goal

pub returns-clause-ins : goal.returns-clause-ins
returns-clause-ins c = ap rows_of c.in_ok-memory.ensures.ins ∙ ap (λ v. v.ins) c.cells.view_is

pub returns-clause-outs : goal.returns-clause-outs
returns-clause-outs c = ap rows_of c.in_ok-memory.ensures.outs ∙ ap (λ v. v.outs) c.cells.view_is

pub returns-clause-locals : goal.returns-clause-locals
returns-clause-locals c =
    let v = c.in_ok-memory.memory.locals in
    let n = group_count (laid c.args.grid) in
    subst (λ w. AreFilled v n c.args.locals.items w) (ap (λ z. z.rest) c.cells.view_is)
    (subst (λ ns. AreFilled v n ns c.cells.inside.rest) c.deref.ensures.value c.in_ok-memory.ensures.locals)

pub returns-clause-privates : goal.returns-clause-privates
returns-clause-privates c =
    let v = c.in_ok-memory.memory.privates in
    let n = item_count (laid c.args.grid) in
    subst (λ w. AreFilled v n c.args.privates.items w) (ap (λ z. z.rest) c.cells.view_is)
    (subst (λ ns. AreFilled v n ns c.cells.inside.rest) c.deref-2.ensures.value c.in_ok-memory.ensures.privates)

pub returns-clause-marks : goal.returns-clause-marks
returns-clause-marks c =
    subst (λ o. BeginsMarks o c.args.locals.items (group_count (laid c.args.grid)) c.in_ok-tables.tables.marks) c.deref-3.ensures.value
    (subst (λ ls. BeginsMarks c.deref-3.result.now ls (group_count (laid c.args.grid)) c.in_ok-tables.tables.marks) c.deref-4.ensures.value c.in_ok-tables.ensures.marks)
