use Rattle.std.proofs.Common.{◌≡◌, ◌++◌, length, map, ◌∙◌, sym, ap, rules}
use Rattle.kernel_tree.specs.Code.{End}
use Rattle.kernel_tree.specs.Tree.{before}
use Rattle.ndrange_machine.specs.Lines.{lines_at}
use Rattle.ndrange_machine.specs.Wants.{text_of}
use Rattle.ndrange_machine.proofs.Laying.{laid_on, laid_loop, laid_if}
use Rattle.ndrange_machine.proofs.line.+laying.Goals as goal

pub lay-loop-statement-preserved : goal.lay-loop-statement-preserved
lay-loop-statement-preserved t c =
    laid_on c.args.lines.now.items c.loop-statement.lines.items c.lay_one.new.lines.items c.loop-statement.yielded c.in-Some.statement c.loop-statement.invariant c.in_ok-lay_one.ensures

pub lay_one-returns-in_ok-add_line-in-Loop-2 : goal.lay_one-returns-in_ok-add_line-in-Loop-2
lay_one-returns-in_ok-add_line-in-Loop-2 t c =
    let before_it = c.args.lines.now in
    let all = c.add_line-in-Loop-2.new.lines in
    let head : c.len-head.result ≡ length before_it.items = search rules in
    let exit : c.len-exit-in-Loop.result ≡ length all.items = search rules in
    laid_loop before_it.items c.add_line-in-Loop.new.lines.items c.lay-in-Loop.new.lines.items all.items c.len-head.result c.len-exit-in-Loop.result c.in-Loop.start c.in-Loop.bound c.in-Loop.stride c.in-Loop.body c.index_mut-in-Loop.result.now c.set_exit-in-Loop.new.self head exit c.in_ok-add_line-in-Loop.ensures c.in_ok-lay-in-Loop.ensures c.in_ok-add_line-in-Loop-2.ensures c.index_mut-in-Loop.ensures.value c.set_exit-in-Loop.ensures
    ∙ ap (λ s. map text_of before_it.items ++ lines_at (length before_it.items) (before s End)) (sym c.in-Loop.is)

pub lay_one-returns-in_ok-lay-in-If : goal.lay_one-returns-in_ok-lay-in-If
lay_one-returns-in_ok-lay-in-If t c =
    let before_it = c.args.lines.now in
    let all = c.lay.new.lines in
    let test : c.len-test.result ≡ length before_it.items = search rules in
    let exit : c.len-exit.result ≡ length all.items = search rules in
    laid_if before_it.items c.add_line-in-If.new.lines.items all.items c.len-test.result c.len-exit.result c.in-If.start c.in-If.bound c.in-If.body c.index_mut.result.now c.set_exit.new.self test exit c.in_ok-add_line-in-If.ensures c.in_ok-lay-in-If.ensures c.index_mut.ensures.value c.set_exit.ensures
    ∙ ap (λ s. map text_of before_it.items ++ lines_at (length before_it.items) (before s End)) (sym c.in-If.is)
