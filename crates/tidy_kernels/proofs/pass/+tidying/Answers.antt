use Rattle.std.proofs.Common.{◌∙◌, ap, sym}
use Rattle.kernel_tree.specs.Tree.{before, code_then}
use Rattle.tidy_indices.specs.Places.{plain_place}
use Rattle.tidy_kernels.specs.Places.{tidied_in}
use Rattle.tidy_kernels.proofs.Blocks.{one_more, looped, guarded}
use Rattle.tidy_kernels.proofs.pass.+tidying.Goals as goal

pub tidied_block-loop-statement-preserved : goal.tidied_block-loop-statement-preserved
tidied_block-loop-statement-preserved t c = λ after.
    let o = plain_place c.args.outermost.now in
    let p = plain_place c.args.here.now in
    ap (λ xs. code_then xs (tidied_in o p after)) c.in_ok-push.ensures.items
    ∙ one_more o p c.loop-statement.tidied.items c.loop-statement.yielded c.in_ok-tidied_statement.field-0 c.in-Some.statement c.loop-statement.invariant c.in_ok-tidied_statement.ensures after

pub tidied_statement-returns-in_ok-tidied-in-Loop : goal.tidied_statement-returns-in_ok-tidied-in-Loop
tidied_statement-returns-in_ok-tidied-in-Loop t c = λ after.
    let o = plain_place c.args.outermost.now in
    let p = plain_place c.args.here.now in
    let q = c.in-Loop in
    looped o p (plain_place c.in_ok-inside-in-Loop.inside) q.start q.bound c.in_ok-tidied-in-Loop.field-0 q.stride q.body c.in_ok-body-in-Loop.body c.in_ok-inside-in-Loop.ensures c.in_ok-tidied-in-Loop.ensures c.in_ok-body-in-Loop.ensures after
    ∙ ap (λ s. tidied_in o p (before s after)) (sym q.is)

pub tidied_statement-returns-in_ok-tidied-in-If : goal.tidied_statement-returns-in_ok-tidied-in-If
tidied_statement-returns-in_ok-tidied-in-If t c = λ after.
    let o = plain_place c.args.outermost.now in
    let p = plain_place c.args.here.now in
    let q = c.in-If in
    guarded o p (plain_place c.in_ok-guarded-in-If.guarded) q.start q.bound c.in_ok-tidied-in-If.field-0 q.body c.in_ok-body-in-If.body c.in_ok-guarded-in-If.ensures c.in_ok-tidied-in-If.ensures c.in_ok-body-in-If.ensures after
    ∙ ap (λ s. tidied_in o p (before s after)) (sym q.is)
