use Rattle.std.proofs.Common.{arith, sym, ◌∙◌}
use Rattle.command_line.proofs.Seeds.{another_is_none, decimal_is_seed, unread_is_none}
use Rattle.command_line.proofs.request.seed_of.Goals as goal

pub returns-in-Err : goal.returns-in-Err
returns-in-Err c = unread_is_none c.args.word.now _ _ c.parse.ensures.value.0 c.in-Err.is

pub returns-then-eq : goal.returns-then-eq
returns-then-eq c =
    let read = c.in-Ok.ensures.value.0 in
    decimal_is_seed c.args.word.now c.format.result.now c.in-Ok.seed (omega (arith, read)) c.format.ensures.text (sym c.eq.ensures ∙ c.if-eq.true)

pub returns-else-eq : goal.returns-else-eq
returns-else-eq c =
    another_is_none c.args.word.now c.format.result.now _ c.in-Ok.seed c.parse.ensures.value.0 c.in-Ok.is c.format.ensures.text (sym c.eq.ensures ∙ c.if-eq.false)
