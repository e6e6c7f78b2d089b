use Rattle.std.proofs.Common.{sym, ap, cond, arith, Some, None, ◌∙◌}
use Rattle.std.proofs.lemmas.List.{length-map}
use Rattle.readings.specs.Views.{items_of}
use Rattle.readings.proofs.Ran.{token_refused}
use Rattle.readings.proofs.reading.take_all.Goals as goal

pub returns-then-not-branch : goal.returns-then-not-branch
returns-then-not-branch g c =
    let N = g.N.Notes in
    let item = items_of N.token_of N.form_of N.mark_of in
    let l = c.loop-i in
    let less = c.loop-i-test.true in (
      omega (arith, less, length-map c.args.tokens.now N.token_of),
      token_refused
          N.token_of
          N.table
          c.args.tokens.now
          l.i
          c.index-tokens-i.result
          (item l.owed.items)
          (N.notes_of l.notes)
          _
          less
          c.index-tokens-i.is
          (sym (ap (λ b. cond b (Some (item c.take.new.owed.items, N.notes_of c.take.new.notes)) None) c.if-not-branch.true) ∙ c.in_ok-take.ensures)
          l.invariant,
    )
