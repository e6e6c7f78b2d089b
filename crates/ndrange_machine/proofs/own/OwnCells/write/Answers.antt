use Rattle.std.proofs.Common.{◌∙◌, refl, sym, ap, subst, set, arith}
use Rattle.std.specs.Prelude.{is_some}
use Rattle.ndrange_machine.specs.Words.{Words, word_at}
use Rattle.ndrange_machine.proofs.OwnWords.{Puts, told, read_there, read_none, wrote_there, wrote_none}
use Rattle.ndrange_machine.proofs.own.OwnCells.write.Goals as goal

pub set-requires : goal.set-requires
set-requires c =
    let rows = c.self.inside.rows in
    let there = told rows c.args.row c.args.home c.args.index c.in-Some.place (sym c.in-Some.is ∙ c.place.ensures) in
    let lt = (c.places_apart.ensures rows).within c.args.row c.args.home c.args.index there.0 in
    let whole = c.self.invariant in
    let is = there.1 in
    omega arith

pub returns-in-Some-clause-there : goal.returns-in-Some-clause-there
returns-in-Some-clause-there c =
    let v : Words = record { shape = c.self.inside.rows; words = c.self.inside.words } in
    ap is_some (read_there v c.args.home c.args.row c.args.index c.in-Some.place _ (sym c.in-Some.is ∙ c.place.ensures) refl)
    ∙ ap (λ (z : Words). is_some (word_at z c.args.home c.args.row c.args.index)) c.self.view_is

pub returns-in-Some-clause-cells : goal.returns-in-Some-clause-cells
returns-in-Some-clause-cells c =
    let v : Words = record { shape = c.self.inside.rows; words = c.self.inside.words } in
    subst (λ (z : Words). Puts z c.args.home c.args.row c.args.index c.args.word (record { shape = c.self.inside.rows; words = c.set.new.self })) c.self.view_is
    (subst (λ ws. Puts v c.args.home c.args.row c.args.index c.args.word (record { shape = c.self.inside.rows; words = ws })) (sym c.set.ensures)
    (wrote_there v c.args.home c.args.row c.args.index c.args.word c.in-Some.place (sym c.in-Some.is ∙ c.place.ensures) (c.places_apart.ensures c.self.inside.rows) c.self.invariant))

pub returns-in-None-clause-there : goal.returns-in-None-clause-there
returns-in-None-clause-there c =
    ap is_some (read_none (record { shape = c.self.inside.rows; words = c.self.inside.words }) c.args.home c.args.row c.args.index (sym c.in-None.is ∙ c.place.ensures))
    ∙ ap (λ (z : Words). is_some (word_at z c.args.home c.args.row c.args.index)) c.self.view_is

pub returns-in-None-clause-cells : goal.returns-in-None-clause-cells
returns-in-None-clause-cells c =
    let v : Words = record { shape = c.self.inside.rows; words = c.self.inside.words } in
    subst (λ (z : Words). Puts z c.args.home c.args.row c.args.index c.args.word z) c.self.view_is
    (wrote_none v c.args.home c.args.row c.args.index c.args.word (sym c.in-None.is ∙ c.place.ensures))
