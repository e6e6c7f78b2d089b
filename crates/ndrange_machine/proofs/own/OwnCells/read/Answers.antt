use Rattle.std.proofs.Common.{◌∙◌, sym, ap, arith}
use Rattle.std.proofs.lemmas.List.{get_or_read}
use Rattle.ndrange_machine.specs.Words.{Words, word_at}
use Rattle.ndrange_machine.proofs.OwnWords.{told, read_there, read_none}
use Rattle.ndrange_machine.proofs.own.OwnCells.read.Goals as goal

pub get-requires : goal.get-requires
get-requires c =
    let rows = c.self.inside.rows in
    let there = told rows c.args.row c.args.home c.args.index c.in-Some.place (sym c.in-Some.is ∙ c.place.ensures) in
    let lt = (c.places_apart.ensures rows).within c.args.row c.args.home c.args.index there.0 in
    let whole = c.self.invariant in
    let is = there.1 in
    omega arith

pub returns-in-Some : goal.returns-in-Some
returns-in-Some c =
    let rows = c.self.inside.rows in
    let there = told rows c.args.row c.args.home c.args.index c.in-Some.place (sym c.in-Some.is ∙ c.place.ensures) in
    let lt = (c.places_apart.ensures rows).within c.args.row c.args.home c.args.index there.0 in
    let whole = c.self.invariant in
    let is = there.1 in
    read_there (record { shape = rows; words = c.self.inside.words }) c.args.home c.args.row c.args.index c.in-Some.place c.get.result
    (sym c.in-Some.is ∙ c.place.ensures) (get_or_read c.self.inside.words c.in-Some.place c.get.result (omega arith) c.get.ensures 0)
    ∙ ap (λ (v : Words). word_at v c.args.home c.args.row c.args.index) c.self.view_is

pub returns-in-None : goal.returns-in-None
returns-in-None c =
    read_none (record { shape = c.self.inside.rows; words = c.self.inside.words }) c.args.home c.args.row c.args.index (sym c.in-None.is ∙ c.place.ensures)
    ∙ ap (λ (v : Words). word_at v c.args.home c.args.row c.args.index) c.self.view_is
