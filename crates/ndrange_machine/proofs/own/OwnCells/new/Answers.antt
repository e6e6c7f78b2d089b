use Rattle.ndrange_machine.proofs.OwnWords.{all_filled}
use Rattle.ndrange_machine.proofs.own.OwnCells.new.Goals as goal

pub returns : goal.returns
returns c =
    let rows = c.in_ok-rows.rows in
    all_filled rows (record { homes = c.args.homes; lengths = c.args.lengths.now }) c.in_ok-words.words c.cells.result c.args.word
    (c.places_apart.ensures rows) c.in_ok-rows.ensures c.in_ok-words.ensures c.cells.ensures
