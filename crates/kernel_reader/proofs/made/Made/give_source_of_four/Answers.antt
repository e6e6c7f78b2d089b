use Rattle.std.proofs.Common.{◌≡◌, ◌∙◌, false, ap, sym}
use Rattle.std.specs.Prelude.{bytes_eq}
use Rattle.kernel_tree.specs.KernelText.{loads_four}
use Rattle.kernel_spelling.specs.Kinds.{kind_of}
use Rattle.kernel_reader.specs.Views.{owed_by}
use Rattle.kernel_reader.specs.Noted.{notes_of}
use Rattle.kernel_reader.proofs.Deep.{behind_assignment}
use Rattle.kernel_reader.proofs.made.Made.give_source_of_four.Goals as goal

pub returns : goal.returns
returns c =
    let a = c.args in
    let apart : bytes_eq a.piece.now loads_four ≡ false = sym c.eq.ensures ∙ c.if-eq.false in
    behind_assignment (notes_of a.self.now) a.place.loops a.place.nest a.variable a.piece.now (kind_of a.piece.now) c.give_lanes.result a.owed.now.items c.owe.new.owed.items c.give_lanes.new.owed.items apart (ap owed_by c.in_ok-owe.ensures) c.give_lanes.ensures
