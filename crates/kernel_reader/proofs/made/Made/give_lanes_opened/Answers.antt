use Rattle.std.proofs.Common.{◌≡◌, ◌∙◌, ◌+◌, suc, false, ap, sym, arith}
use Rattle.std.specs.Prelude.{bytes_eq}
use Rattle.kernel_tree.specs.KernelText.{uint4}
use Rattle.kernel_spelling.specs.Kinds.{kind_of}
use Rattle.kernel_reader.specs.Views.{owed_by}
use Rattle.kernel_reader.specs.Noted.{notes_of}
use Rattle.kernel_reader.proofs.Deep.{behind_lanes_parenthesis}
use Rattle.kernel_reader.proofs.made.Made.give_lanes_opened.Goals as goal

pub returns : goal.returns
returns c =
    let a = c.args in
    let d = a.opening.depth in
    let apart : bytes_eq a.piece.now uint4 ≡ false = sym c.eq.ensures ∙ c.if-eq.false in
    let same : d + 1 ≡ suc d = omega arith in
    behind_lanes_parenthesis (notes_of a.self.now) a.opening.loops d (d + 1) a.piece.now (kind_of a.piece.now) c.give_lanes.result a.owed.now.items c.owe.new.owed.items c.give_lanes.new.owed.items same apart (ap owed_by c.in_ok-owe.ensures) c.give_lanes.ensures
