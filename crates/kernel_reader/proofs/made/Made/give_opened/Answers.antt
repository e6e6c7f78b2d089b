use Rattle.std.proofs.Common.{◌≡◌, ◌∙◌, ◌+◌, ◌++◌, suc, false, ap, sym, List, arith}
use Rattle.std.specs.Prelude.{bytes_eq, option_map}
use Rattle.kernel_tree.specs.KernelText.{Item, uint}
use Rattle.kernel_spelling.specs.Kinds.{kind_of}
use Rattle.kernel_reader.specs.Views.{owed_by}
use Rattle.kernel_reader.specs.Noted.{notes_of}
use Rattle.kernel_reader.proofs.Deep.{opened_too_deep, behind_parenthesis}
use Rattle.kernel_reader.proofs.made.Made.give_opened.Goals as goal

pub returns-then-depth-ge-DEEPEST : goal.returns-then-depth-ge-DEEPEST
returns-then-depth-ge-DEEPEST c =
    let a = c.args in
    let apart : bytes_eq a.piece.now uint ≡ false = sym c.eq.ensures ∙ c.if-eq.false in
    sym (ap (option_map (λ (given : List Item). given ++ owed_by a.owed.now.items)) (opened_too_deep (notes_of a.self.now) a.bound a.loops a.depth a.piece.now (kind_of a.piece.now) apart c.if-depth-ge-DEEPEST.true))

pub returns : goal.returns
returns c =
    let a = c.args in
    let apart : bytes_eq a.piece.now uint ≡ false = sym c.eq.ensures ∙ c.if-eq.false in
    let same : a.depth + 1 ≡ suc a.depth = omega arith in
    behind_parenthesis (notes_of a.self.now) a.bound a.loops a.depth (a.depth + 1) a.piece.now (kind_of a.piece.now) c.give_value.result a.owed.now.items c.owe.new.owed.items c.give_value.new.owed.items same apart (ap owed_by c.in_ok-owe.ensures) c.give_value.ensures
