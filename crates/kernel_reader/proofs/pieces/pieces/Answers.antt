use Rattle.std.proofs.Common.{◌≡◌, ◌∙◌, sym, subst, List, ℕ, [], map, length}
use Rattle.std.proofs.lemmas.List.{append-nil, nil_from_length}
use Rattle.std.proofs.lemmas.Bool.{eqb-true}
use Rattle.kernel_tree.specs.Pieces.{ArePieces}
use Rattle.kernel_reader.specs.Views.{bytes_of}
use Rattle.kernel_reader.proofs.pieces.pieces.Goals as goal

pub returns-then-is_empty : goal.returns-then-is_empty
returns-then-is_empty c =
    let l = c.loop-rest in
    let none : l.rest.now ≡ [] = nil_from_length l.rest.now (eqb-true (length l.rest.now) 0 (sym c.is_empty.ensures ∙ c.if-is_empty.true)) in
    subst (λ (z : List (List ℕ)). ArePieces c.args.text.now z) (append-nil (map bytes_of l.pieces.items)) (l.invariant [] none)
