use Rattle.std.proofs.Common.{rules, ◌≡◌, ◌<◌, ◌≤◌, length, map, arith}
use Rattle.std.proofs.Math.ListN.{get_or}
use Rattle.std.proofs.lemmas.List.{length-map}
use Rattle.index_expr.specs.Expression.{expression_of}
use Rattle.tidy_indices.specs.Places.{shorter}
use Rattle.tidy_indices.proofs.Changes.{changed_seen, unchanged}
use Rattle.tidy_indices.proofs.places.shorten.Goals as goal

pub returns-in-Some : goal.returns-in-Some
returns-in-Some c =
    let within : c.args.turn < length c.args.lengths.now.items = search rules in
    let at : c.in-Some.known.now ≡ get_or c.args.lengths.now.items c.args.turn c.in-Some.known.now = search rules in
    changed_seen expression_of (λ known. shorter known (expression_of c.args.length)) c.args.lengths.now.items c.args.turn c.in-Some.known.now c.shorter.result within at c.shorter.ensures

pub returns-in_default : goal.returns-in_default
returns-in_default c =
    let past : length c.args.lengths.now.items ≤ c.args.turn = search rules in
    let same = length-map c.args.lengths.now.items expression_of in
    unchanged (λ known. shorter known (expression_of c.args.length)) (map expression_of c.args.lengths.now.items) c.args.turn (omega arith)
