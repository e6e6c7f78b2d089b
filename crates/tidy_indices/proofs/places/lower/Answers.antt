use Rattle.std.proofs.Common.{rules, ◌≡◌, ◌<◌, ◌≤◌, min, length, arith}
use Rattle.std.proofs.Math.ListN.{get_or}
use Rattle.tidy_indices.proofs.Changes.{changed, unchanged}
use Rattle.tidy_indices.proofs.places.lower.Goals as goal

pub returns-in-Some : goal.returns-in-Some
returns-in-Some c =
    let xs = c.args.lasts.now.items in
    let within : c.args.turn < length c.args.lasts.now.items = search rules in
    let at : c.in-Some.known.now ≡ get_or c.args.lasts.now.items c.args.turn c.in-Some.known.now = search rules in
    let least : c.min.result ≡ min c.in-Some.known.now c.args.last = omega arith in
    changed (λ known. min known c.args.last) xs c.args.turn c.in-Some.known.now c.min.result within at least

pub returns-in_default : goal.returns-in_default
returns-in_default c =
    let past : length c.args.lasts.now.items ≤ c.args.turn = search rules in
    unchanged (λ known. min known c.args.last) c.args.lasts.now.items c.args.turn past
