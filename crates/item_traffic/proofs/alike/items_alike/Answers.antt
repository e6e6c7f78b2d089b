use Rattle.std.proofs.Common.{◌+◌, ◌%◌, ◌≤◌, subst, sym, ap, ◌∙◌, arith}
use Rattle.kernel_tree.specs.Formula.{Ids, ids_along}
use Rattle.kernel_tree.specs.Launch.{Launch, row_of}
use Rattle.lowering.specs.Terms.{kind_of}
use Rattle.term_traffic.specs.Traffic.{turns_of}
use Rattle.item_traffic.proofs.Places.{Alike, ids_further}
use Rattle.item_traffic.proofs.alike.items_alike.Goals as goal

pub returns-clause-alike : goal.returns-clause-alike
returns-clause-alike c =
    let l = c.args.launch.now in
    let r = c.columns_alike.result in
    let alike = subst (λ (x : Launch). Alike (c.args.item % x.global.0) x.global.0 x.local.0 c.args.length c.columns_alike.result (kind_of c.args.kind)) c.launch.view_is c.columns_alike.ensures.alike in
    let row = subst (λ (x : Launch). c.args.item % x.global.0 + c.columns_alike.result ≤ x.global.0) c.launch.view_is c.columns_alike.ensures.row in
    λ k lt. alike (ids_along l.global.1 l.local.1 (row_of l c.args.item)) l.sizes k lt ∙ ap (λ (i : Ids). turns_of i (kind_of c.args.kind) c.args.length) (sym (ids_further l c.args.item k (omega arith)))
