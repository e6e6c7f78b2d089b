use Rattle.std.proofs.Common.{◌^◌, [], pos, get_or}
use Rattle.size_arith.specs.declared.poly.Monomial.{Monomial}
use Rattle.size_arith.proofs.Steps.{small_first, room_after_rest, product_small_back}
use Rattle.size_arith.proofs.insertion.+add_product.Goals as goal

pub put_at-requires-clause-small : goal.put_at-requires-clause-small
put_at-requires-clause-small t c =
    room_after_rest c.args.by.now c.args.monomials.now c.args.sum.now.items c.add_product.new.sum.items c.in-len1-up.len_at_least c.requires.by_small c.requires.small c.requires.few c.requires.room c.in_ok-add_product.ensures

pub put_at-requires-clause-coefficient : goal.put_at-requires-clause-coefficient
put_at-requires-clause-coefficient t c =
    let d : Monomial = record { coefficient = pos 0; powers = [] } in
    product_small_back c.args.by.now.coefficient (get_or c.args.monomials.now 0 d).coefficient c.product_of-coefficient.result c.product_of-coefficient.ensures c.requires.by_small (small_first (2 ^ 33) c.args.monomials.now d c.in-len1-up.len_at_least c.requires.small)
