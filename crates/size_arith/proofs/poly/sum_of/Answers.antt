use Rattle.std.proofs.Common.{◌^◌, refl, ap, length, arith}
use Rattle.size_arith.specs.declared.poly.Monomial.{Monomial}
use Rattle.size_arith.proofs.Limits.{small_of, low_of, canonical-added, wide-added}
use Rattle.size_arith.proofs.poly.sum_of.Goals as goal

pub add_product-requires-clause-small : goal.add_product-requires-clause-small
add_product-requires-clause-small c = small_of (2 ^ 33) c.args.second.now c.args.second.now (omega arith) refl c.requires.second

pub add_product-requires-clause-low : goal.add_product-requires-clause-low
add_product-requires-clause-low c = low_of c.args.second.now c.args.second.now refl c.requires.second

pub add_product-requires-clause-room : goal.add_product-requires-clause-room
add_product-requires-clause-room c = small_of (2 ^ 99) c.args.first.now c.in_ok-sum.sum.items (omega arith) c.in_ok-sum.ensures.items c.requires.first

pub returns-clause-canonical : goal.returns-clause-canonical
returns-clause-canonical c = rw (c.in_ok-add_product.ensures, c.in_ok-sum.ensures.items) (canonical-added c.number.result c.args.second.now c.args.first.now c.requires.first.canonical)

pub returns-clause-wide : goal.returns-clause-wide
returns-clause-wide c =
    let w = ap (λ (m : Monomial). length m.powers) c.number.ensures in
    rw (c.in_ok-add_product.ensures, c.in_ok-sum.ensures.items) (wide-added c.number.result c.args.second.now c.args.first.now w c.requires.second.wide c.requires.first.wide)
