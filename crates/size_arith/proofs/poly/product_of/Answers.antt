use Rattle.std.proofs.Common.{◌^◌, refl, arith}
use Rattle.size_arith.proofs.Limits.{small_of, low_of, canonical-times, wide-times}
use Rattle.size_arith.proofs.poly.product_of.Goals as goal

pub add_products-requires-clause-a_small : goal.add_products-requires-clause-a_small
add_products-requires-clause-a_small c = small_of (2 ^ 33) c.args.first.now c.args.first.now (omega arith) refl c.requires.first

pub add_products-requires-clause-a_low : goal.add_products-requires-clause-a_low
add_products-requires-clause-a_low c = low_of c.args.first.now c.args.first.now refl c.requires.first

pub add_products-requires-clause-b_small : goal.add_products-requires-clause-b_small
add_products-requires-clause-b_small c = small_of (2 ^ 33) c.args.second.now c.args.second.now (omega arith) refl c.requires.second

pub add_products-requires-clause-b_low : goal.add_products-requires-clause-b_low
add_products-requires-clause-b_low c = low_of c.args.second.now c.args.second.now refl c.requires.second

pub returns-clause-canonical : goal.returns-clause-canonical
returns-clause-canonical c = rw c.in_ok-add_products.ensures (canonical-times c.args.first.now c.args.second.now)

pub returns-clause-wide : goal.returns-clause-wide
returns-clause-wide c = rw c.in_ok-add_products.ensures (wide-times c.args.first.now c.args.second.now c.requires.first.wide c.requires.second.wide)
