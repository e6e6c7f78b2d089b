use Rattle.size_arith.proofs.Steps.{room_after_times}
use Rattle.size_arith.proofs.insertion.+add_products.Goals as goal

pub add_product-requires-clause-room : goal.add_product-requires-clause-room
add_product-requires-clause-room t c =
    room_after_times c.args.a.now c.args.b.now c.add_products.new.sum.items c.in-len1-up.len_at_least c.requires.a_small c.requires.b_small c.requires.a_few c.requires.b_few c.in_ok-add_products.ensures
