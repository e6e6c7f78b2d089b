use Rattle.std.proofs.Common.{◌≡◌, subst}
use Rattle.lift_ir.specs.Lowering.{element_ty}
use Rattle.lift_tree.specs.Types.{ty_of}
use Rattle.term_traffic.specs.Regions.{all_in}
use Rattle.term_traffic.specs.Traffic.{stores_in}
use Rattle.item_traffic.specs.Counts.{held, store_of}
use Rattle.item_traffic.specs.Places.{region_in}
use Rattle.item_traffic.proofs.Held.{added}
use Rattle.item_traffic.proofs.counts.+stores.Goals as goal

pub returns-in-Pair : goal.returns-in-Pair
returns-in-Pair t c = rw c.in-Pair.is (added _ _ _ _ _ c.saturating_add.ensures
    (subst (λ z. c.stores-first.result ≡ held (stores_in (store_of c.args.access) (element_ty (ty_of z)) (all_in (region_in c.args.to)))) c.deref.ensures c.stores-first.ensures)
    (subst (λ z. c.stores-second.result ≡ held (stores_in (store_of c.args.access) (element_ty (ty_of z)) (all_in (region_in c.args.to)))) c.deref-in-Pair.ensures c.stores-second.ensures))
