use Rattle.lift_ir.specs.AtLaunch.{length_at}
use Rattle.item_traffic.proofs.SameTraffic.{same_traffic}
use Rattle.item_traffic.proofs.alike.items_load_and_store_alike.Goals as goal

pub returns : goal.returns
returns c bases t one other h = same_traffic (length_at bases) one other t h
