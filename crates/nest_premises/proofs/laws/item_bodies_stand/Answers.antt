use Rattle.nest_premises.proofs.InGroups.{item_bodies_stand}
use Rattle.nest_premises.proofs.laws.item_bodies_stand.Goals as goal

pub returns : goal.returns
returns c = item_bodies_stand
