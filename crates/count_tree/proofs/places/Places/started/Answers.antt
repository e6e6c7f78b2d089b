use Rattle.std.proofs.Common.{arith}
use Rattle.count_tree.proofs.places.Places.started.Goals as goal

pub new-requires-clause-few : goal.new-requires-clause-few
new-requires-clause-few c = let e = c.room.ensures.least 16 c.requires.few in omega arith
