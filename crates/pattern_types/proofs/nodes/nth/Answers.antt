use Rattle.pattern_types.proofs.Counted.{nth_is}
use Rattle.pattern_types.proofs.nodes.nth.Goals as goal

pub returns : goal.returns
returns c = rw (nth_is c.args.types.now.items c.args.number c.in-Some.ty.now c.requires c.in-Some.ensures.lookup) c.copy.ensures
