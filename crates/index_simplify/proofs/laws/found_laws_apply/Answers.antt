use Rattle.index_simplify.proofs.Shapes.{found_applies}
use Rattle.index_simplify.proofs.laws.found_laws_apply.Goals as goal

pub returns : goal.returns
returns c = found_applies
