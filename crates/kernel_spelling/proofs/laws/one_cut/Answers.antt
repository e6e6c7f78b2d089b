use Rattle.kernel_spelling.proofs.Cut.{one_cut, joined_pieces}
use Rattle.kernel_spelling.proofs.laws.one_cut.Goals as goal

pub returns : goal.returns
returns c = record { one = one_cut; whole = joined_pieces }
