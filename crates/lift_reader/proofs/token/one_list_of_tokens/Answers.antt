use Rattle.lift_reader.proofs.OneCut.{one_list}
use Rattle.lift_reader.proofs.token.one_list_of_tokens.Goals as goal

pub returns : goal.returns
returns c = one_list
