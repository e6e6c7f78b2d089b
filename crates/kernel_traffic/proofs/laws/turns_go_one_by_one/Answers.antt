use Rattle.kernel_traffic.proofs.Turns.{no_turn, next_turn}
use Rattle.kernel_traffic.proofs.laws.turns_go_one_by_one.Goals as goal

pub returns : goal.returns
returns c = record { past = no_turn; before = next_turn }
