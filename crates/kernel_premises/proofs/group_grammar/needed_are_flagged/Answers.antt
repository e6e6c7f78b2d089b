use Rattle.kernel_premises.proofs.Flags.{needed_are_flagged}
use Rattle.kernel_premises.proofs.group_grammar.needed_are_flagged.Goals as goal

pub returns : goal.returns
returns c = needed_are_flagged
