use Rattle.printed_form.proofs.GrammarPieces.{arrays_declared}
use Rattle.printed_form.proofs.grammar.arrays_can_be_declared.Goals as goal

pub returns : goal.returns
returns c = arrays_declared
