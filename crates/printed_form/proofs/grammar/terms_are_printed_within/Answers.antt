use Rattle.printed_form.proofs.GrammarPieces.{terms_printed}
use Rattle.printed_form.proofs.grammar.terms_are_printed_within.Goals as goal

pub returns : goal.returns
returns c = terms_printed
