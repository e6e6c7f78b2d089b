use Rattle.printed_form.proofs.GrammarPieces.{maps_stay}
use Rattle.printed_form.proofs.grammar.maps_are_of_the_grammar.Goals as goal

pub returns : goal.returns
returns c = maps_stay
