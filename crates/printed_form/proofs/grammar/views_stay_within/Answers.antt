use Rattle.printed_form.proofs.GrammarPieces.{views_stay}
use Rattle.printed_form.proofs.grammar.views_stay_within.Goals as goal

pub returns : goal.returns
returns c = views_stay
