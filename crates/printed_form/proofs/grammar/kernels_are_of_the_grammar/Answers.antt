use Rattle.printed_form.proofs.GrammarKernels.{of_the_grammar}
use Rattle.printed_form.proofs.grammar.kernels_are_of_the_grammar.Goals as goal

pub returns : goal.returns
returns c = of_the_grammar
