use Rattle.kernel_premises.proofs.PrintedTerms.{terms_are_printed}
use Rattle.kernel_premises.proofs.terms.terms_are_printed.Goals as goal

pub returns : goal.returns
returns c = terms_are_printed c.formulas_spell_lengths.ensures c.kernels_are_printed.ensures
