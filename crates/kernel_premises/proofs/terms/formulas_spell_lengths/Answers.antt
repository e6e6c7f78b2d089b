use Rattle.kernel_premises.proofs.PrintedTerms.{formulas_spell_lengths}
use Rattle.kernel_premises.proofs.terms.formulas_spell_lengths.Goals as goal

pub returns : goal.returns
returns c = formulas_spell_lengths c.lengths_are_spelled.ensures
