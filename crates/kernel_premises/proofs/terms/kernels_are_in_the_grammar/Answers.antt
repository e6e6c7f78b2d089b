use Rattle.kernel_premises.proofs.InGrammar.{kernels_are_in_the_grammar}
use Rattle.kernel_premises.proofs.terms.kernels_are_in_the_grammar.Goals as goal

pub returns : goal.returns
returns c =
    kernels_are_in_the_grammar c.lowered_terms_have_sound_parts.ensures c.sound_parts_are_spelled.ensures c.terms_can_be_written.ensures c.terms_nest_within.ensures c.kernels_are_of_the_grammar.ensures
    c.group_kernels_are_of_the_grammar.ensures c.grid_kernels_are_of_the_grammar.ensures c.needed_are_flagged.ensures
