use Rattle.kernel_premises.proofs.GridKernels.{grid_kernels_are_of_the_grammar}
use Rattle.kernel_premises.proofs.group_grammar.grid_kernels_are_of_the_grammar.Goals as goal

pub returns : goal.returns
returns c = grid_kernels_are_of_the_grammar c.views_stay_within.ensures c.maps_are_of_the_grammar.ensures c.terms_are_printed_within.ensures
