use Rattle.kernel_premises.proofs.GroupKernels.{group_kernels_are_of_the_grammar}
use Rattle.kernel_premises.proofs.group_grammar.group_kernels_are_of_the_grammar.Goals as goal

pub returns : goal.returns
returns c = group_kernels_are_of_the_grammar c.views_stay_within.ensures c.maps_are_of_the_grammar.ensures c.terms_are_printed_within.ensures c.local_arrays_are_counted.ensures
