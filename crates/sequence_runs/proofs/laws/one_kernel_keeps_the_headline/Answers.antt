use Rattle.sequence_runs.proofs.Alone as alone
use Rattle.sequence_runs.proofs.laws.one_kernel_keeps_the_headline.Goals as goal

pub returns : goal.returns
returns c = alone.one_kernel_keeps_the_headline c.lists_have_lengths.ensures c.typed_nodes_type_the_term.ensures c.values_have_their_types.ensures
