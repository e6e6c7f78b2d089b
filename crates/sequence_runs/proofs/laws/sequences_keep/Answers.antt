use Rattle.sequence_runs.proofs.Keeping.{sequences_keep}
use Rattle.sequence_runs.proofs.laws.sequences_keep.Goals as goal

pub returns : goal.returns
returns c = sequences_keep (record {
  stay = c.inputs_stay.ensures;
  lengths = c.lists_have_lengths.ensures;
  more = c.more_inputs_keep_the_value.ensures;
  belong = c.outputs_belong.ensures;
  sequences = c.sequences_leave_the_value.ensures;
  typed = c.typed_nodes_type_the_term.ensures;
  values = c.values_have_their_types.ensures;
})
