use Rattle.program_runs.proofs.AlikeInOrder.{line_alike}
use Rattle.program_runs.proofs.laws.sequences_run_alike.Goals as goal

pub returns : goal.returns
returns c = line_alike (record {
  one = c.texts_are_of_one_sequence.ensures;
  ends = c.sequences_end_once.ensures;
  rows = c.rows_are_on_top.ensures.asked;
  lengths = c.lists_have_lengths.ensures;
  values = c.values_have_their_types.ensures;
  alike = c.printed_kernels_go_alike.ensures;
})
