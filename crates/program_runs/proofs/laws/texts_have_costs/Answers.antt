use Rattle.program_runs.proofs.Costs.{costs_of_texts}
use Rattle.program_runs.proofs.laws.texts_have_costs.Goals as goal

pub returns : goal.returns
returns c = costs_of_texts (record {
  back = c.bases_come_back.ensures;
  ends = c.compilation_ends_once.ensures;
  laid = c.layout.ensures.whole;
  one_type = c.terms_have_one_type.ensures;
  printable = c.legal_terms_are_printable.ensures;
  rows = c.rows_are_on_top.ensures.asked;
  runs = c.runs_have_traffic.ensures;
})
