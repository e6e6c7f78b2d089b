use Rattle.nest_premises.proofs.Whole.{rows_are_on_top, terms_ask_for_rows}
use Rattle.nest_premises.proofs.laws.rows_are_on_top.Goals as goal

pub returns-clause-told : goal.returns-clause-told
returns-clause-told c = rows_are_on_top

pub returns-clause-asked : goal.returns-clause-asked
returns-clause-asked c = terms_ask_for_rows
