use Rattle.printed_form.proofs.FromHistories.{keeps_from}
use Rattle.printed_form.proofs.laws.one_run_keeps.Goals as goal

pub returns : goal.returns
returns c = keeps_from
