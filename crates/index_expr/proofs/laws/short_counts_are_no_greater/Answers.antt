use Rattle.index_expr.proofs.Counts.{short_at_most}
use Rattle.index_expr.proofs.laws.short_counts_are_no_greater.Goals as goal

pub returns : goal.returns
returns c = short_at_most
