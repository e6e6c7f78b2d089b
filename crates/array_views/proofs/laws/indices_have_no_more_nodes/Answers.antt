use Rattle.array_views.proofs.Nodes.{no_more_nodes, all_nodes, in_short}
use Rattle.index_expr.specs.Expression.{nodes, short_nodes}
use Rattle.array_views.proofs.laws.indices_have_no_more_nodes.Goals as goal

pub returns : goal.returns
returns c = (no_more_nodes nodes all_nodes, no_more_nodes short_nodes in_short)
