use Rattle.index_expr.specs.Expression.{expression_of}
use Rattle.index_simplify.specs.PlainRanges.{ranges_of}
use Rattle.index_simplify.proofs.Operations.{all_simplified}
use Rattle.index_simplify.proofs.simplify.simplified.Goals as goal

pub returns-clause-simplified : goal.returns-clause-simplified
returns-clause-simplified c = all_simplified (ranges_of c.args.ranges.now) (expression_of c.args.index.now) c.simple.result c.simple.ensures
