-- Stacks of indices.
use Rattle.std.specs.Prelude.{List, map, reverse}
use Rattle.index_expr.specs.Expression.{Expression, expression_of}
use Rattle.array_views.specs.declared.stack.IndexStack.{IndexStack}

-- the indices, from the top
abbrev pub indices_in : IndexStack → List Expression
indices_in s = map expression_of (reverse s.indices.items)
