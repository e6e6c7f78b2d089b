-- What is known at a place, wherever it lies in memory.
use Rattle.std.specs.Prelude.{ℕ, List, map}
use Rattle.index_expr.specs.Expression.{Expression, expression_of}
use Rattle.index_simplify.specs.declared.ranges.Ranges.{Ranges}

-- the length of each loop around, the outermost first, and for each size a
-- number that it is a multiple of
pub record PlainRanges : Type 0 where
  pub lengths : List Expression
  pub multiples : List ℕ

-- what is known by the ranges that lie in memory
abbrev pub ranges_of : Ranges → PlainRanges
ranges_of r = record { lengths = map expression_of r.lengths.items; multiples = r.multiples.items }
