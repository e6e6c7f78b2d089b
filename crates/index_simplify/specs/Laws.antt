-- The table of laws: which operations each is of, and what it leaves of them.
use Rattle.std.specs.Prelude.{ℕ, ◌&&◌, Bool, is_some, unwrap_or}
use Rattle.index_expr.specs.declared.operation.Operation.{Operation}
use Rattle.index_expr.specs.declared.operation.Operation.TheVariants.{Sum, Difference, Product, Quotient, Remainder, Least, Greatest}
use Rattle.index_expr.specs.Expression.{Expression, Literal, Binary}
use Rattle.index_simplify.specs.PlainRanges.{PlainRanges}
use Rattle.index_simplify.specs.declared.law.Law.{Law}
use Rattle.index_simplify.specs.declared.law.Law.TheVariants.{Computed, PlusZero, ZeroPlus, MinusZero, MinusItself, TimesOne, OneTimes, TimesZero, ZeroTimes, OverOne, ModuloOne, WholeSize, ScaledSize, RowOfCell, ColumnOfCell, CellOfParts, GreatestZero, ZeroGreatest, LeastZero, ZeroLeast}
use Rattle.index_simplify.specs.Literals.{computed}
use Rattle.index_simplify.specs.Tests.{same_operation, is_number, same, is_zero_beside, is_cell, are_parts, is_whole_size, is_scaled_size}

-- the first argument of an operation; any other expression itself
abbrev pub first_part : Expression → Expression
first_part (Binary o a b) = a
first_part e = e

-- the second argument of an operation; any other expression itself
abbrev pub second_part : Expression → Expression
second_part (Binary o a b) = b
second_part e = e

-- how often one number is in another; 0 for any other expressions
abbrev pub ratio : Expression → Expression → ℕ
ratio a b = unwrap_or (computed Quotient a b) 0

-- a number times a quotient, the quotient's divisor divided out of the number
abbrev pub scaled : (number quotient : Expression) → Expression
scaled c (Binary o size d) = Binary Product (Literal (ratio c d)) size
scaled c e = e

-- the law is of the operation on these expressions
abbrev pub applies : PlainRanges → Law → Operation → Expression → Expression → Bool
applies r Computed o a b = is_some (computed o a b)
applies r PlusZero o a b = same_operation o Sum && is_number 0 b
applies r ZeroPlus o a b = same_operation o Sum && is_number 0 a
applies r MinusZero o a b = same_operation o Difference && is_number 0 b
applies r MinusItself o a b = same_operation o Difference && same a b
applies r TimesOne o a b = same_operation o Product && is_number 1 b
applies r OneTimes o a b = same_operation o Product && is_number 1 a
applies r TimesZero o a b = same_operation o Product && is_number 0 b
applies r ZeroTimes o a b = same_operation o Product && is_number 0 a
applies r OverOne o a b = same_operation o Quotient && is_number 1 b
applies r ModuloOne o a b = same_operation o Remainder && is_number 1 b
applies r WholeSize o a b = same_operation o Product && is_whole_size r a b
applies r ScaledSize o a b = same_operation o Product && is_scaled_size r a b
applies r RowOfCell o a b = same_operation o Quotient && is_cell r a b
applies r ColumnOfCell o a b = same_operation o Remainder && is_cell r a b
applies r CellOfParts o a b = same_operation o Sum && are_parts a b
applies r GreatestZero o a b = same_operation o Greatest && is_zero_beside b a
applies r ZeroGreatest o a b = same_operation o Greatest && is_zero_beside a b
applies r LeastZero o a b = same_operation o Least && is_zero_beside b a
applies r ZeroLeast o a b = same_operation o Least && is_zero_beside a b

-- what has the operation's value then
abbrev pub applied : Law → Operation → Expression → Expression → Expression
applied Computed o a b = Literal (unwrap_or (computed o a b) 0)
applied PlusZero o a b = a
applied ZeroPlus o a b = b
applied MinusZero o a b = a
applied MinusItself o a b = Literal 0
applied TimesOne o a b = a
applied OneTimes o a b = b
applied TimesZero o a b = Literal 0
applied ZeroTimes o a b = Literal 0
applied OverOne o a b = a
applied ModuloOne o a b = Literal 0
applied WholeSize o a b = first_part b
applied ScaledSize o a b = scaled a b
applied RowOfCell o a b = first_part (first_part a)
applied ColumnOfCell o a b = second_part a
applied CellOfParts o a b = first_part (first_part a)
applied GreatestZero o a b = a
applied ZeroGreatest o a b = b
applied LeastZero o a b = Literal 0
applied ZeroLeast o a b = Literal 0
