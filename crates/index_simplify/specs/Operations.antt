-- What an expression is simplified to.
use Rattle.std.specs.Prelude.{List, [], ◌∷◌, Option, Some, None, if◌then◌else◌}
use Rattle.index_expr.specs.declared.operation.Operation.{Operation}
use Rattle.index_expr.specs.Expression.{Expression, Variable, Literal, Size, Binary}
use Rattle.index_simplify.specs.PlainRanges.{PlainRanges}
use Rattle.index_simplify.specs.declared.law.Law.{Law}
use Rattle.index_simplify.specs.declared.law.TheConstants.{LAWS}
use Rattle.index_simplify.specs.Laws.{applies, applied}
use Rattle.index_simplify.specs.Cells.{parted}

-- the first of the laws that is of the operation on these expressions
abbrev pub first_law : PlainRanges → Operation → Expression → Expression → List Law → Option Law
first_law r o a b [] = None
first_law r o a b (law ∷ laws) = if applies r law o a b then Some law else first_law r o a b laws

-- what the law leaves of an operation; itself where there is no law
abbrev pub by_law : Option Law → Operation → Expression → Expression → Expression
by_law None o a b = Binary o a b
by_law (Some law) o a b = applied law o a b

-- by the first law of the table that is of it, if there is any
abbrev pub operation_on : PlainRanges → Operation → Expression → Expression → Expression
operation_on r o a b = by_law (first_law r o a b LAWS) o a b

-- each operation on what its arguments are simplified to by the table
abbrev pub tabled : PlainRanges → Expression → Expression
tabled r (Variable k l g) = Variable k l g
tabled r (Literal n) = Literal n
tabled r (Size k) = Size k
tabled r (Binary o a b) = operation_on r o (tabled r a) (tabled r b)

-- cut into parts, and simplified by the table again
abbrev pub recut : PlainRanges → Expression → Expression
recut r e = tabled r (parted r e)

-- by the table, and three times cut into parts: each time lays open what the next can take apart
abbrev pub simple : PlainRanges → Expression → Expression
simple r e = recut r (recut r (recut r (tabled r e)))
