-- What holds of simplified expressions, and of the tests and the laws by which they are simplified.
use Rattle.std.specs.Prelude.{ℕ, ◌≡◌, ◌<◌, ◌≤◌, true, List, Some}
use Rattle.index_expr.specs.declared.operation.Operation.{Operation}
use Rattle.index_expr.specs.declared.operation.Operation.TheVariants.{Sum, Product, Quotient, Remainder}
use Rattle.index_expr.specs.Expression.{Expression, Variable, Literal, Binary}
use Rattle.index_expr.specs.Values.{exact}
use Rattle.index_simplify.specs.PlainRanges.{PlainRanges}
use Rattle.index_simplify.specs.Tests.{same_operation, same}
use Rattle.index_simplify.specs.declared.law.Law.{Law}
use Rattle.index_simplify.specs.Laws.{applies}
use Rattle.index_simplify.specs.Simplified.{IsSimplified}
use Rattle.index_simplify.specs.Operations.{first_law, tabled, simple}

-- with its value at every point of the ranges, no larger, and simple
abbrev pub ExpressionsAreSimplified : Type 0
ExpressionsAreSimplified = (r : PlainRanges) (e : Expression) → IsSimplified r e (simple r e)

-- and so is what the table alone makes of it
abbrev pub TabledExpressionsAreSimplified : Type 0
TabledExpressionsAreSimplified = (r : PlainRanges) (e : Expression) → IsSimplified r e (tabled r e)

-- the first of some laws that is found for an operation is of it
abbrev pub FoundLawsApply : Type 0
FoundLawsApply =
    (r : PlainRanges) (o : Operation) (a b : Expression) (laws : List Law) (law : Law)
    → first_law r o a b laws ≡ Some law → applies r law o a b ≡ true

-- operations that the test finds the same are one
abbrev pub SameOperationsAreEqual : Type 0
SameOperationsAreEqual = (o p : Operation) → same_operation o p ≡ true → o ≡ p

-- the same but for the ranges that their variables carry
abbrev pub SameExpressionsHaveOneValue : Type 0
SameExpressionsHaveOneValue =
    (sizes variables : List ℕ) (a b : Expression)
    → same a b ≡ true → exact sizes variables a ≡ exact sizes variables b

-- the row and the column of a cell come back, where the range of the column lies within the row
abbrev pub CellsComeApart : Type 0
CellsComeApart =
    (r : PlainRanges) (k l g j m h n : ℕ) → h < n → 2 ≤ n
    →
    (simple r
    (Binary Quotient
    (Binary Sum (Binary Product (Variable k l g) (Literal n)) (Variable j m h))
    (Literal n))
    ≡ Variable k l g)
    ×
    (simple r
    (Binary Remainder
    (Binary Sum (Binary Product (Variable k l g) (Literal n)) (Variable j m h))
    (Literal n))
    ≡ Variable j m h)

-- a variable whose range is 0 alone is nothing to a sum
abbrev pub NothingIsAdded : Type 0
NothingIsAdded =
    (r : PlainRanges) (k l g j m : ℕ)
    → simple r (Binary Sum (Variable k l g) (Variable j m 0)) ≡ Variable k l g
