-- The shapes that no node of a simplified expression has.
use Rattle.std.specs.Prelude.{ℕ, ◌+◌, ◌*◌, ◌^◌, ◌<◌, min, max}
use Rattle.index_expr.specs.declared.operation.Operation.TheVariants.{Sum, Difference, Product, Quotient, Remainder, Least, Greatest}
use Rattle.index_expr.specs.Expression.{Expression, Variable, Literal, Size, Binary}

-- the shapes that tell by themselves that something simpler has their value
pub data IsRedundant : Expression → Type 0 where
  SumOfLiterals : (m n : ℕ) → m + n < 2 ^ 32 → IsRedundant (Binary Sum (Literal m) (Literal n))
  ProductOfLiterals : (m n : ℕ) → m * n < 2 ^ 32
      → IsRedundant (Binary Product (Literal m) (Literal n))
  LeastOfLiterals : (m n : ℕ) → min m n < 2 ^ 32
      → IsRedundant (Binary Least (Literal m) (Literal n))
  GreatestOfLiterals : (m n : ℕ) → max m n < 2 ^ 32
      → IsRedundant (Binary Greatest (Literal m) (Literal n))
  QuotientOfLiterals : (m n : ℕ) → IsRedundant (Binary Quotient (Literal m) (Literal n))
  RemainderOfLiterals : (m n : ℕ) → IsRedundant (Binary Remainder (Literal m) (Literal n))
  PlusZero : (e : Expression) → IsRedundant (Binary Sum e (Literal 0))
  ZeroPlus : (e : Expression) → IsRedundant (Binary Sum (Literal 0) e)
  MinusZero : (e : Expression) → IsRedundant (Binary Difference e (Literal 0))
  TimesOne : (e : Expression) → IsRedundant (Binary Product e (Literal 1))
  OneTimes : (e : Expression) → IsRedundant (Binary Product (Literal 1) e)
  TimesZero : (e : Expression) → IsRedundant (Binary Product e (Literal 0))
  ZeroTimes : (e : Expression) → IsRedundant (Binary Product (Literal 0) e)
  OverOne : (e : Expression) → IsRedundant (Binary Quotient e (Literal 1))
  ModuloOne : (e : Expression) → IsRedundant (Binary Remainder e (Literal 1))
  CellOfParts : (k l g l' g' n : ℕ)
      → IsRedundant
      (Binary Sum (Binary Product (Binary Quotient (Variable k l g) (Literal n)) (Literal n))
      (Binary Remainder (Variable k l' g') (Literal n)))

-- (x * n + y) over n and modulo n, where the range of y lies within 0 to n - 1
pub data UndoesCell : Expression → Type 0 where
  RowOfCell : (k l g j m h n : ℕ) → h < n
      → UndoesCell
      (Binary Quotient
      (Binary Sum (Binary Product (Variable k l g) (Literal n)) (Variable j m h))
      (Literal n))
  ColumnOfCell : (k l g j m h n : ℕ) → h < n
      → UndoesCell
      (Binary Remainder
      (Binary Sum (Binary Product (Variable k l g) (Literal n)) (Variable j m h))
      (Literal n))

-- it holds of each operation of the expression
abbrev pub EachNode : (Expression → Type 0) → Expression → Type 0
EachNode P (Variable k l g) = Unit {0}
EachNode P (Literal n) = Unit {0}
EachNode P (Size k) = Unit {0}
EachNode P (Binary o a b) = P (Binary o a b) × EachNode P a × EachNode P b

-- none of the shapes
pub record IsPlain (e : Expression) : Type 0 where
  pub irredundant : IsRedundant e → ⊥
  pub no_cell : UndoesCell e → ⊥

-- no node has any of the shapes
abbrev pub IsSimple : Expression → Type 0
IsSimple e = EachNode IsPlain e
