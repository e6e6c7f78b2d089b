-- The shapes that no index and no bound of a kernel has a part of: something simpler has their
-- value, whatever the ranges.
use Rattle.std.specs.Prelude.{ℕ, ◌+◌, ◌*◌, ◌^◌, ◌<◌, min, max}
use Rattle.scalar_ops.specs.declared.op.Op.TheVariants.{Add, Sub, Mul, Min, Max, Div, Rem}
use Rattle.kernel_tree.specs.Formula.{Formula, Number, Binary, Choose}
use Rattle.length_spelling.specs.Turns.{turn_formula}

-- something simpler has its value
pub data IsRedundant : Formula → Type 0 where
  SumOfNumbers : (m n : ℕ) → m + n < 2 ^ 32 → IsRedundant (Binary Add (Number m) (Number n))
  ProductOfNumbers : (m n : ℕ) → m * n < 2 ^ 32 → IsRedundant (Binary Mul (Number m) (Number n))
  LeastOfNumbers : (m n : ℕ) → min m n < 2 ^ 32 → IsRedundant (Binary Min (Number m) (Number n))
  GreatestOfNumbers : (m n : ℕ) → max m n < 2 ^ 32 → IsRedundant (Binary Max (Number m) (Number n))
  QuotientOfNumbers : (m n : ℕ) → IsRedundant (Binary Div (Number m) (Number n))
  RemainderOfNumbers : (m n : ℕ) → IsRedundant (Binary Rem (Number m) (Number n))
  PlusZero : (f : Formula) → IsRedundant (Binary Add f (Number 0))
  ZeroPlus : (f : Formula) → IsRedundant (Binary Add (Number 0) f)
  MinusZero : (f : Formula) → IsRedundant (Binary Sub f (Number 0))
  TimesOne : (f : Formula) → IsRedundant (Binary Mul f (Number 1))
  OneTimes : (f : Formula) → IsRedundant (Binary Mul (Number 1) f)
  TimesZero : (f : Formula) → IsRedundant (Binary Mul f (Number 0))
  ZeroTimes : (f : Formula) → IsRedundant (Binary Mul (Number 0) f)
  OverOne : (f : Formula) → IsRedundant (Binary Div f (Number 1))
  ModuloOne : (f : Formula) → IsRedundant (Binary Rem f (Number 1))
  CellOfParts :
      (k n : ℕ)
      → IsRedundant (Binary Add (Binary Mul (Binary Div (turn_formula k) (Number n)) (Number n))
      (Binary Rem (turn_formula k) (Number n)))  -- of any turn, a loop's or an id

-- no part of it is redundant
abbrev pub IsIrredundant : Formula → Type 0
IsIrredundant (Binary o a b) = (IsRedundant (Binary o a b) → ⊥) × IsIrredundant a × IsIrredundant b
IsIrredundant (Choose c a b x y) =
    IsIrredundant a × IsIrredundant b × IsIrredundant x × IsIrredundant y
IsIrredundant _ = Unit {0}
