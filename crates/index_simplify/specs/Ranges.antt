-- The points of ranges.
use Rattle.std.specs.Prelude.{ℕ, ◌≡◌, ◌<◌, ◌≤◌, ◌%◌, ◌<ℤ◌, pos, List, Some, slice_get, slice_index}
use Rattle.index_expr.specs.Expression.{Expression, Variable, Literal, Size, Binary}
use Rattle.index_expr.specs.Values.{exact}
use Rattle.index_simplify.specs.PlainRanges.{PlainRanges}

-- the variable of each loop is below the loop's length
abbrev pub AreBelowLengths : PlainRanges → (sizes variables : List ℕ) → Type 0
AreBelowLengths r sizes variables =
    (k : ℕ) (n : Expression) → slice_get r.lengths k ≡ Some n
    → pos (slice_index variables k) <ℤ exact sizes variables n

-- each size is a multiple of its number
abbrev pub AreMultiples : PlainRanges → (sizes : List ℕ) → Type 0
AreMultiples r sizes = (k m : ℕ) → slice_get r.multiples k ≡ Some m → slice_index sizes k % m ≡ 0

-- each size is at least 1
abbrev pub ArePositive : PlainRanges → (sizes : List ℕ) → Type 0
ArePositive r sizes = (k m : ℕ) → slice_get r.multiples k ≡ Some m → 0 < slice_index sizes k

-- each variable of the expression lies within the range that it carries
abbrev pub AreWithin : (variables : List ℕ) → Expression → Type 0
AreWithin variables (Variable k l g) = (l ≤ slice_index variables k) × (slice_index variables k ≤ g)
AreWithin variables (Literal n) = Unit {0}
AreWithin variables (Size k) = Unit {0}
AreWithin variables (Binary o a b) = AreWithin variables a × AreWithin variables b

-- a point of the ranges
pub record IsPoint (r : PlainRanges) (sizes variables : List ℕ) (e : Expression) : Type 0 where
  pub loops : AreBelowLengths r sizes variables
  pub multiples : AreMultiples r sizes
  pub positive : ArePositive r sizes
  pub own : AreWithin variables e
