-- What a simplified expression has in common with the one that it is made of, and what more.
use Rattle.std.specs.Prelude.{ℕ, suc, ◌≡◌, ◌^◌, ◌<◌, ◌≤◌, ◌&&◌, max, Bool, true, List}
use Rattle.index_expr.specs.declared.operation.Operation.{Operation}
use Rattle.index_expr.specs.declared.operation.Operation.TheVariants.{Quotient}
use Rattle.index_expr.specs.Expression.{Expression, Variable, Literal, Size, Binary, nodes, short_nodes}
use Rattle.index_expr.specs.Values.{EachOperation, exact, IsRangedAt, HasWordArgumentsAt, HasNoZeroDivisorAt}
use Rattle.index_simplify.specs.PlainRanges.{PlainRanges}
use Rattle.index_simplify.specs.Tests.{is_multiple}
use Rattle.index_simplify.specs.Ranges.{AreWithin, IsPoint}
use Rattle.index_simplify.specs.Shapes.{IsSimple}

-- how many nodes stand one in another
abbrev pub height : Expression → ℕ
height (Variable k l g) = 1
height (Literal n) = 1
height (Size k) = 1
height (Binary o a b) = suc (max (height a) (height b))

-- all its variables and sizes are of these
abbrev pub names_are : (variable size : ℕ → Bool) → Expression → Bool
names_are variable size (Variable k l g) = variable k
names_are variable size (Literal n) = true
names_are variable size (Size k) = size k
names_are variable size (Binary o a b) = names_are variable size a && names_are variable size b

-- all its literals are words
abbrev pub HasWordLiterals : Expression → Type 0
HasWordLiterals (Variable k l g) = Unit {0}
HasWordLiterals (Literal n) = n < 2 ^ 32
HasWordLiterals (Size k) = Unit {0}
HasWordLiterals (Binary o a b) = HasWordLiterals a × HasWordLiterals b

-- at this point the second stands for the first
pub record StandsFor (sizes variables : List ℕ) (e s : Expression) : Type 0 where
  pub value : exact sizes variables s ≡ exact sizes variables e
  pub words : HasWordArgumentsAt sizes variables e → HasWordArgumentsAt sizes variables s
  pub ranged : IsRangedAt sizes variables e → IsRangedAt sizes variables s
  pub divisors : HasNoZeroDivisorAt sizes variables e → HasNoZeroDivisorAt sizes variables s
  pub own : AreWithin variables s

-- the second is no larger and has no other names
pub record IsNoLarger (e s : Expression) : Type 0 where
  pub nodes : nodes s ≤ nodes e
  pub height : height s ≤ height e
  pub names : (variable size : ℕ → Bool) → names_are variable size e ≡ true
      → names_are variable size s ≡ true

-- sizes are divided by the numbers that they are known to be multiples of
abbrev pub is_declared : PlainRanges → Operation → Expression → Expression → Bool
is_declared r Quotient (Size k) (Literal d) = is_multiple r (Size k) (Literal d)
is_declared r _ _ _ = true

-- all its sizes over literals are over such numbers
abbrev pub AreDeclared : PlainRanges → Expression → Type 0
AreDeclared r e = EachOperation (λ o a b. is_declared r o a b ≡ true) e

-- the second is simple, no larger than the first, and stands for it at each point of the ranges
pub record IsSimplified (r : PlainRanges) (e s : Expression) : Type 0 where
  pub stands : (sizes variables : List ℕ) → IsPoint r sizes variables e
      → StandsFor sizes variables e s
  pub small : IsNoLarger e s
  pub literals : HasWordLiterals e → HasWordLiterals s
  pub short : AreDeclared r e → nodes s ≤ short_nodes e
  pub simple : IsSimple s
