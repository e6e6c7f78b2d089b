-- Operations on two numbers.
use Rattle.std.specs.Prelude.{ℕ, ◌+◌, ◌-◌, ◌*◌, ◌/◌, ◌%◌, ◌^◌, nat_lt, nat_le, min, max, if◌then◌else◌, Option, Some, None}
use Rattle.index_expr.specs.declared.operation.Operation.{Operation}
use Rattle.index_expr.specs.declared.operation.Operation.TheVariants.{Sum, Difference, Product, Quotient, Remainder, Least, Greatest}
use Rattle.index_expr.specs.Expression.{Expression, Literal}

-- a number, where it is a word
abbrev pub word : ℕ → Option ℕ
word n = if nat_lt n (2 ^ 32) then Some n else None

-- what is left, where there is enough
abbrev pub difference : ℕ → ℕ → Option ℕ
difference m n = if nat_le n m then Some (m - n) else None

-- the result on two words, where it is a word
abbrev pub computed_from : Operation → ℕ → ℕ → Option ℕ
computed_from Sum m n = word (m + n)
computed_from Difference m n = difference m n
computed_from Product m n = word (m * n)
computed_from Quotient m n = Some (m / n)
computed_from Remainder m n = Some (m % n)
computed_from Least m n = Some (min m n)
computed_from Greatest m n = Some (max m n)

-- the result on a number and an expression, where this is a literal
abbrev pub computed_with : Operation → ℕ → Expression → Option ℕ
computed_with o m (Literal n) = computed_from o m n
computed_with o m _ = None

-- the result on two literals
abbrev pub computed : Operation → Expression → Expression → Option ℕ
computed o (Literal m) b = computed_with o m b
computed o _ b = None
