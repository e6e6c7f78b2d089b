-- What is left of a length without one of its factors.
use Rattle.std.specs.Prelude.{ℕ, ◌==◌, ◌/◌, ◌%◌, ◌&&◌, nat_lt, if◌then◌else◌, Bool, Option, Some, None, option_and_then}
use Rattle.index_expr.specs.declared.operation.Operation.TheVariants.{Product}
use Rattle.index_expr.specs.Expression.{Expression, Literal, Binary}
use Rattle.index_simplify.specs.Tests.{is_number, same}

-- the product, without a factor 1
abbrev pub times : Expression → Expression → Expression
times a b = if is_number 1 a then b else (if is_number 1 b then a else Binary Product a b)

-- the number over a number that divides it
abbrev pub number_over : ℕ → Expression → Option Expression
number_over c (Literal d) = if nat_lt 0 d && (c % d == 0) then Some (Literal (c / d)) else None
number_over c _ = None

-- 1, where what is left is of a factor without itself
abbrev pub one_where : Bool → Option Expression
one_where b = if b then Some (Literal 1) else None

-- a product, the first or the second of which is this without the factor
abbrev pub in_product : (a b : Expression) → (first second : Option Expression) → Option Expression
in_product a b (Some q) second = Some (times q b)
in_product a b None (Some q) = Some (times a q)
in_product a b None None = None

-- what is left of a product without this factor, where it has it
abbrev pub without : Expression → (factor : Expression) → Option Expression
without (Literal c) f = number_over c f
without (Binary Product a b) f = in_product a b (without a f) (without b f)
without e f = one_where (same e f)

-- what a length is over another, all of whose factors it has
abbrev pub over : (length divisor : Expression) → Option Expression
over m (Binary Product a b) = option_and_then (λ q. over q b) (over m a)
over m n = without m n
