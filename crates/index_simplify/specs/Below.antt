-- Which expressions stay below a length.
use Rattle.std.specs.Prelude.{ℕ, ◌+◌, ◌/◌, ◌&&◌, ◌||◌, nat_lt, if◌then◌else◌, Bool, false, is_some, Option, Some, None, option_map, slice_get}
use Rattle.index_expr.specs.declared.operation.Operation.TheVariants.{Sum, Difference, Product, Quotient, Remainder, Greatest}
use Rattle.index_expr.specs.Expression.{Expression, Variable, Literal, Binary}
use Rattle.index_simplify.specs.PlainRanges.{PlainRanges}
use Rattle.index_simplify.specs.Literals.{word}
use Rattle.index_simplify.specs.Tests.{is_number, is_above, is_at_least, is_no_longer, is_below, is_count, is_positive}
use Rattle.index_simplify.specs.Factors.{over}

-- nothing is taken away in it, as far as three operations deep tell
abbrev pub is_natural : Expression → Bool
is_natural e = is_count 3 e

-- there is such an expression, and the test passes
abbrev pub is_passed : (Expression → Bool) → Option Expression → Bool
is_passed test None = false
is_passed test (Some e) = test e

-- so many divisors are no longer than a length is divisors long
abbrev pub is_part_within : (divisor length part : Expression) → Bool
is_part_within d n q = is_natural q && is_natural d && is_no_longer q n

-- the greatest of some numbers, over a literal, is below a number
abbrev pub is_greatest_below : (greatest : ℕ) → (divisor length : Expression) → Bool
is_greatest_below g (Literal d) n = nat_lt 0 d && is_above n (g / d)
is_greatest_below g _ n = false

-- the variable of a loop of a known length, over a divisor: by its own range, or by that length
abbrev pub is_quotient_below : PlainRanges → (dividend divisor length : Expression) → Bool
is_quotient_below r (Variable k l g) d n =
    is_passed (λ known. is_greatest_below g d n || is_passed (is_part_within d n) (over known d))
    (slice_get r.lengths k)
is_quotient_below r _ d n = false

-- the remainder by a literal, in loops
abbrev pub is_remainder_below : PlainRanges → (dividend divisor length : Expression) → Bool
is_remainder_below r e (Literal d) n =
    nat_lt 0 d && is_some (slice_get r.lengths 0) && is_natural e && is_at_least n d
is_remainder_below r e _ n = false

-- a variable, one over a divisor, or a remainder
abbrev pub is_digit_below : PlainRanges → Expression → (length : Expression) → Bool
is_digit_below r (Variable k l g) n = is_below r (Variable k l g) n
is_digit_below r (Binary Quotient a b) n = is_quotient_below r a b n
is_digit_below r (Binary Remainder a b) n = is_remainder_below r a b n
is_digit_below r _ n = false

-- how many rows a length is, where the column stays below their width
abbrev pub rows_within : PlainRanges → (width column length : Expression) → Option Expression
rows_within r width column n = if is_digit_below r column width then over n width else None

-- a row of as many, times the width of rows, and a column in it
abbrev pub is_sum_below : PlainRanges → (begin column length : Expression) → Bool
is_sum_below r (Binary Product row width) column n =
    is_passed (λ rows. is_digit_below r row rows) (rows_within r width column n)
is_sum_below r _ column n = false

-- the sum of two numbers, where it is a word
abbrev pub literal_sum : ℕ → ℕ → Option Expression
literal_sum m n = option_map Literal (word (m + n))

-- so many more than a sum, where a number may stand first
abbrev pub longer_sum : (first rest : Expression) → ℕ → Option Expression
longer_sum (Literal m) rest n = option_map (λ number. Binary Sum number rest) (literal_sum m n)
longer_sum first rest n = Some (Binary Sum (Literal n) (Binary Sum first rest))

-- so many more than a length, as lengths are spelled: with their number first
abbrev pub longer : (length : Expression) → ℕ → Option Expression
longer (Literal m) n = literal_sum m n
longer (Binary Sum first rest) n = longer_sum first rest n
longer e n = Some (Binary Sum (Literal n) e)

-- what e is to stay below for max(e, m) - m to stay below a length: m more than it. The least value
-- is 0, so the length has to be at least 1
abbrev pub length_before : PlainRanges → (least taken length : Expression) → Option Expression
length_before r (Literal m) taken n =
    if is_number m taken && is_positive r n then longer n m else None
length_before r _ taken n = None

-- one of these, the cell of a row and a column each of which is one, or max(e, m) - m where e stays
-- below m more
abbrev pub stays_below : PlainRanges → Expression → (length : Expression) → Bool
stays_below r (Binary Sum begin column) n = is_sum_below r begin column n
stays_below r (Binary Difference (Binary Greatest e least) taken) n =
    is_passed (λ before. stays_below r e before) (length_before r least taken n)
stays_below r e n = is_digit_below r e n

-- it stays below the length whose last number this is
abbrev pub is_at_most : PlainRanges → Expression → (last : Expression) → Bool
is_at_most r e (Literal m) = is_passed (λ n. stays_below r e n) (literal_sum m 1)
is_at_most r e (Binary Difference n one) = is_number 1 one && stays_below r e n
is_at_most r e _ = false
