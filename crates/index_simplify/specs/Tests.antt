-- Tests on index expressions.
use Rattle.std.specs.Prelude.{ℕ, zero, suc, ◌==◌, ◌%◌, ◌&&◌, ◌||◌, nat_lt, nat_le, Bool, true, false, is_some, Option, Some, None, slice_get}
use Rattle.index_expr.specs.declared.operation.Operation.{Operation}
use Rattle.index_expr.specs.declared.operation.Operation.TheVariants.{Sum, Difference, Product, Quotient, Remainder, Least, Greatest}
use Rattle.index_expr.specs.Expression.{Expression, Variable, Literal, Size, Binary}
use Rattle.index_simplify.specs.PlainRanges.{PlainRanges}

-- they are one operation
abbrev pub same_operation : Operation → Operation → Bool
same_operation Sum Sum = true
same_operation Difference Difference = true
same_operation Product Product = true
same_operation Quotient Quotient = true
same_operation Remainder Remainder = true
same_operation Least Least = true
same_operation Greatest Greatest = true
same_operation _ _ = false

-- the variable of this number, whatever range it carries
abbrev pub same_variable : ℕ → Expression → Bool
same_variable k (Variable j l g) = k == j
same_variable k _ = false

-- the literal of this number
abbrev pub is_number : ℕ → Expression → Bool
is_number n (Literal m) = n == m
is_number n _ = false

-- the size of this number
abbrev pub same_size : ℕ → Expression → Bool
same_size k (Size j) = k == j
same_size k _ = false

-- the same but for the ranges that their variables carry
abbrev pub same : Expression → Expression → Bool
same (Variable k l g) e = same_variable k e
same (Literal n) e = is_number n e
same (Size k) e = same_size k e
same (Binary o a b) (Binary p c d) = same_operation o p && same a c && same b d
same (Binary o a b) _ = false

-- a number above this one
abbrev pub is_above : Expression → ℕ → Bool
is_above (Literal n) g = nat_lt g n
is_above _ g = false

-- a number, and at least this one
abbrev pub is_at_least : Expression → ℕ → Bool
is_at_least (Literal n) m = nat_le m n
is_at_least _ m = false

-- a length that is the other, or both are numbers and it is no greater
abbrev pub is_no_longer : (known length : Expression) → Bool
is_no_longer (Literal m) n = is_at_least n m
is_no_longer known n = same known n

-- a length is known, and it is no longer than the other
abbrev pub is_known_within : Option Expression → Expression → Bool
is_known_within None n = false
is_known_within (Some known) n = is_no_longer known n

-- the loop of this variable is no longer than this
abbrev pub is_loop_within : PlainRanges → ℕ → Expression → Bool
is_loop_within r k n = is_known_within (slice_get r.lengths k) n

-- a variable that stays below a length: by its own range below a number,
-- or because its loop is no longer
abbrev pub is_below : PlainRanges → (column length : Expression) → Bool
is_below r (Variable k l g) n = is_above n g || is_loop_within r k n
is_below r _ n = false

-- a number is known, and it is this one
abbrev pub is_known_multiple : Option ℕ → Expression → Bool
is_known_multiple None n = false
is_known_multiple (Some m) n = is_number m n

-- the size of this number is known to be a multiple of this one
abbrev pub is_multiple_at : PlainRanges → ℕ → Expression → Bool
is_multiple_at r k n = is_known_multiple (slice_get r.multiples k) n

-- a size, and the number that it is a multiple of
abbrev pub is_multiple : PlainRanges → (size divisor : Expression) → Bool
is_multiple r (Size k) n = is_multiple_at r k n
is_multiple r _ n = false

-- at least 1: a number above 0, a declared size, one over the number that it is a multiple of, and
-- a sum or a product of two of these
abbrev pub is_positive : PlainRanges → Expression → Bool
is_positive r (Literal n) = nat_lt 0 n
is_positive r (Size k) = is_some (slice_get r.multiples k)
is_positive r (Binary Quotient size d) = is_multiple r size d
is_positive r (Binary Sum a b) = is_positive r a && is_positive r b
is_positive r (Binary Product a b) = is_positive r a && is_positive r b
is_positive r _ = false

-- a divisor of this number, and below it
abbrev pub is_part_of : ℕ → Expression → Bool
is_part_of c (Literal d) = nat_lt 0 d && nat_lt d c && (c % d == 0)
is_part_of c _ = false

-- a size over the number that it is a multiple of, which is this one
abbrev pub is_base : PlainRanges → ℕ → Expression → Bool
is_base r c (Binary Quotient size d) = is_number c d && is_multiple r size d
is_base r c _ = false

-- a size over the number that it is a multiple of, which is a part of this one
abbrev pub is_part_base : PlainRanges → ℕ → Expression → Bool
is_part_base r c (Binary Quotient size d) = is_part_of c d && is_multiple r size d
is_part_base r c _ = false

-- a literal and a size over it
abbrev pub is_whole_size : PlainRanges → Expression → Expression → Bool
is_whole_size r (Literal c) b = is_base r c b
is_whole_size r _ b = false

-- a literal and a size over a part of it
abbrev pub is_scaled_size : PlainRanges → Expression → Expression → Bool
is_scaled_size r (Literal c) b = is_part_base r c b
is_scaled_size r _ b = false

-- nothing is taken away in it, as far as so many operations deep tell
abbrev pub is_count : ℕ → Expression → Bool
is_count depth (Variable k l g) = true
is_count depth (Literal n) = true
is_count depth (Size k) = true
is_count depth (Binary Difference a b) = false
is_count zero (Binary o a b) = false
is_count (suc depth) (Binary o a b) = is_count depth a && is_count depth b

-- a row that is never below 0, times this length
abbrev pub is_begin : Expression → (length : Expression) → Bool
is_begin (Binary Product row n) m = same n m && is_count 3 row
is_begin _ m = false

-- nothing, beside what is never below 0
abbrev pub is_zero_beside : (nothing other : Expression) → Bool
is_zero_beside nothing other = is_number 0 nothing && is_count 3 other

-- the cell of a row of this length and of a column in it
abbrev pub is_cell : PlainRanges → Expression → (length : Expression) → Bool
is_cell r (Binary Sum begin column) m = is_begin begin m && is_below r column m
is_cell r _ m = false

-- e / m
abbrev pub is_quotient : Expression → (dividend divisor : Expression) → Bool
is_quotient (Binary Quotient e n) d m = same n m && same e d
is_quotient _ d m = false

-- (e / m) * m
abbrev pub is_rounded : Expression → (dividend divisor : Expression) → Bool
is_rounded (Binary Product q n) d m = same n m && is_quotient q d m
is_rounded _ d m = false

-- (e / m) * m beside e mod m
abbrev pub are_parts : Expression → Expression → Bool
are_parts a (Binary Remainder d m) = is_rounded a d m
are_parts a _ = false
