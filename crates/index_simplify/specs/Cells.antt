-- The laws of what stays below a length, and of cells whose rows are cut into parts.
use Rattle.std.specs.Prelude.{◌&&◌, ◌||◌, if◌then◌else◌, Bool, true, false, unwrap_or, Option, Some, None, option_and_then, option_map}
use Rattle.index_expr.specs.declared.operation.Operation.{Operation}
use Rattle.index_expr.specs.declared.operation.Operation.TheVariants.{Sum, Product, Quotient, Remainder, Least}
use Rattle.index_expr.specs.Expression.{Expression, Variable, Literal, Size, Binary}
use Rattle.index_simplify.specs.PlainRanges.{PlainRanges}
use Rattle.index_simplify.specs.Tests.{same}
use Rattle.index_simplify.specs.Laws.{first_part}
use Rattle.index_simplify.specs.Factors.{over}
use Rattle.index_simplify.specs.Below.{is_natural, stays_below, is_at_most}

-- the one is no higher than the other, as far as their parts in turn tell
abbrev pub is_no_higher : Expression → Expression → Bool
is_no_higher (Binary o a b) (Binary p c d) =
    (is_no_higher a c || is_no_higher a d) && (is_no_higher b c || is_no_higher b d)
is_no_higher (Binary o a b) _ = false
is_no_higher _ _ = true

-- a row that is never below 0, and a column below the width of rows
abbrev pub is_cell : PlainRanges → (row width column : Expression) → Bool
is_cell r row width column = if is_natural row then stays_below r column width else false

-- the quotient of two lengths, where it tells that it is never below 0
abbrev pub natural_over : (length divisor : Expression) → Option Expression
natural_over m n = option_and_then (λ q. if is_natural q then Some q else None) (over m n)

-- (row * width + column) / n is row * (width / n) + column / n
abbrev pub split_row : (row width column n : Expression) → Option Expression
split_row row width column n =
    if is_natural n && is_no_higher n width
    then option_map (λ part. Binary Sum (Binary Product row part) (Binary Quotient column n))
    (natural_over width n)
    else None

-- and row / (n / width)
abbrev pub cell_by : (rows : Option Expression) → (row width column n : Expression)
    → Option Expression
cell_by (Some rows) row width column n = Some (Binary Quotient row rows)
cell_by None row width column n = split_row row width column n

-- (row * width + column) / n by one of these two
abbrev pub cell_over : (row width column n : Expression) → Option Expression
cell_over row width column n = cell_by (natural_over n width) row width column n

-- (begin + column) / n, where that is the cell of a row and of a column in it
abbrev pub sum_over : PlainRanges → (begin column n : Expression) → Option Expression
sum_over r (Binary Product row width) column n =
    if is_cell r row width column then cell_over row width column n else None
sum_over r _ column n = None

-- (row * width + column) mod n is column mod n, where width is so many times n
abbrev pub column_modulo : (width column n : Expression) → Option Expression
column_modulo width column n =
    if is_natural n then option_map (λ part. Binary Remainder column n) (natural_over width n)
    else None

-- and (row mod rows) * width + column, where n is rows times width
abbrev pub row_modulo : (rows row width column : Expression) → Option Expression
row_modulo rows row width column =
    if is_no_higher rows row || is_no_higher rows width
    then Some (Binary Sum (Binary Product (Binary Remainder row rows) width) column) else None

-- the first of these two
abbrev pub modulo_by : (by_column : Option Expression) → (row width column n : Expression)
    → Option Expression
modulo_by (Some e) row width column n = Some e
modulo_by None row width column n =
    option_and_then (λ rows. row_modulo rows row width column) (natural_over n width)

-- (row * width + column) mod n by one of them
abbrev pub cell_modulo : (row width column n : Expression) → Option Expression
cell_modulo row width column n = modulo_by (column_modulo width column n) row width column n

-- (begin + column) mod n, where that is the cell of a row and of a column in it
abbrev pub sum_modulo : PlainRanges → (begin column n : Expression) → Option Expression
sum_modulo r (Binary Product row width) column n =
    if is_cell r row width column then cell_modulo row width column n else None
sum_modulo r _ column n = None

-- how many rows a cell's number is counted modulo, where its row is of this length
abbrev pub rows_around : PlainRanges → (begin column modulus n : Expression) → Option Expression
rows_around r (Binary Product row width) column m n =
    if same width n && is_cell r row width column then natural_over m width else None
rows_around r _ column m n = None

-- ((row * n + column) mod m) / n is row mod (m / n)
abbrev pub remainder_over : PlainRanges → (cell modulus n : Expression) → Option Expression
remainder_over r (Binary Sum begin column) m n =
    option_map (λ rows. Binary Remainder (first_part begin) rows) (rows_around r begin column m n)
remainder_over r _ m n = None

-- ((row * n + column) mod m) mod n is column
abbrev pub remainder_modulo : PlainRanges → (cell modulus n : Expression) → Option Expression
remainder_modulo r (Binary Sum begin column) m n =
    option_map (λ rows. column) (rows_around r begin column m n)
remainder_modulo r _ m n = None

-- a / n, where a is the cell of a row, or such a cell modulo a length
abbrev pub quotient_of : PlainRanges → (a b : Expression) → Option Expression
quotient_of r (Binary Sum begin column) n = sum_over r begin column n
quotient_of r (Binary Remainder cell m) n = remainder_over r cell m n
quotient_of r _ n = None

-- a mod n, where a is the cell of a row, or such a cell modulo a length
abbrev pub remainder_of : PlainRanges → (a b : Expression) → Option Expression
remainder_of r (Binary Sum begin column) n = sum_modulo r begin column n
remainder_of r (Binary Remainder cell m) n = remainder_modulo r cell m n
remainder_of r _ n = None

-- what stays below n is 0 over it
abbrev pub quotient : PlainRanges → (a b : Expression) → Option Expression
quotient r a n = if stays_below r a n then Some (Literal 0) else quotient_of r a n

-- what stays below n is itself modulo it
abbrev pub remainder : PlainRanges → (a b : Expression) → Option Expression
remainder r a n = if stays_below r a n then Some a else remainder_of r a n

-- what stays below 1 is nothing to a sum
abbrev pub sum : PlainRanges → (a b : Expression) → Option Expression
sum r a b = if stays_below r b (Literal 1) then Some a else None

-- a product with what stays below 1 is 0
abbrev pub product : PlainRanges → (a b : Expression) → Option Expression
product r a b =
    if stays_below r a (Literal 1) || stays_below r b (Literal 1) then Some (Literal 0) else None

-- the lesser of what stays below n and of n - 1 is the first
abbrev pub least : PlainRanges → (a b : Expression) → Option Expression
least r a b = if is_at_most r a b then Some a else (if is_at_most r b a then Some b else None)

-- what one of the laws leaves of an operation
abbrev pub part_of : PlainRanges → Operation → (a b : Expression) → Option Expression
part_of r Sum a b = sum r a b
part_of r Product a b = product r a b
part_of r Quotient a b = quotient r a b
part_of r Remainder a b = remainder r a b
part_of r Least a b = least r a b
part_of r _ a b = None

-- what one of the laws leaves of an operation; itself where none does
abbrev pub parted_operation : PlainRanges → Operation → (a b : Expression) → Expression
parted_operation r o a b = unwrap_or (part_of r o a b) (Binary o a b)

-- each operation on what its arguments are parted to
abbrev pub parted : PlainRanges → Expression → Expression
parted r (Variable k l g) = Variable k l g
parted r (Literal n) = Literal n
parted r (Size k) = Size k
parted r (Binary o a b) = parted_operation r o (parted r a) (parted r b)
