-- Lengths as index expressions over the sizes.
use Rattle.std.specs.Prelude.{ℕ, zero, suc, ℤ, pos, negsuc, Bool, true, false, Option, Some, None, List, [], ◌∷◌, ◌==◌, if◌then◌else◌, unsigned_abs, unwrap_or}
use Rattle.size_arith.specs.declared.names.Name.{Name}
use Rattle.size_arith.specs.declared.poly.Monomial.{Monomial}
use Rattle.index_expr.specs.declared.operation.Operation.{Operation}
use Rattle.index_expr.specs.declared.operation.Operation.TheVariants.{Sum, Difference, Product, Quotient}
use Rattle.index_expr.specs.Expression.{Expression, Literal, Size, Binary}

-- the base name with this number is its size, over its divisor where this isn't 1
abbrev pub base_expression : (number multiple : ℕ) → Expression
base_expression k d = if d == 1 then Size k else Binary Quotient (Size k) (Literal d)

-- an expression with what comes after it, if there is anything
abbrev pub joined : Operation → Expression → Option Expression → Expression
joined o e None = e
joined o e (Some rest) = Binary o e rest

-- so many equal factors, and then the rest
abbrev pub repeated : Expression → ℕ → Option Expression → Option Expression
repeated e zero rest = rest
repeated e (suc n) rest = Some (joined Product e (repeated e n rest))

-- the product of powers of the base names from this number on; none where all powers are 0
abbrev pub product_expression : ℕ → List Name → List ℕ → Option Expression
product_expression k [] ms = None
product_expression k (n ∷ names) [] = None
product_expression k (n ∷ names) (m ∷ ms) =
    repeated (base_expression k n.multiple) m (product_expression (suc k) names ms)

-- the greatest number that a coefficient may be is no word
abbrev pub number_expression : ℕ → Expression
number_expression c =
    if c == 4294967296 then Binary Product (Literal 65536) (Literal 65536) else Literal c

-- a coefficient of 1 is left out where there is a name
abbrev pub with_coefficient : ℕ → Option Expression → Expression
with_coefficient c None = number_expression c
with_coefficient c (Some e) = if c == 1 then e else Binary Product (number_expression c) e

-- without its sign
abbrev pub monomial_expression : List Name → Monomial → Expression
monomial_expression names m =
    with_coefficient (unsigned_abs m.coefficient) (product_expression 0 names m.powers)

-- whether a coefficient is below 0
abbrev pub is_negative : ℤ → Bool
is_negative (pos n) = false
is_negative (negsuc n) = true

-- the sum of the positive monomials; none where there are none
abbrev pub positive_sum : List Name → List Monomial → Option Expression
positive_sum names [] = None
positive_sum names (m ∷ p) =
    if is_negative m.coefficient then positive_sum names p else Some
    (joined Sum (monomial_expression names m) (positive_sum names p))

-- the sum of the negative monomials without their signs; none where there are none
abbrev pub negative_sum : List Name → List Monomial → Option Expression
negative_sum names [] = None
negative_sum names (m ∷ p) =
    if is_negative m.coefficient then Some
    (joined Sum (monomial_expression names m) (negative_sum names p)) else negative_sum names p

-- an expression less another, if there is another
abbrev pub difference_of : Expression → Option Expression → Expression
difference_of e None = e
difference_of e (Some taken) = Binary Difference e taken

-- the positive monomials, less the negative ones
abbrev pub length_expression : List Name → List Monomial → Expression
length_expression names p =
    difference_of (unwrap_or (positive_sum names p) (Literal 0)) (negative_sum names p)
