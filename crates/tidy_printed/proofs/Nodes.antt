-- The nodes of index expressions, counted in short.
use Rattle.std.proofs.Common.{ℕ, ◌+◌, ◌≤◌, Bool, true, false, arith}
use Rattle.std.specs.Prelude.{◌==◌, ◌%◌, ◌&&◌, nat_lt, if◌then◌else◌}
use Rattle.index_expr.specs.declared.operation.Operation.{Operation}
use Rattle.index_expr.specs.declared.operation.Operation.TheVariants.{Product, Quotient}
use Rattle.index_expr.specs.Expression.{Expression, Variable, Literal, Size, Binary, short_nodes, short_operation, divisor_of, scaled_nodes}

-- a size over a divisor of the number is counted without that, else all nodes are
scaled_between : (c d plain : ℕ) → 3 ≤ plain → (1 ≤ scaled_nodes c d plain) × (scaled_nodes c d plain ≤ plain)
scaled_between c d plain le = go (nat_lt 0 d && (c % d == 0)) (c == d)
  where
    go : (x y : Bool) → (1 ≤ (if x then (if y then 1 else 3) else plain)) × ((if x then (if y then 1 else 3) else plain) ≤ plain)
    go true true = (omega arith, omega arith)
    go true false = (omega arith, omega arith)
    go false y = (omega arith, omega arith)

whole_between : (b : Bool) (plain : ℕ) → 3 ≤ plain → (1 ≤ (if b then 1 else plain)) × ((if b then 1 else plain) ≤ plain)
whole_between true plain le = (omega arith, omega arith)
whole_between false plain le = (omega arith, omega arith)

short_between : (o : Operation) (a b : Expression) (plain : ℕ) → 3 ≤ plain → (1 ≤ short_operation o a b plain) × (short_operation o a b plain ≤ plain)
short_between Product (Literal c) b plain le = scaled_between c (divisor_of b) plain le
short_between Quotient (Size k) (Literal d) plain le = whole_between (d == 1) plain le
short_between _ _ _ plain le = (omega arith, omega arith)

short_some : (e : Expression) → 1 ≤ short_nodes e
short_some (Variable k l g) = omega arith
short_some (Literal n) = omega arith
short_some (Size k) = omega arith
short_some (Binary o a b) =
    let x = short_some a in
    let y = short_some b in
    (short_between o a b (short_nodes a + short_nodes b + 1) (omega arith)).0

-- an operation has one node more than its parts at most
pub of_parts : (o : Operation) (a b : Expression) (m n : ℕ) → short_nodes a ≤ m → short_nodes b ≤ n → short_nodes (Binary o a b) ≤ m + n + 1
of_parts o a b m n p q =
    let x = short_some a in
    let y = short_some b in
    let z = (short_between o a b (short_nodes a + short_nodes b + 1) (omega arith)).1 in
    omega arith

-- what is divided has no more than the quotient
pub of_dividend : (a b : Expression) → short_nodes a ≤ short_nodes (Binary Quotient a b)
of_dividend (Size k) b = short_some (Binary Quotient (Size k) b)
of_dividend (Variable k l g) b = omega arith
of_dividend (Literal n) b = omega arith
of_dividend (Binary o c d) b = omega arith
