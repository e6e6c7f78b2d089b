-- Counted in short, an expression has no more nodes.
use Rattle.std.proofs.Common.{ℕ, ◌+◌, ◌%◌, ◌≤◌, Bool, true, false, arith}
use Rattle.std.specs.Prelude.{◌==◌, ◌&&◌, nat_lt, if◌then◌else◌}
use Rattle.index_expr.specs.declared.operation.Operation.{Operation}
use Rattle.index_expr.specs.declared.operation.Operation.TheVariants.{Product, Quotient}
use Rattle.index_expr.specs.Expression.{Expression, Variable, Literal, Size, Binary, nodes, divisor_of, scaled_nodes, short_operation, short_nodes}

some_node : (e : Expression) → 1 ≤ nodes e
some_node (Variable k l g) = omega arith
some_node (Literal n) = omega arith
some_node (Size k) = omega arith
some_node (Binary o a b) = omega arith

chosen_at_most : (b : Bool) (m n most : ℕ) → m ≤ most → n ≤ most → (if b then m else n) ≤ most
chosen_at_most true m n most h k = h
chosen_at_most false m n most h k = k

scaled_at_most : (c d plain most : ℕ) → 3 ≤ most → plain ≤ most → scaled_nodes c d plain ≤ most
scaled_at_most c d plain most three h = chosen_at_most (nat_lt 0 d && (c % d == 0)) (if c == d then 1 else 3) plain most (chosen_at_most (c == d) 1 3 most (omega arith) three) h

operation_at_most : (o : Operation) (a b : Expression) (plain : ℕ) → plain ≤ nodes a + nodes b + 1 → short_operation o a b plain ≤ nodes a + nodes b + 1
operation_at_most Product (Literal c) b plain h = let some = some_node b in scaled_at_most c (divisor_of b) plain (nodes (Literal c) + nodes b + 1) (omega arith) h
operation_at_most Quotient (Size k) (Literal d) plain h = chosen_at_most (d == 1) 1 plain (nodes (Size k) + nodes (Literal d) + 1) (omega arith) h
operation_at_most _ a b plain h = h

pub short_at_most : (e : Expression) → short_nodes e ≤ nodes e
short_at_most (Variable k l g) = omega arith
short_at_most (Literal n) = omega arith
short_at_most (Size k) = omega arith
short_at_most (Binary o a b) =
    let first = short_at_most a in
    let second = short_at_most b in
    operation_at_most o a b (short_nodes a + short_nodes b + 1) (omega arith)
