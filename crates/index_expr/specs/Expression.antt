-- Index expressions, wherever they lie in memory.
use Rattle.std.specs.Prelude.{ℕ, ◌+◌, ◌%◌, ◌==◌, ◌&&◌, nat_lt, if◌then◌else◌}
use Rattle.index_expr.specs.declared.operation.Operation.{Operation}
use Rattle.index_expr.specs.declared.operation.Operation.TheVariants.{Product, Quotient}
use Rattle.index_expr.specs.declared.index.Index as held
use Rattle.index_expr.specs.declared.index.Index.{Index}

-- a variable with the least and the greatest of its values, a number, a size, or an operation
pub data Expression : Type 0 where
  Variable : (number least greatest : ℕ) → Expression
  Literal : ℕ → Expression
  Size : ℕ → Expression
  Binary : Operation → Expression → Expression → Expression

-- the expression that lies in memory
abbrev pub expression_of : Index → Expression
expression_of (held.Variable k l g) = Variable k l g
expression_of (held.Literal n) = Literal n
expression_of (held.Size k) = Size k
expression_of (held.Binary' o p a q b) = Binary o (expression_of a) (expression_of b)

-- how many nodes it has
abbrev pub nodes : Expression → ℕ
nodes (Variable k l g) = 1
nodes (Literal n) = 1
nodes (Size k) = 1
nodes (Binary o a b) = nodes a + nodes b + 1

-- the divisor of a size over a literal; 0 for any other expression
abbrev pub divisor_of : Expression → ℕ
divisor_of (Binary Quotient (Size k) (Literal d)) = d
divisor_of _ = 0

-- so many times a size over a divisor is the size, or a literal times it
abbrev pub scaled_nodes : (times divisor plain : ℕ) → ℕ
scaled_nodes c d plain = if nat_lt 0 d && (c % d == 0) then (if c == d then 1 else 3) else plain

-- the nodes that an operation is counted with in short, if it would have so many otherwise
abbrev pub short_operation : Operation → Expression → Expression → (plain : ℕ) → ℕ
short_operation Product (Literal c) b plain = scaled_nodes c (divisor_of b) plain
short_operation Quotient (Size k) (Literal d) plain = if d == 1 then 1 else plain
short_operation _ a b plain = plain

-- the nodes, where a literal times a size over a divisor of it is counted without that divisor, and
-- a size over 1 as the size
abbrev pub short_nodes : Expression → ℕ
short_nodes (Variable k l g) = 1
short_nodes (Literal n) = 1
short_nodes (Size k) = 1
short_nodes (Binary o a b) = short_operation o a b (short_nodes a + short_nodes b + 1)
