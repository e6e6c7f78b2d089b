-- Index expressions, and lengths, as expressions of a kernel.
use Rattle.std.specs.Prelude.{◌%◌, ◌^◌, List}
use Rattle.scalar_ops.specs.declared.op.Op.{Op}
use Rattle.scalar_ops.specs.declared.op.Op.TheVariants.{Add, Sub, Mul, Div, Rem, Min, Max}
use Rattle.size_arith.specs.declared.names.Name.{Name}
use Rattle.size_arith.specs.declared.poly.Monomial.{Monomial}
use Rattle.index_expr.specs.declared.operation.Operation.{Operation}
use Rattle.index_expr.specs.declared.operation.Operation.TheVariants.{Sum, Difference, Product, Quotient, Remainder, Least, Greatest}
use Rattle.index_expr.specs.Expression as index
use Rattle.index_expr.specs.Expression.{Expression}
use Rattle.index_expr.specs.Lengths.{length_expression}
use Rattle.kernel_tree.specs.Formula.{Formula, Number, Size, Binary}
use Rattle.length_spelling.specs.Turns.{turn_formula}

-- the operator of kernels for an operation
abbrev pub operator_of : Operation → Op
operator_of Sum = Add
operator_of Difference = Sub
operator_of Product = Mul
operator_of Quotient = Div
operator_of Remainder = Rem
operator_of Least = Min
operator_of Greatest = Max

-- its variables are the turns that an item is in
abbrev pub index_formula : Expression → Formula
index_formula (index.Variable k l g) = turn_formula k
index_formula (index.Literal n) = Number n
index_formula (index.Size k) = Size k
index_formula (index.Binary o a b) = Binary (operator_of o) (index_formula a) (index_formula b)

-- the literals as words
abbrev pub in_words : Expression → Expression
in_words (index.Variable k l g) = index.Variable k l g
in_words (index.Literal n) = index.Literal (n % 2 ^ 32)
in_words (index.Size k) = index.Size k
in_words (index.Binary o a b) = index.Binary o (in_words a) (in_words b)

-- a length over the sizes: the expression of a length, which has no literal that isn't a word where
-- it is within the limits of polynomials
abbrev pub spelled_length : List Name → List Monomial → Expression
spelled_length names p = in_words (length_expression names p)

-- the spelled length as an expression of a kernel
abbrev pub length_formula : List Name → List Monomial → Formula
length_formula names p = index_formula (spelled_length names p)
