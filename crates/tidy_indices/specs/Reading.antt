-- Expressions of a kernel as index expressions.
use Rattle.std.specs.Prelude.{ℕ, ◌^◌, ◌<◌, nat_lt, if◌then◌else◌, Option, Some, None, option_map}
use Rattle.scalar_ops.specs.declared.op.Op.{Op}
use Rattle.scalar_ops.specs.declared.op.Op.TheVariants.{Add, Sub, Mul, Div, Rem, Min, Max}
use Rattle.index_expr.specs.declared.operation.Operation.{Operation}
use Rattle.index_expr.specs.declared.operation.Operation.TheVariants.{Sum, Difference, Product, Quotient, Remainder, Least, Greatest}
use Rattle.index_expr.specs.Expression as index
use Rattle.index_expr.specs.Expression.{Expression}
use Rattle.kernel_tree.specs.Formula.{Formula, Number, LoopVariable, Size, Id, GroupId, LocalId, Binary}
use Rattle.length_spelling.specs.Turns.{as_number, group_turn, local_turn, loop_turn}

-- the operation that an operator is
abbrev pub operation_of : Op → Option Operation
operation_of Add = Some Sum
operation_of Sub = Some Difference
operation_of Mul = Some Product
operation_of Div = Some Quotient
operation_of Rem = Some Remainder
operation_of Min = Some Least
operation_of Max = Some Greatest
operation_of _ = None

-- the operation on the two, where all three are there
abbrev pub on_both : Option Operation → Option Expression → Option Expression → Option Expression
on_both (Some o) (Some a) (Some b) = Some (index.Binary o a b)
on_both _ _ _ = None

-- a turn, which may be any word
abbrev pub any_turn : ℕ → Expression
any_turn k = index.Variable k 0 4294967295

-- the index expression that an expression of a kernel spells, where it spells one
abbrev pub reading : Formula → Option Expression
reading (Number n) = if nat_lt n (2 ^ 32) then Some (index.Literal n) else None
reading (LoopVariable k) = option_map any_turn (as_number (loop_turn k))
reading (Id d GroupId) = Some (any_turn (group_turn d))
reading (Id d LocalId) = Some (any_turn (local_turn d))
reading (Size k) = Some (index.Size k)
reading (Binary o a b) = on_both (operation_of o) (reading a) (reading b)
reading _ = None

-- it is an operation of index expressions
abbrev pub IsIndexOperator : Op → Type 0
IsIndexOperator Add = Unit {0}
IsIndexOperator Sub = Unit {0}
IsIndexOperator Mul = Unit {0}
IsIndexOperator Div = Unit {0}
IsIndexOperator Rem = Unit {0}
IsIndexOperator Min = Unit {0}
IsIndexOperator Max = Unit {0}
IsIndexOperator _ = ⊥

-- it spells an index expression
abbrev pub IsIndexFormula : Formula → Type 0
IsIndexFormula (Number n) = n < 2 ^ 32
IsIndexFormula (LoopVariable k) = loop_turn k < 2 ^ 32
IsIndexFormula (Id d GroupId) = Unit {0}
IsIndexFormula (Id d LocalId) = Unit {0}
IsIndexFormula (Size k) = Unit {0}
IsIndexFormula (Binary o a b) = IsIndexOperator o × IsIndexFormula a × IsIndexFormula b
IsIndexFormula _ = ⊥
