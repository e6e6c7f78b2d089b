-- Worked indices and bounds.
use Rattle.std.specs.Prelude.{◌≡◌, ℕ, List, [], ◌∷◌, Some}
use Rattle.scalar_ops.specs.declared.op.Op.TheVariants.{Add, Sub, Mul, Div, Rem}
use Rattle.kernel_tree.specs.declared.tree.Dimension.TheVariants.{X}
use Rattle.kernel_tree.specs.Formula.{Formula, Number, Variable, LoopVariable, Size, Id, LocalId, Binary}
use Rattle.kernel_tree.specs.Code.{Input, Output, Code, End, Performs, Loads, Stores, Loops, Guards, FromZero, FromLocalId, ByOne}
use Rattle.lift_ir.specs.Layouts.{Join}
use Rattle.lift_ir.specs.Terms.{Term, Take, Sequential, Bound, Source, Reshape, Map, Store}
use Rattle.lift_ir.specs.Types.{Shape, Scalar, ArrayOf}
use Rattle.index_expr.specs.declared.operation.Operation.TheVariants.{Product, Quotient}
use Rattle.index_expr.specs.Expression as index
use Rattle.index_expr.specs.Expression.{Expression, Literal}
use Rattle.printed_form.specs.MapForms.{all_loops}
use Rattle.group_form.specs.GridTerms.{GridForms}
use Rattle.tidy_indices.specs.Tidy.{tidy_formula}
use Rattle.tidy_kernels.specs.Pass.{tidied_code}
use Rattle.tidy_printed.specs.Indices.{EachWithin, indices_then}
use Rattle.tidy_printed.specs.Limits.{array_nodes, no_index, written_limits}
use Rattle.tidy_printed.specs.Tidy.{IsTidyIndex}

-- a loop of this bound that copies what it reads at this index
abbrev pub copying : (bound index : Formula) → Code
copying b i =
    Loops FromZero b ByOne
    (Performs (Loads 0 (Input 0) i)
    (Performs (Stores (Output 0) (LoopVariable 0) (Variable 0)) End)) End

-- the loop's variable
abbrev pub turn : Formula
turn = LoopVariable 0

-- each map is a loop, of rows and along them
abbrev pub loops_alone : GridForms Expression
loops_alone = record { rows = all_loops; columns = all_loops }

-- what a copy of an array may have, so many of whose elements are copied: the array is made of an
-- input of this type
abbrev pub copy_limits : (length : Expression) → (input : Shape Expression)
    → (array : Term Expression)
    → List ℕ
copy_limits n input xs =
    written_limits (λ e. e) loops_alone (λ v. input) (λ v. no_index)
    (Map Sequential n Take xs (Store Scalar (Bound 0))) (array_nodes (λ e. e) (ArrayOf n Scalar)) []

-- so the code has
abbrev pub IsTidyCopy : (length : Expression) → (input : Shape Expression)
    → (array : Term Expression)
    → Code → Type 0
IsTidyCopy n input xs code = EachWithin IsTidyIndex (copy_limits n input xs) (indices_then code [])

-- two rows of three
abbrev pub rows : Shape Expression
rows = ArrayOf (Literal 2) (ArrayOf (Literal 3) Scalar)

-- the rows' join
abbrev pub joined_rows : Term Expression
joined_rows = Reshape (Join (Literal 3)) (Source 0)

-- the cell of the turn in rows of three
abbrev pub cell_in_rows : Formula
cell_in_rows =
    Binary Add (Binary Mul (Binary Div turn (Number 3)) (Number 3)) (Binary Rem turn (Number 3))

-- the rows' join, put into their row-major number, has nine nodes
abbrev pub JoinsAreCounted : Type 0
JoinsAreCounted = copy_limits (Literal 6) rows joined_rows ≡ 1 ∷ 9 ∷ 1 ∷ []

-- it is read at the turn itself, and not at that number, part of which is redundant
abbrev pub JoinsAreTidied : Type 0
JoinsAreTidied = IsTidyCopy (Literal 6) rows joined_rows (copying (Number 6) turn)

-- a copy that reads at that number is not tidy
abbrev pub JoinsDoNotStay : Type 0
JoinsDoNotStay = IsTidyCopy (Literal 6) rows joined_rows (copying (Number 6) cell_in_rows) → ⊥

-- (i0 + i0) - i0 doesn't stand for i0
abbrev pub IndicesDoNotGrow : Type 0
IndicesDoNotGrow =
    IsTidyCopy (Literal 6) (ArrayOf (Literal 6) Scalar) (Source 0)
    (copying (Number 6) (Binary Sub (Binary Add turn turn) turn)) → ⊥

-- twice the half of a size
abbrev pub even_length : Expression
even_length = index.Binary Product (Literal 2) (index.Binary Quotient (index.Size 0) (Literal 2))

-- what spells it
abbrev pub two_halves : Formula
two_halves = Binary Mul (Number 2) (Binary Div (Size 0) (Number 2))

-- a loop over it is bound by the size itself, and by nothing longer
abbrev pub BoundsAreTidied : Type 0
BoundsAreTidied =
    IsTidyCopy even_length (ArrayOf even_length Scalar) (Source 0) (copying (Size 0) turn)

-- a loop that is bound by the spelling is not tidy
abbrev pub BoundsDoNotStay : Type 0
BoundsDoNotStay =
    IsTidyCopy even_length (ArrayOf even_length Scalar) (Source 0) (copying two_halves turn) → ⊥

-- the row of an item's cell in rows of two, of which each turn has one
abbrev pub row_of_two : Formula
row_of_two = Binary Div (Binary Add (Binary Mul turn (Number 2)) (Id X LocalId)) (Number 2)

-- a loop in which the items whose id is below two copy what they read at an index, and all read at
-- another
abbrev pub copying_in_if : (inside behind : Formula) → Code
copying_in_if i j =
    Loops FromZero (Number 3) ByOne
    (Guards (FromLocalId X) (Number 2)
    (Performs (Loads 0 (Input 0) i) (Performs (Stores (Output 0) turn (Variable 0)) End))
    (Performs (Loads 0 (Input 0) j) End)) End

-- in groups of four that row is the loop's turn within the `if`, and stays behind it
abbrev pub IfsTellOfIds : Type 0
IfsTellOfIds =
    tidied_code (tidy_formula [] (Some (4, 1))) [] (copying_in_if row_of_two row_of_two)
    ≡ copying_in_if turn row_of_two
