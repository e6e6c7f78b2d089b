-- What a view says at pair choices and index expressions.
use Rattle.std.specs.Prelude.{ℕ, ◌+◌, Bool, true, false, List, [], ◌∷◌, Option, Some, None}
use Rattle.kernel_tree.specs.Code.{Array}
use Rattle.lift_ir.specs.Types.{Shape, ArrayOf, component}
use Rattle.printed_form.specs.Views.{Sign, Blank, Held, HeldFour, Read}
use Rattle.index_expr.specs.declared.operation.Operation.TheVariants.{Sum, Product}
use Rattle.index_expr.specs.Expression.{Expression, Literal, Binary, expression_of}
use Rattle.array_views.specs.declared.access.Cell.{Cell}
use Rattle.array_views.specs.declared.access.Access.{Access}
use Rattle.array_views.specs.declared.access.Access.TheVariants as access
use Rattle.length_spelling.specs.Formulas.{index_formula}
use Rattle.array_views.specs.Arrays.{array_with}
use Rattle.array_views.specs.Layouts.{PlainRow, row_number, operand_row, operand_asked, result_row, result_asked}
use Rattle.array_views.specs.Views as view
use Rattle.array_views.specs.Views.{PlainView}

-- what stands for a scalar, the cell's index an index expression
pub data PlainAccess : Type 0 where
  Nothing : PlainAccess
  Variable : (number : ℕ) → PlainAccess
  Vector : (number : ℕ) → PlainAccess
  InCell : (array : Array) → (index : Expression) → PlainAccess

-- a cell of an array
abbrev pub cell_of : Cell → PlainAccess
cell_of c = InCell (array_with c.kind c.array) (expression_of c.index)

-- what stands for a scalar
abbrev pub access_of : Access → PlainAccess
access_of access.Nothing = Nothing
access_of (access.Variable n) = Variable n
access_of (access.Vector n) = Vector n
access_of (access.InCell c) = cell_of c

-- where a scalar goes: a cell, or nowhere
abbrev pub target_of : Option Cell → PlainAccess
target_of None = Nothing
target_of (Some c) = cell_of c

-- what stands for a scalar in the printed form
abbrev pub sign_of : PlainAccess → Sign
sign_of Nothing = Blank
sign_of (Variable n) = Held n
sign_of (Vector n) = HeldFour n
sign_of (InCell a i) = Read a (index_formula i)

-- a cell is written, a variable isn't
abbrev pub cell_alone : PlainAccess → PlainAccess
cell_alone (InCell a i) = InCell a i
cell_alone _ = Nothing

-- the index in row-major order below an index so far
abbrev pub row_major_from : Expression → Shape Expression → List Expression → Expression
row_major_from i (ArrayOf m t) (j ∷ q) = row_major_from (Binary Sum (Binary Product i m) j) t q
row_major_from i _ _ = i

-- the index in row-major order: the index alone for an array of one dimension
abbrev pub row_major : Shape Expression → List Expression → Expression
row_major (ArrayOf n t) (i ∷ q) = row_major_from i t q
row_major _ _ = Literal 0

-- the first cell of a row, if there is one, as the row by its number
abbrev pub in_rows : Option PlainRow → PlainAccess → PlainAccess
in_rows (Some r) (InCell a f) = InCell a (row_number r f)
in_rows _ x = x

-- the side that is chosen
abbrev pub chosen : List Bool → (nothing : PlainAccess) → (left right : List Bool → PlainAccess)
    → PlainAccess
chosen [] n f g = n
chosen (false ∷ cs) n f g = f cs
chosen (true ∷ cs) n f g = g cs

-- what the view has at pair choices and indices
abbrev pub access_at : PlainView → List Bool → List Expression → PlainAccess
access_at view.Nothing cs is = Nothing
access_at (view.Variable n) cs is = Variable n
access_at (view.Vector n) cs is = Vector n
access_at (view.Placed k n t) cs is = InCell (array_with k (n + component t cs)) (row_major t is)
access_at (view.Both x y) cs is =
    chosen cs Nothing (λ cs. access_at x cs is) (λ cs. access_at y cs is)
access_at (view.Component s x) cs is = access_at x (s ∷ cs) is
access_at (view.At i x) cs is = access_at x cs (i ∷ is)
access_at (view.Reading y x) cs is =
    in_rows (operand_row y is) (access_at x cs (operand_asked y is))
access_at (view.Writing y x) cs is =
    in_rows (result_row y is) (access_at x cs (result_asked y is))
