-- Layouts, on index expressions and on whatever else stands for indices and is calculated with.
use Rattle.std.specs.Prelude.{ℕ, ◌&&◌, if◌then◌else◌, Bool, false, List, [], ◌∷◌, Option, Some, None}
use Rattle.lift_ir.specs.Layouts as ir
use Rattle.index_expr.specs.declared.operation.Operation.{Operation}
use Rattle.index_expr.specs.declared.operation.Operation.TheVariants.{Sum, Difference, Product, Quotient, Remainder, Least, Greatest}
use Rattle.index_expr.specs.Expression.{Expression, Literal, Binary, expression_of}
use Rattle.index_simplify.specs.Laws.{first_part}
use Rattle.index_simplify.specs.Tests.{same}
use Rattle.array_views.specs.declared.layout.Row.{Row}
use Rattle.array_views.specs.declared.layout.Layout.{Layout}
use Rattle.array_views.specs.declared.layout.Layout.TheVariants as layout

-- the layout that is held
abbrev pub layout_in : Layout → ir.Layout Expression
layout_in (layout.Split m) = ir.Split (expression_of m)
layout_in (layout.Join m) = ir.Join (expression_of m)
layout_in layout.Transpose = ir.Transpose
layout_in (layout.Reverse n) = ir.Reverse (expression_of n)
layout_in (layout.Slide s t) = ir.Slide s t
layout_in (layout.Pad l r n) = ir.Pad l r (expression_of n)

-- a layout whose lengths are spelled so
abbrev pub spelled_layout : {A : Type 0} → (A → Expression) → ir.Layout A → ir.Layout Expression
spelled_layout spell (ir.Split m) = ir.Split (spell m)
spelled_layout spell (ir.Join m) = ir.Join (spell m)
spelled_layout spell ir.Transpose = ir.Transpose
spelled_layout spell (ir.Reverse n) = ir.Reverse (spell n)
spelled_layout spell (ir.Slide s t) = ir.Slide s t
spelled_layout spell (ir.Pad l r n) = ir.Pad l r (spell n)

-- it holds of each length that a layout has
abbrev pub EachLength : {A : Type 0} → (A → Type 0) → ir.Layout A → Type 0
EachLength P (ir.Split m) = P m
EachLength P (ir.Join m) = P m
EachLength P (ir.Reverse n) = P n
EachLength P (ir.Pad l r n) = P n
EachLength P _ = Unit {0}

-- ---- what becomes of the outer indices

-- how to calculate with what stands for indices: the number, the operation, and the index of a
-- column in a row of this length
pub record Arithmetic (X : Type 0) : Type 0 where
  pub number : ℕ → X
  pub operation : Operation → X → X → X
  pub cell : (row length column : X) → X

-- the first two indices change places
abbrev pub swapped : {X : Type 0} → List X → List X
swapped (i ∷ j ∷ p) = j ∷ i ∷ p
swapped p = p

module _ {X : Type 0} (r : Arithmetic X) where
  -- the index in rows of this length one after another
  abbrev pub flattened : (length : X) → List X → List X
  flattened m (i ∷ j ∷ p) = r.cell i m j ∷ p
  flattened m p = p

  -- the row, and the index in it
  abbrev pub parted : (length : X) → List X → List X
  parted m (i ∷ p) = r.operation Quotient i m ∷ r.operation Remainder i m ∷ p
  parted m p = p

  -- as far from the last as from the first
  abbrev pub turned : (length : X) → List X → List X
  turned n (i ∷ p) = r.operation Difference (r.operation Difference n (r.number 1)) i ∷ p
  turned n p = p

  -- the index without so many in front, and not past the last
  abbrev pub clamped : (left length : X) → List X → List X
  clamped l n (i ∷ p) =
      r.operation Least (r.operation Difference (r.operation Greatest i l) l)
      (r.operation Difference n (r.number 1))
      ∷ p
  clamped l n p = p

  -- where these stand for the lengths
  module _ {A : Type 0} (length : A → X) where
    -- the indices in the operand of indices in the result
    abbrev pub operand_of : ir.Layout A → List X → List X
    operand_of (ir.Split m) is = flattened (length m) is
    operand_of (ir.Join m) is = parted (length m) is
    operand_of ir.Transpose is = swapped is
    operand_of (ir.Reverse n) is = turned (length n) is
    operand_of (ir.Slide s t) is = flattened (r.number t) is
    operand_of (ir.Pad l k n) is = clamped (r.number l) (length n) is

    -- the indices in the result of indices in the operand, for join, split, transpose and reverse
    abbrev pub result_of : ir.Layout A → List X → List X
    result_of (ir.Split m) is = parted (length m) is
    result_of (ir.Join m) is = flattened (length m) is
    result_of ir.Transpose is = swapped is
    result_of (ir.Reverse n) is = turned (length n) is
    result_of _ is = is

-- ---- on index expressions

-- the row and the column of one index in rows of this length
abbrev pub are_parts : (row length column : Expression) → Bool
are_parts (Binary Quotient e n) m (Binary Remainder f k) = same e f && same n m && same k m
are_parts _ _ _ = false

-- the index of a column in a row of this length; the row and the column of
-- one index are that index again
abbrev pub cell_in_rows : (row length column : Expression) → Expression
cell_in_rows i m j = if are_parts i m j then first_part i else Binary Sum (Binary Product i m) j

-- index expressions are calculated with by their operations
abbrev pub expressions : Arithmetic Expression
expressions = record { number = Literal; operation = Binary; cell = cell_in_rows }

-- the indices in the operand of indices in the result
abbrev pub to_operand : ir.Layout Expression → List Expression → List Expression
to_operand y is = operand_of expressions (λ m. m) y is

-- the indices in the result of indices in the operand, for join, split, transpose and reverse
abbrev pub to_result : ir.Layout Expression → List Expression → List Expression
to_result y is = result_of expressions (λ m. m) y is

-- ---- a row at its index alone, as a vector is asked for

-- a row by its index, of rows of this length
pub record PlainRow : Type 0 where
  pub index : Expression
  pub length : Expression

-- the row that is held
abbrev pub row_in : Row → PlainRow
row_in r = record { index = expression_of r.index; length = expression_of r.length }

-- the number of a row of this length, where its first cell has this number: where that is the
-- cell's at the row's index times the length, the index
abbrev pub row_number : PlainRow → (first : Expression) → Expression
row_number r f =
    if same f (Binary Sum (Binary Product r.index r.length) (Literal 0)) then r.index
    else Binary Quotient f r.length

-- the row, where its index is asked alone
abbrev pub asked_row : (length : Expression) → List Expression → Option PlainRow
asked_row m (i ∷ []) = Some (record { index = i; length = m })
asked_row m _ = None

-- the index in rows of this length one after another, of a row alone that of its first cell
abbrev pub gathered : (length : Expression) → List Expression → List Expression
gathered m (i ∷ []) = cell_in_rows i m (Literal 0) ∷ []
gathered m is = flattened expressions m is

-- the row of what is read through a layout
abbrev pub operand_row : ir.Layout Expression → List Expression → Option PlainRow
operand_row (ir.Split m) is = asked_row m is
operand_row _ is = None

-- the indices in the operand then
abbrev pub operand_asked : ir.Layout Expression → List Expression → List Expression
operand_asked (ir.Split m) is = gathered m is
operand_asked y is = to_operand y is

-- the row of where the operand goes
abbrev pub result_row : ir.Layout Expression → List Expression → Option PlainRow
result_row (ir.Join m) is = asked_row m is
result_row _ is = None

-- the indices in the result then
abbrev pub result_asked : ir.Layout Expression → List Expression → List Expression
result_asked (ir.Join m) is = gathered m is
result_asked y is = to_result y is
