-- Views: what stands for scalars, their indices expressions.
use Rattle.std.specs.Prelude.{ℕ, ◌+◌, ◌==◌, ◌&&◌, if◌then◌else◌, Bool, true, false, List, [], ◌∷◌, Option, Some, None}
use Rattle.scalar_ops.specs.declared.op.Op.{Op}
use Rattle.scalar_ops.specs.declared.op.Op.TheVariants.{Add, Sub, Mul, Min, Max, Div, Rem}
use Rattle.kernel_tree.specs.declared.tree.Dimension.{Dimension}
use Rattle.kernel_tree.specs.declared.tree.Dimension.TheVariants.{X, Y}
use Rattle.kernel_tree.specs.Formula.{IdForm, GlobalId, GroupId, LocalId, GlobalSize, GroupCount, LocalSize, Formula, Number, Variable, LoopVariable, Size, Id, Binary, Vector}
use Rattle.kernel_tree.specs.Code.{Array}
use Rattle.lift_ir.specs.Types.{Shape, Ty, Scalar, PairOf, ArrayOf, component}
use Rattle.lift_ir.specs.Layouts.{Layout, Split, Join, Transpose, Reverse, Slide, Pad}
use Rattle.lift_ir.specs.Terms.{LoadSet, Skip, Take, TakeFour, Each}
use Rattle.lift_ir.specs.Scalars.{by_side}
use Rattle.printed_form.specs.Expressions.{Expr, OneWord, FourWords}
use Rattle.printed_form.specs.Counts.{Count, more, held_count, load_count}

-- what stands for a scalar, its index an expression
pub data Sign : Type 0 where
  Blank : Sign
  Held : (var : ℕ) → Sign
  HeldFour : (var : ℕ) → Sign
  Read : (array : Array) → (index : Formula) → Sign

-- what stands for a value, and where a value goes, by pair choices and index expressions
abbrev pub View : Type 0
View = List Bool → List Formula → Sign

-- the expression of what a variable holds
abbrev pub held_sign : Sign → Option Expr
held_sign (Held v) = Some (OneWord (Variable v))
held_sign (HeldFour v) = Some (FourWords (Vector v))
held_sign _ = None

-- an element in private variables, the first of which are these; a vector has no view of its lanes
abbrev pub held_view : Ty → Count → View
held_view Scalar n = λ cs is. Held n.words
held_view (PairOf a b) n =
    by_side (λ is. Blank) (held_view a n) (held_view b (more n (held_count a)))
held_view (ArrayOf m t) n = λ cs is. HeldFour n.fours

-- what stands for an element, once these of its scalars are loaded
abbrev pub loaded_view : LoadSet → View → Count → View
loaded_view Skip x n = x
loaded_view Take x n = λ cs is. Held n.words
loaded_view TakeFour x n = λ cs is. HeldFour n.fours
loaded_view (Each a b) x n =
    by_side (λ is. Blank) (loaded_view a (λ cs. x (false ∷ cs)) n)
    (loaded_view b (λ cs. x (true ∷ cs)) (more n (load_count a)))

-- the element at an index of whatever is by position
abbrev pub view_at : Formula → View → View
view_at i x = λ cs is. x cs (i ∷ is)

-- the same operator of an index
abbrev pub same_operator : Op → Op → Bool
same_operator Add Add = true
same_operator Sub Sub = true
same_operator Mul Mul = true
same_operator Min Min = true
same_operator Max Max = true
same_operator Div Div = true
same_operator Rem Rem = true
same_operator _ _ = false

-- the same dimension
abbrev pub same_dimension : Dimension → Dimension → Bool
same_dimension X X = true
same_dimension Y Y = true
same_dimension _ _ = false

-- the same that an item asks along a dimension
abbrev pub same_id_form : IdForm → IdForm → Bool
same_id_form GlobalId GlobalId = true
same_id_form GroupId GroupId = true
same_id_form LocalId LocalId = true
same_id_form GlobalSize GlobalSize = true
same_id_form GroupCount GroupCount = true
same_id_form LocalSize LocalSize = true
same_id_form _ _ = false

-- the same expression, of the forms that indices and lengths have
abbrev pub same_formula : Formula → Formula → Bool
same_formula (Number m) (Number n) = m == n
same_formula (LoopVariable i) (LoopVariable j) = i == j
same_formula (Id d f) (Id e g) = same_dimension d e && same_id_form f g
same_formula (Size s) (Size t) = s == t
same_formula (Binary o a b) (Binary p c d) =
    same_operator o p && same_formula a c && same_formula b d
same_formula _ _ = false

-- the row and the column of one index in rows of this length
abbrev pub are_parts : (row length column : Formula) → Bool
are_parts (Binary Div e n) m (Binary Rem f k) =
    same_formula e f && same_formula n m && same_formula k m
are_parts _ _ _ = false

-- the first operand of an operator; any other formula is its own
abbrev pub dividend : Formula → Formula
dividend (Binary o e n) = e
dividend e = e

-- the index of a column in a row of this length; the row and the column of one index are that index
-- again
abbrev pub cell_in_rows : (row length column : Formula) → Formula
cell_in_rows i m j = if are_parts i m j then dividend i else Binary Add (Binary Mul i m) j

-- the number of a row of this length, where its first cell has this number: where that is written
-- as the row's index times the length, the index
abbrev pub row_number : (index length first : Formula) → Formula
row_number i m f =
    if same_formula f (Binary Add (Binary Mul i m) (Number 0)) then i else Binary Div f m

-- a row by its first cell
abbrev pub row_sign : (index length : Formula) → Sign → Sign
row_sign i m (Read a f) = Read a (row_number i m f)
row_sign i m s = s

-- the rows of this length of what is by cells. It is asked by a row's index alone for a vector's
-- offset: of rows as long as a vector is
abbrev pub view_of_rows : Formula → View → View
view_of_rows m x cs (i ∷ []) = row_sign i m (x cs (cell_in_rows i m (Number 0) ∷ []))
view_of_rows m x cs (i ∷ j ∷ p) = x cs (cell_in_rows i m j ∷ p)
view_of_rows m x cs [] = x cs []

-- lengths are spelled so
module _ {A : Type 0} (spell : A → Formula) where
  -- the indices in the operand of indices in the result
  abbrev pub operand_indices : Layout A → List Formula → List Formula
  operand_indices (Split m) (i ∷ j ∷ p) = cell_in_rows i (spell m) j ∷ p
  operand_indices (Join m) (i ∷ p) = Binary Div i (spell m) ∷ Binary Rem i (spell m) ∷ p
  operand_indices Transpose (i ∷ j ∷ p) = j ∷ i ∷ p
  operand_indices (Reverse n) (i ∷ p) = Binary Sub (Binary Sub (spell n) (Number 1)) i ∷ p
  operand_indices (Slide s t) (i ∷ j ∷ p) = cell_in_rows i (Number t) j ∷ p
  operand_indices (Pad l r n) (i ∷ p) =
      Binary Min (Binary Sub (Binary Max i (Number l)) (Number l)) (Binary Sub (spell n) (Number 1))
      ∷ p
  operand_indices _ p = p

  -- the indices in the result of indices in the operand, for join, split, transpose and reverse
  abbrev pub result_indices : Layout A → List Formula → List Formula
  result_indices (Split m) p = operand_indices (Join m) p
  result_indices (Join m) p = operand_indices (Split m) p
  result_indices Transpose p = operand_indices Transpose p
  result_indices (Reverse n) p = operand_indices (Reverse n) p
  result_indices _ p = p

  -- what is read through a layout. At fewer indices than a scalar has a view gives the number of a
  -- whole value among those of its size, as a vector's offset is
  abbrev pub reshaped_view : Layout A → View → View
  reshaped_view (Split m) x = view_of_rows (spell m) x
  reshaped_view y x = λ cs is. x cs (operand_indices y is)

  -- where the operand of a layout goes, where the result goes there
  abbrev pub rewritten_view : Layout A → View → View
  rewritten_view (Join m) w = view_of_rows (spell m) w
  rewritten_view y w = λ cs is. w cs (result_indices y is)

  -- the number in row-major order below an index so far
  abbrev pub index_from : Formula → Shape A → List Formula → Formula
  index_from i (ArrayOf m t) (j ∷ q) = index_from (Binary Add (Binary Mul i (spell m)) j) t q
  index_from i _ _ = i

  -- the number of a scalar in row-major order: the index alone for an array of one dimension
  abbrev pub index_in : Shape A → List Formula → Formula
  index_in (ArrayOf n t) (i ∷ q) = index_from i t q
  index_in _ _ = Number 0

  -- a value laid in arrays, one a component, the first of which is this
  abbrev pub placed_view : (ℕ → Array) → ℕ → Shape A → View
  placed_view form first shape =
      λ cs is. Read (form (first + component shape cs)) (index_in shape is)

-- the same of literal lengths
abbrev pub laid_view : (ℕ → Array) → ℕ → Ty → View
laid_view form first ty = placed_view Number form first ty
