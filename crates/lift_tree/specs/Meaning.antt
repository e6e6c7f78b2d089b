-- The source value of a term, on whole nested lists. Where a term has no
-- type the value is some default.
use Rattle.std.specs.Prelude.{ℕ, zero, suc, ◌≡◌, ◌*◌, ◌/◌, List, [], ◌∷◌, length, map, reverse}
use Rattle.scalar_ops.specs.declared.op.Op.{Op}
use Rattle.scalar_ops.specs.declared.op.Op.TheVariants.{Sub, Shl, Shr, Lt, Eq, Div, Rem}
use Rattle.scalar_ops.specs.Operators.{apply_op, op_of, combine, choose}
use Rattle.lift_tree.specs.declared.length.Factor.{Factor}
use Rattle.lift_tree.specs.declared.length.Factor.TheVariants as factor
use Rattle.lift_tree.specs.declared.layout.Layout as layout
use Rattle.lift_tree.specs.declared.layout.Layout.TheVariants.{Join, Transpose, Split, Reverse, Stride, AsVector, AsScalar}
use Rattle.lift_tree.specs.declared.term.Operator.{Operator}
use Rattle.lift_tree.specs.declared.term.Operator.TheVariants as operator
use Rattle.lift_tree.specs.declared.term.UnaryForm.{UnaryForm}
use Rattle.lift_tree.specs.declared.term.UnaryForm.TheVariants as unary
use Rattle.lift_tree.specs.declared.term.BinaryForm.{BinaryForm}
use Rattle.lift_tree.specs.declared.term.BinaryForm.TheVariants as binary
use Rattle.lift_tree.specs.Tree.{Tree, Variable, Number, Input, Unary, Binary, Select, Let, Map, Fold}
use Rattle.lift_tree.specs.Values.{Value, Word, Both, More, array, members, word, first, second, nth}
use Rattle.lift_tree.specs.Lists.{fold_left, concat, zip_with, pieces, pieces_that_fit, padded, width, columns, strided}

-- the values of the base names, of the declared sizes, and of the inputs
pub record World : Type 0 where
  pub bases : List ℕ
  pub sizes : List ℕ
  pub inputs : List Value

-- the size of this number, or 0
abbrev pub nth_size : List ℕ → ℕ → ℕ
nth_size [] n = 0
nth_size (y ∷ ys) zero = y
nth_size (y ∷ ys) (suc n) = nth_size ys n

-- a factor's value at these sizes
abbrev pub factor_at : List ℕ → Factor → ℕ
factor_at sizes (factor.Number n) = n
factor_at sizes (factor.Size i) = nth_size sizes i

-- a product's value at these sizes
abbrev pub product_at : List ℕ → List Factor → ℕ
product_at sizes [] = 1
product_at sizes (f ∷ fs) = factor_at sizes f * product_at sizes fs

-- the operator of the scalar operations
abbrev pub scalar_op : Operator → Op
scalar_op (operator.Regrouping r) = op_of r
scalar_op operator.Sub = Sub
scalar_op operator.Shl = Shl
scalar_op operator.Shr = Shr
scalar_op operator.Lt = Lt
scalar_op operator.Eq = Eq

-- the rows of an array of arrays
abbrev pub rows : Value → List (List Value)
rows v = map members (members v)

-- the array of arrays that has these rows
abbrev pub array_of_rows : List (List Value) → Value
array_of_rows rs = array (map array rs)

-- the array with the elements of this one, laid out so
abbrev pub layout_value : (sizes : List ℕ) → layout.Layout → Value → Value
layout_value sizes Join v = array (concat (rows v))
layout_value sizes Transpose v = array_of_rows (columns (width (rows v)) (rows v))
layout_value sizes (Split m) v =
    let size = product_at sizes m in array_of_rows
    (pieces (length (members v) / size) size size (members v))
layout_value sizes Reverse v = array (reverse (members v))
layout_value sizes (Stride m) v = array (strided (product_at sizes m) (members v))
layout_value sizes AsVector v = array_of_rows (pieces (length (members v) / 4) 4 4 (members v))
layout_value sizes AsScalar v = array (concat (rows v))

-- a function of two numbers on two values: lane by lane where one is a list, and
-- a number stands for equal lanes
abbrev pub on_lanes : (ℕ → ℕ → ℕ) → Value → Value → Value
on_lanes f (More x xs) (More y ys) =
    array (zip_with (λ a b. Word (f (word a) (word b))) (members (More x xs)) (members (More y ys)))
on_lanes f (More x xs) u = array (map (λ a. Word (f (word a) (word u))) (members (More x xs)))
on_lanes f v (More y ys) = array (map (λ b. Word (f (word v) (word b))) (members (More y ys)))
on_lanes f v u = Word (f (word v) (word u))

-- the value of a form whose one child has this value
abbrev pub unary_value : World → UnaryForm → Value → Value
unary_value w (unary.Div n) v = on_lanes (apply_op Div) v (Word n)
unary_value w (unary.Rem n) v = on_lanes (apply_op Rem) v (Word n)
unary_value w unary.First v = first v
unary_value w unary.Second v = second v
unary_value w (unary.Layout l) v = layout_value w.sizes l v
unary_value w (unary.Slide size step) v =
    array_of_rows (pieces (pieces_that_fit size step (length (members v))) size step (members v))
unary_value w (unary.Pad before after) v = array (padded before after (members v))
unary_value w unary.ToLocal v = v
unary_value w unary.ToPrivate v = v
unary_value w unary.Then v = v

-- the value of a form whose two children have these values
abbrev pub binary_value : BinaryForm → Value → Value → Value
binary_value (binary.Operator o) v u = on_lanes (apply_op (scalar_op o)) v u
binary_value binary.Pair v u = Both v u
binary_value binary.Zip v u = array (zip_with Both (members v) (members u))
binary_value (binary.Reduce r) v u =
    array (fold_left (λ a x. Word (combine r (word a) (word x))) u (members v) ∷ [])

-- the value where the binders have these values, the nearest first; maps and folds have
-- their value however they are run
abbrev pub meaning : World → List Value → Tree → Value
meaning w vs (Variable n) = nth vs n
meaning w vs (Number n) = Word n
meaning w vs (Input n) = nth w.inputs n
meaning w vs (Unary f t) = unary_value w f (meaning w vs t)
meaning w vs (Binary f t u) = binary_value f (meaning w vs t) (meaning w vs u)
meaning w vs (Select t u v) = choose (word (meaning w vs t)) (meaning w vs u) (meaning w vs v)
meaning w vs (Let v b) = meaning w (meaning w vs v ∷ vs) b
meaning w vs (Map k xs b) = array (map (λ x. meaning w (x ∷ vs) b) (members (meaning w vs xs)))
meaning w vs (Fold k xs s b) =
    array
    (fold_left (λ a x. meaning w (x ∷ a ∷ vs) b) (meaning w vs s) (members (meaning w vs xs))
    ∷ [])

-- a value put in among others at k
abbrev pub insert : ℕ → Value → List Value → List Value
insert zero v vs = v ∷ vs
insert (suc k) v [] = Word 0 ∷ insert k v []
insert (suc k) v (x ∷ vs) = x ∷ insert k v vs

-- the second term has the first's value when any value is put in at k among the binders' values
abbrev pub SameWithOneMore : ℕ → Tree → Tree → Type 0
SameWithOneMore k t u =
    (w : World) (v : Value) (vs : List Value) → meaning w (insert k v vs) u ≡ meaning w vs t

-- the term has the value that the body has with the value's value for the nearest binder
abbrev pub SameWithValue : (body value : Tree) → Tree → Type 0
SameWithValue body value t =
    (w : World) (vs : List Value) → meaning w vs t ≡ meaning w (meaning w vs value ∷ vs) body
