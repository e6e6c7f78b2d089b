-- What the reserved words stand for in a term, and the code's forms with one child.
use Rattle.std.specs.Prelude.{List, Option, Some, None}
use Rattle.scalar_ops.specs.declared.op.Reducer.{Reducer}
use Rattle.scalar_ops.specs.declared.op.Reducer.TheVariants as reducer
use Rattle.lift_tree.specs.declared.layout.Layout.TheVariants as layouts
use Rattle.lift_tree.specs.declared.length.Factor.{Factor}
use Rattle.lift_tree.specs.declared.term.Operator.TheVariants as operator
use Rattle.lift_tree.specs.declared.term.BinaryForm.{BinaryForm}
use Rattle.lift_tree.specs.declared.term.BinaryForm.TheVariants as binary
use Rattle.lift_tree.specs.declared.term.UnaryForm.{UnaryForm}
use Rattle.lift_tree.specs.declared.term.UnaryForm.TheVariants as unaries
use Rattle.lift_reader.specs.declared.grammar.Single.{Single}
use Rattle.lift_reader.specs.declared.grammar.Single.TheVariants as single
use Rattle.lift_reader.specs.declared.grammar.Grouping.{Grouping}
use Rattle.lift_reader.specs.declared.grammar.Grouping.TheVariants as grouping
use Rattle.lift_reader.specs.declared.word.Word.{Word}
use Rattle.lift_reader.specs.declared.word.Word.TheVariants as word

-- the operators that a reduce may have
abbrev pub reducer_of : Word → Option Reducer
reducer_of word.Add = Some reducer.Add
reducer_of word.Mul = Some reducer.Mul
reducer_of word.Min = Some reducer.Min
reducer_of word.Max = Some reducer.Max
reducer_of word.And = Some reducer.And
reducer_of word.Or = Some reducer.Or
reducer_of word.Xor = Some reducer.Xor
reducer_of _ = None

-- what is written before two terms
abbrev pub binary_of : Word → Option BinaryForm
binary_of word.Add = Some (binary.Operator (operator.Regrouping reducer.Add))
binary_of word.Mul = Some (binary.Operator (operator.Regrouping reducer.Mul))
binary_of word.Min = Some (binary.Operator (operator.Regrouping reducer.Min))
binary_of word.Max = Some (binary.Operator (operator.Regrouping reducer.Max))
binary_of word.And = Some (binary.Operator (operator.Regrouping reducer.And))
binary_of word.Or = Some (binary.Operator (operator.Regrouping reducer.Or))
binary_of word.Xor = Some (binary.Operator (operator.Regrouping reducer.Xor))
binary_of word.Sub = Some (binary.Operator operator.Sub)
binary_of word.Shl = Some (binary.Operator operator.Shl)
binary_of word.Shr = Some (binary.Operator operator.Shr)
binary_of word.Lt = Some (binary.Operator operator.Lt)
binary_of word.Eq = Some (binary.Operator operator.Eq)
binary_of word.Pair = Some binary.Pair
binary_of word.Zip = Some binary.Zip
binary_of _ = None

-- what is written before one term
abbrev pub unary_of : Word → Option UnaryForm
unary_of word.First = Some unaries.First
unary_of word.Second = Some unaries.Second
unary_of word.Join = Some (unaries.Layout layouts.Join)
unary_of word.Transpose = Some (unaries.Layout layouts.Transpose)
unary_of word.Reverse = Some (unaries.Layout layouts.Reverse)
unary_of _ = None

-- a split by the product that is written before its term
abbrev pub split_by : List Factor → UnaryForm
split_by product = unaries.Layout (layouts.Split product)

-- a stride by the product that is written before its term
abbrev pub stride_by : List Factor → UnaryForm
stride_by product = unaries.Layout (layouts.Stride product)

-- the form of a node with one child
abbrev pub form_of : Single → UnaryForm
form_of (single.Div n) = unaries.Div n
form_of (single.Rem n) = unaries.Rem n
form_of single.First = unaries.First
form_of single.Second = unaries.Second
form_of single.Join = unaries.Layout layouts.Join
form_of single.Transpose = unaries.Layout layouts.Transpose
form_of single.Reverse = unaries.Layout layouts.Reverse
form_of (single.Slide s t) = unaries.Slide s t
form_of (single.Pad l r) = unaries.Pad l r

-- the form of split or stride by a product
abbrev pub grouping_form : Grouping → List Factor → UnaryForm
grouping_form grouping.Split product = split_by product
grouping_form grouping.Stride product = stride_by product
