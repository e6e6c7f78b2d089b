-- The code's forms and marks, wherever their names lie in memory.
use Rattle.std.specs.Prelude.{ℕ, List}
use Rattle.readings.specs.declared.owed.Owed.{Owed}
use Rattle.readings.specs.Views.{items_of}
use Rattle.lift_tree.specs.declared.term.UnaryForm.{UnaryForm}
use Rattle.lift_tree.specs.declared.term.UnaryForm.TheVariants as unaries
use Rattle.lift_tree.specs.declared.term.BinaryForm.TheVariants as binaries
use Rattle.lift_tree.specs.declared.term.MapKind.TheVariants as maps
use Rattle.lift_tree.specs.declared.term.FoldKind.TheVariants as folds
use Rattle.lift_tree.specs.Tree as trees
use Rattle.lift_reader.specs.declared.grammar.Nonterminal.{Nonterminal}
use Rattle.lift_reader.specs.declared.grammar.Nonterminal.TheVariants as form
use Rattle.lift_reader.specs.declared.grammar.Action.{Action}
use Rattle.lift_reader.specs.declared.grammar.Action.TheVariants as action
use Rattle.lift_reader.specs.declared.grammar.Double.{Double}
use Rattle.lift_reader.specs.declared.grammar.Double.TheVariants as double
use Rattle.lift_reader.specs.declared.grammar.Triple.{Triple}
use Rattle.lift_reader.specs.declared.grammar.Triple.TheVariants as triple
use Rattle.lift_reader.specs.declared.grammar.Division.{Division}
use Rattle.lift_reader.specs.declared.grammar.Division.TheVariants as division
use Rattle.lift_reader.specs.declared.grammar.Window.{Window}
use Rattle.lift_reader.specs.declared.grammar.Window.TheVariants as window
use Rattle.lift_reader.specs.declared.token.Kind.{Kind}
use Rattle.lift_reader.specs.Meant.{form_of, grouping_form}
use Rattle.lift_reader.specs.Shown.{lexeme}
use Rattle.lift_reader.specs.Grammar as grammar

-- the term that is made of the last two, in the order in which they are written
abbrev pub double_of : Double → trees.Tree → trees.Tree → trees.Tree
double_of (double.Binary f) a b = trees.Binary f a b
double_of (double.Reduce r) start array = trees.Binary (binaries.Reduce r) array start
double_of double.Let value body = trees.Let value body
double_of double.Map body array = trees.Map maps.Plain array body

-- the term that is made of the last three, in the order in which they are written
abbrev pub triple_of : Triple → trees.Tree → trees.Tree → trees.Tree → trees.Tree
triple_of triple.Select a b c = trees.Select a b c
triple_of triple.Fold body start array = trees.Fold folds.Plain array start body

-- the form of a division by a number, or of its remainder
abbrev pub division_form : Division → ℕ → UnaryForm
division_form division.Div n = unaries.Div n
division_form division.Rem n = unaries.Rem n

-- the form of slide or pad with its two numbers
abbrev pub window_form : Window → ℕ → ℕ → UnaryForm
window_form window.Slide s t = unaries.Slide s t
window_form window.Pad l r = unaries.Pad l r

-- the least number that slide or pad may be given
abbrev pub window_least : Window → ℕ
window_least window.Slide = 1
window_least window.Pad = 0

-- a form of the code, as the grammar's
abbrev pub nonterminal_of : Nonterminal → grammar.Nonterminal
nonterminal_of form.Sizes = grammar.Sizes
nonterminal_of form.Inputs = grammar.Inputs
nonterminal_of form.SizeName = grammar.SizeName
nonterminal_of (form.SizeRange x) = grammar.SizeRange x.now
nonterminal_of (form.Multiple x) = grammar.Multiple x.now
nonterminal_of (form.From x m) = grammar.From x.now m
nonterminal_of (form.To x m a) = grammar.To x.now m a
nonterminal_of form.InputName = grammar.InputName
nonterminal_of (form.ArrayType d) = grammar.ArrayType d
nonterminal_of (form.ElementType d) = grammar.ElementType d
nonterminal_of (form.AnyType d) = grammar.AnyType d
nonterminal_of (form.LengthFactor least) = grammar.LengthFactor least
nonterminal_of (form.LengthRest s) = grammar.LengthRest s
nonterminal_of (form.Term d) = grammar.Term d
nonterminal_of (form.Divisor f) = grammar.Divisor (division_form f)
nonterminal_of (form.First w d) = grammar.First (window_least w) (window_form w) d
nonterminal_of (form.Second w v d) = grammar.Second (window_least w) (window_form w v) d
nonterminal_of (form.LetName d) = grammar.LetName d
nonterminal_of (form.MapName d) = grammar.MapName d
nonterminal_of (form.FoldName d) = grammar.FoldName d
nonterminal_of (form.FoldSecondName d x) = grammar.FoldSecondName d x.now
nonterminal_of (form.ReduceOperator d) = grammar.ReduceOperator d
nonterminal_of (form.ProductRest g d) = grammar.ProductRest (grouping_form g) d

-- a mark of the code, as the grammar's
abbrev pub action_of : Action → grammar.Action
action_of (action.DeclareSize x m a b) =
    grammar.DeclareSize (record { name = x.now; multiple = m; from = a; to = b })
action_of (action.DeclareInput x) = grammar.DeclareInput x.now
action_of action.NumberType = grammar.NumberType
action_of action.PairType = grammar.PairType
action_of action.ArrayOf = grammar.ArrayOf
action_of action.BeginProduct = grammar.BeginProduct
action_of (action.Multiply f) = grammar.Multiply f
action_of (action.EndPart s) = grammar.EndPart s
action_of (action.Number v) = grammar.Leaf (trees.Number v)
action_of (action.Variable i) = grammar.Leaf (trees.Variable i)
action_of (action.Input i) = grammar.Leaf (trees.Input i)
action_of (action.Bind x) = grammar.Bind x.now
action_of action.Unbind = grammar.Unbind
action_of (action.Make1 f) = grammar.Make1 (trees.Unary (form_of f))
action_of (action.Make2 f) = grammar.Make2 (double_of f)
action_of (action.Make3 f) = grammar.Make3 (triple_of f)
action_of (action.MakeByProduct g) = grammar.MakeByProduct (grouping_form g)
action_of action.Finish = grammar.Finish

-- what the code owes, as the grammar's items
abbrev pub items : List (Owed Kind Nonterminal Action) → List grammar.Item
items owed = items_of lexeme nonterminal_of action_of owed
