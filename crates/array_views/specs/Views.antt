-- Views, wherever they lie in memory.
use Rattle.std.specs.Prelude.{ℕ, Bool, ◌∷◌}
use Rattle.lift_ir.specs.Types.{Shape}
use Rattle.lift_ir.specs.Layouts.{Layout}
use Rattle.lift_ir.specs.Terms as ir
use Rattle.lift_ir.specs.Scalars.{by_side}
use Rattle.printed_form.specs.Views.{Blank, Held, HeldFour, View, view_at, reshaped_view, rewritten_view, placed_view}
use Rattle.index_expr.specs.Expression.{Expression, expression_of}
use Rattle.array_views.specs.declared.array.ArrayKind.{ArrayKind}
use Rattle.array_views.specs.declared.load_set.LoadSet.{LoadSet}
use Rattle.array_views.specs.declared.load_set.LoadSet as load
use Rattle.array_views.specs.declared.node.Node.{Node}
use Rattle.array_views.specs.declared.node.Node as node
use Rattle.array_views.specs.declared.view.View as held
use Rattle.length_spelling.specs.Formulas.{index_formula}
use Rattle.array_views.specs.Arrays.{array_with, extent_of}
use Rattle.array_views.specs.Layouts.{layout_in}

-- what stands for each scalar of a value, by pair choices and indices
pub data PlainView : Type 0 where
  Nothing : PlainView
  Variable : (number : ℕ) → PlainView
  Vector : (number : ℕ) → PlainView
  Placed : ArrayKind → (first : ℕ) → Shape Expression → PlainView
  Both : (left right : PlainView) → PlainView
  Component : (second : Bool) → PlainView → PlainView
  At : (index : Expression) → PlainView → PlainView
  Reading : Layout Expression → PlainView → PlainView
  Writing : Layout Expression → PlainView → PlainView

-- the view of a node and of all below it
abbrev pub plain_of : Node → PlainView
plain_of node.Nothing = Nothing
plain_of (node.Variable n) = Variable n
plain_of (node.Vector n) = Vector n
plain_of (node.Placed p) = Placed p.kind p.first (extent_of p.extent)
plain_of (node.Both' p a q b) = Both (plain_of a) (plain_of b)
plain_of (node.Component' s p a) = Component s (plain_of a)
plain_of (node.At' i p a) = At (expression_of i) (plain_of a)
plain_of (node.Reading' y p a) = Reading (layout_in y) (plain_of a)
plain_of (node.Writing' y p a) = Writing (layout_in y) (plain_of a)

-- the view of the printed form
abbrev pub view_of : PlainView → View
view_of Nothing = λ cs is. Blank
view_of (Variable n) = λ cs is. Held n
view_of (Vector n) = λ cs is. HeldFour n
view_of (Placed k n t) = placed_view index_formula (array_with k) n t
view_of (Both x y) = by_side (λ is. Blank) (view_of x) (view_of y)
view_of (Component s x) = λ cs is. view_of x (s ∷ cs) is
view_of (At i x) = view_at (index_formula i) (view_of x)
view_of (Reading y x) = reshaped_view index_formula y (view_of x)
view_of (Writing y x) = rewritten_view index_formula y (view_of x)

-- the view that is held
abbrev pub plain_in : held.View → PlainView
plain_in v = plain_of v.node.value

-- that view in the printed form
abbrev pub view_in : held.View → View
view_in v = view_of (plain_in v)

-- which scalars of a bound element are loaded
abbrev pub loads_of : LoadSet → ir.LoadSet
loads_of load.Skip = ir.Skip
loads_of load.Take = ir.Take
loads_of load.TakeFour = ir.TakeFour
loads_of (load.Each' p a q b) = ir.Each (loads_of a) (loads_of b)
