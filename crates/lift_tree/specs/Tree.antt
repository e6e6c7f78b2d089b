-- Terms, wherever they lie in memory.
use Rattle.std.specs.Prelude.{ℕ, ◌+◌, max}
use Rattle.lift_tree.specs.declared.term.UnaryForm.{UnaryForm}
use Rattle.lift_tree.specs.declared.term.BinaryForm.{BinaryForm}
use Rattle.lift_tree.specs.declared.term.MapKind.{MapKind}
use Rattle.lift_tree.specs.declared.term.FoldKind.{FoldKind}
use Rattle.lift_tree.specs.declared.term.Term as held
use Rattle.lift_tree.specs.declared.term.Term.{Term}

-- a form and its children; a variable is told by how many binders are nearer than its own
pub data Tree : Type 0 where
  Variable : ℕ → Tree
  Number : ℕ → Tree
  Input : ℕ → Tree
  Unary : UnaryForm → Tree → Tree
  Binary : BinaryForm → Tree → Tree → Tree
  Select : (condition yes no : Tree) → Tree
  Let : (value body : Tree) → Tree
  Map : MapKind → (array body : Tree) → Tree
  Fold : FoldKind → (array start body : Tree) → Tree

-- the term that lies in memory
abbrev pub tree_of : Term → Tree
tree_of (held.Variable n) = Variable n
tree_of (held.Number n) = Number n
tree_of (held.Input n) = Input n
tree_of (held.Unary' f p t) = Unary f (tree_of t)
tree_of (held.Binary' f p t q u) = Binary f (tree_of t) (tree_of u)
tree_of (held.Select' p t q u r v) = Select (tree_of t) (tree_of u) (tree_of v)
tree_of (held.Let' p v q b) = Let (tree_of v) (tree_of b)
tree_of (held.Map' k p xs q b) = Map k (tree_of xs) (tree_of b)
tree_of (held.Fold' k p xs q s r b) = Fold k (tree_of xs) (tree_of s) (tree_of b)

-- how many nodes a term has: one for each form, the numbers of a form are none
abbrev pub nodes : Tree → ℕ
nodes (Variable n) = 1
nodes (Number n) = 1
nodes (Input n) = 1
nodes (Unary f t) = nodes t + 1
nodes (Binary f t u) = nodes t + nodes u + 1
nodes (Select t u v) = nodes t + nodes u + nodes v + 1
nodes (Let v b) = nodes v + nodes b + 1
nodes (Map k xs b) = nodes xs + nodes b + 1
nodes (Fold k xs s b) = nodes xs + nodes s + nodes b + 1

-- a leaf has height 1
abbrev pub height : Tree → ℕ
height (Variable n) = 1
height (Number n) = 1
height (Input n) = 1
height (Unary f t) = height t + 1
height (Binary f t u) = max (height t) (height u) + 1
height (Select t u v) = max (max (height t) (height u)) (height v) + 1
height (Let v b) = max (height v) (height b) + 1
height (Map k xs b) = max (height xs) (height b) + 1
height (Fold k xs s b) = max (max (height xs) (height s)) (height b) + 1
