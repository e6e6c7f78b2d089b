-- Nodes at places.
use Rattle.std.specs.Prelude.{ℕ, zero, suc, List, [], ◌∷◌, Option, Some, None, option_map, option_and_then}
use Rattle.lift_tree.specs.Tree.{Tree, Variable, Number, Input, Unary, Binary, Select, Let, Map, Fold}

-- the children in order, counted from 0
abbrev pub children : Tree → List Tree
children (Variable n) = []
children (Number n) = []
children (Input n) = []
children (Unary f t) = t ∷ []
children (Binary f t u) = t ∷ u ∷ []
children (Select t u v) = t ∷ u ∷ v ∷ []
children (Let v b) = v ∷ b ∷ []
children (Map k xs b) = xs ∷ b ∷ []
children (Fold k xs s b) = xs ∷ s ∷ b ∷ []

-- the child of this number, if there is one
abbrev pub nth_child : List Tree → ℕ → Option Tree
nth_child [] i = None
nth_child (t ∷ ts) zero = Some t
nth_child (t ∷ ts) (suc i) = nth_child ts i

-- a term's child of this number, if it has one
abbrev pub child_at : Tree → ℕ → Option Tree
child_at t i = nth_child (children t) i

-- the node at a place; none where there is no such place
abbrev pub node_at : Tree → List ℕ → Option Tree
node_at t [] = Some t
node_at t (i ∷ is) = option_and_then (λ c. node_at c is) (child_at t i)

-- the term with another child there; itself where it has no such child
abbrev pub with_child : Tree → ℕ → Tree → Tree
with_child (Variable n) i s = Variable n
with_child (Number n) i s = Number n
with_child (Input n) i s = Input n
with_child (Unary f t) zero s = Unary f s
with_child (Unary f t) (suc i) s = Unary f t
with_child (Binary f t u) zero s = Binary f s u
with_child (Binary f t u) (suc zero) s = Binary f t s
with_child (Binary f t u) (suc (suc i)) s = Binary f t u
with_child (Select t u v) zero s = Select s u v
with_child (Select t u v) (suc zero) s = Select t s v
with_child (Select t u v) (suc (suc zero)) s = Select t u s
with_child (Select t u v) (suc (suc (suc i))) s = Select t u v
with_child (Let v b) zero s = Let s b
with_child (Let v b) (suc zero) s = Let v s
with_child (Let v b) (suc (suc i)) s = Let v b
with_child (Map k xs b) zero s = Map k s b
with_child (Map k xs b) (suc zero) s = Map k xs s
with_child (Map k xs b) (suc (suc i)) s = Map k xs b
with_child (Fold k xs t b) zero s = Fold k s t b
with_child (Fold k xs t b) (suc zero) s = Fold k xs s b
with_child (Fold k xs t b) (suc (suc zero)) s = Fold k xs t s
with_child (Fold k xs t b) (suc (suc (suc i))) s = Fold k xs t b

-- the term with another node at a place; none where there is no such place
abbrev pub with_at : Tree → List ℕ → Tree → Option Tree
with_at t [] s = Some s
with_at t (i ∷ is) s =
    option_and_then (λ c. option_map (with_child t i) (with_at c is s)) (child_at t i)
