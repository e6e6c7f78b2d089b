-- How many nodes a term has.
use Rattle.std.specs.Prelude.{ℕ, ◌+◌}
use Rattle.lift_ir.specs.Terms.{Term, Literal, Bound, Source, Apply, ApplyNumber, ApplyLanes, DivideLanes, Select, Both, Project, Reshape, LetArray, LetElement, Map, Fold, Store, Copy}

-- the term itself and all terms in it
abbrev pub nodes : {A : Type 0} → Term A → ℕ
nodes (Literal c) = 1
nodes (Bound v) = 1
nodes (Source v) = 1
nodes (Apply o a b) = nodes a + nodes b + 1
nodes (ApplyNumber o n a) = nodes a + 1
nodes (ApplyLanes o l r a b) = nodes a + nodes b + 1
nodes (DivideLanes o n a) = nodes a + 1
nodes (Select c a b) = nodes c + nodes a + nodes b + 1
nodes (Both zips a b) = nodes a + nodes b + 1
nodes (Project second a) = nodes a + 1
nodes (Reshape l a) = nodes a + 1
nodes (LetArray v b) = nodes v + nodes b + 1
nodes (LetElement ty v b) = nodes v + nodes b + 1
nodes (Map k n loads xs b) = nodes xs + nodes b + 1
nodes (Fold n loads ty xs s b) = nodes xs + nodes s + nodes b + 1
nodes (Store ty a) = nodes a + 1
nodes (Copy space ty a) = nodes a + 1
