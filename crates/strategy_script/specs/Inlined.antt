-- How many nodes a term has once a let's value stands in its body.
use Rattle.std.specs.Prelude.{◌≡◌, ℕ, suc, ◌+◌, Some, nat_eq, if◌then◌else◌}
use Rattle.lift_tree.specs.Places.{node_at}
use Rattle.lift_tree.specs.Tree.{Tree, Variable, Number, Input, Unary, Binary, Select, Let, Map, Fold}
use Rattle.rules_algebra.specs.declared.rule.Rule.TheVariants.{LetInline}
use Rattle.strategy_script.specs.declared.rule.Rule.TheVariants.{Algebra}
use Rattle.strategy_script.specs.declared.script.Step.{Step}

-- the term's nodes, where each mention of the binder k counts so many
abbrev pub nodes_filled : (k many : ℕ) → Tree → ℕ
nodes_filled k m (Variable n) = if nat_eq n k then m else 1
nodes_filled k m (Number n) = 1
nodes_filled k m (Input n) = 1
nodes_filled k m (Unary f t) = nodes_filled k m t + 1
nodes_filled k m (Binary f t u) = nodes_filled k m t + nodes_filled k m u + 1
nodes_filled k m (Select t u v) =
    nodes_filled k m t + nodes_filled k m u + nodes_filled k m v + 1
nodes_filled k m (Let v b) = nodes_filled k m v + nodes_filled (suc k) m b + 1
nodes_filled k m (Map h xs b) = nodes_filled k m xs + nodes_filled (suc k) m b + 1
nodes_filled k m (Fold h xs s b) =
    nodes_filled k m xs + nodes_filled k m s + nodes_filled (suc (suc k)) m b + 1

-- the step puts this value of a let into this body
abbrev pub PutsInto : Step → (t value body : Tree) → Type 0
PutsInto step t value body =
    (step.rule ≡ Algebra LetInline) × (node_at t step.place ≡ Some (Let value body))
