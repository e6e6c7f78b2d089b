-- The ways to the components of an input's type.
use Rattle.std.proofs.Common.{◌≡◌, List, ◌∷◌, ◌++◌, refl, ap, ◌∙◌}
use Rattle.std.specs.Prelude.{map}
use Rattle.size_arith.specs.declared.names.Name.{Name}
use Rattle.lift_tree.specs.InputTypes.{Written, Number, Pair, Array}
use Rattle.lift_tree.specs.Limits.{components}
use Rattle.lift_tree.specs.Values.{Left, Right}
use Rattle.lift_tree.specs.WorkedOut.{worked_out}
use Rattle.value_lists.specs.Lists.{ways}

pub ways_are_components : (names : List Name) (a : Written) → ways a ≡ components (worked_out names a)
ways_are_components names Number = refl
ways_are_components names (Pair a b) =
    ap (λ x. map (λ c. Left ∷ c) x ++ map (λ c. Right ∷ c) (ways b)) (ways_are_components names a)
    ∙ ap (λ y. map (λ c. Left ∷ c) (components (worked_out names a)) ++ map (λ c. Right ∷ c) y) (ways_are_components names b)
ways_are_components names (Array a n) = ways_are_components names a
