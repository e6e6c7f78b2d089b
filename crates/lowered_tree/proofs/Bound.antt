-- The stack of binders.
use Rattle.std.proofs.Common.{◌≡◌, Bool, List, [], ◌∷◌, ◌++◌}
use Rattle.std.specs.Prelude.{reverse}
use Rattle.std.proofs.lemmas.List.{reverse-append}

pub pushed : (g : List Bool) (b : Bool) → reverse (g ++ b ∷ []) ≡ b ∷ reverse g
pushed g b = reverse-append g (b ∷ [])

pub ruleset bound = (pushed)
