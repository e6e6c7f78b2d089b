-- The stack of binders.
use Rattle.std.proofs.Common.{◌≡◌, ℕ, List, [], ◌∷◌, ◌++◌}
use Rattle.std.specs.Prelude.{reverse}
use Rattle.std.proofs.lemmas.List.{reverse-append}

pub pushed : (hs : List ℕ) (h : ℕ) → reverse (hs ++ h ∷ []) ≡ h ∷ reverse hs
pushed hs h = reverse-append hs (h ∷ [])

pub ruleset bound = (pushed)
