-- Laws of what a rewrite keeps.
use Rattle.std.specs.Prelude.{ℕ, ◌≡◌, List, Some}
use Rattle.lift_tree.specs.Tree.{Tree}
use Rattle.lift_tree.specs.Places.{node_at, with_at}
use Rattle.lift_tree.specs.Types.{PlainTy}
use Rattle.lift_tree.specs.Typing.{Declared}
use Rattle.rewriting.specs.Around.{Around, IsAround, around_at}
use Rattle.rewriting.specs.Keeps.{Keeps}

-- something stands around each node of a typed term
abbrev pub PlacesHaveContexts : Type 0
PlacesHaveContexts =
    (d : Declared) (a : Around) (t r : Tree) (place : List ℕ)
    → IsAround d a t → node_at t place ≡ Some r
    → (b : Around) × (around_at a t place ≡ Some b) × IsAround d b r

-- what keeps the node's type, copies and value at a place keeps the whole's
abbrev pub RewritesKeepTheWhole : Type 0
RewritesKeepTheWhole =
    (d : Declared) (a b : Around) (t r s u : Tree) (place : List ℕ) → IsAround d a t
    → node_at t place ≡ Some r → around_at a t place ≡ Some b → with_at t place s ≡ Some u
    → Keeps d b.binders r s → Keeps d a.binders t u

-- one rewrite after another
abbrev pub KeepingGoesOn : Type 0
KeepingGoesOn =
    (d : Declared) (g : List PlainTy) (t u v : Tree) → Keeps d g t u → Keeps d g u v → Keeps d g t v
