-- The phases of a term that is a map over work-groups.
use Rattle.std.specs.Prelude.{◌≡◌, ℕ, Bool, List, All}
use Rattle.barrier_placement.specs.Fencing.{InOrder, fence}
use Rattle.barrier_placement.specs.Needed.{Needed, NeededBy}
use Rattle.barrier_placement.specs.declared.placing.Barrier.{Barrier}
use Rattle.barrier_placement.specs.declared.touches.Touch.{Touch}

-- for a term with these uses of local arrays by so many phases, so many phases with these uses, and
-- their needed barriers, where groups take one turn at most, or many, each by a pair of phases in
-- conflict
pub record ArePhasesOf (told : List Touch) (n : ℕ) (once : Bool) (phases : ℕ) (uses : List Touch)
    (barriers : List Barrier) : Type 0 where
  pub count : phases ≡ n
  pub touches : uses ≡ told
  pub needed : Needed told once n (fence n barriers)
  pub in_order : InOrder n barriers
  pub pairs : All (λ b. NeededBy told once n (fence n barriers) b.before b.pair) barriers
