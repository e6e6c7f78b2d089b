-- What the needed barriers of a body do, and that they are determined.
use Rattle.std.specs.Prelude.{◌≡◌, ◌-◌, ◌≤◌, ℕ, Bool, List, All, filter, length, is_some}
use Rattle.barrier_placement.specs.declared.touches.Touch.{Touch}
use Rattle.barrier_placement.specs.declared.placing.Barrier.{Barrier}
use Rattle.barrier_placement.specs.Conflicts.{Space, space_of}
use Rattle.barrier_placement.specs.Fencing.{Fencing, fence, InOrder}
use Rattle.barrier_placement.specs.Needed.{Needed}
use Rattle.barrier_placement.specs.Separates.{Separates, SeparatesTurn, count_of}

-- where all arrays lie in one space, they keep conflicting phases apart
abbrev pub NeededBarriersSeparate : Type 0
NeededBarriersSeparate =
    (touches : List Touch) (space : Space) (once : Bool) (n : ℕ) (fencing : ℕ → Fencing)
    → All (λ x. space_of x.local ≡ space) touches → Needed touches once n fencing
    → Separates touches space once n fencing

-- but for the one that closes the body, they are no more than any places that separate the phases
abbrev pub NeededBarriersAreFewest : Type 0
NeededBarriersAreFewest =
    (touches : List Touch) (once : Bool) (n : ℕ) (barriers : List Barrier) (places : ℕ → Bool)
    → InOrder n barriers → Needed touches once n (fence n barriers) → SeparatesTurn touches n places
    → length (filter (λ b. is_some b.before) barriers) ≤ count_of places (n - 1)

-- the uses tell them
abbrev pub NeededBarriersAreDetermined : Type 0
NeededBarriersAreDetermined =
    (touches : List Touch) (once : Bool) (n : ℕ) (one other : ℕ → Fencing)
    → Needed touches once n one → Needed touches once n other → (q : ℕ) → q ≤ n → one q ≡ other q
