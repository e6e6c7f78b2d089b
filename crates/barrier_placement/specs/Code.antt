-- What the code's steps give.
use Rattle.std.specs.Prelude.{◌≡◌, ◌<◌, ◌≤◌, ◌⊎◌, ◌↔◌, ℕ, Bool, true, false, List, Option, None, MatchOption}
use Rattle.barrier_placement.specs.declared.touches.Touch.{Touch}
use Rattle.barrier_placement.specs.declared.conflicts.Stretch.{Stretch}
use Rattle.barrier_placement.specs.declared.placing.Barrier.{Barrier}
use Rattle.barrier_placement.specs.Conflicts.{Space, Conflict}
use Rattle.barrier_placement.specs.Fencing.{orders, fencing_of}

-- the phase is one of the stretch
abbrev pub In : Stretch → ℕ → Type 0
In s p = (s.from ≤ p) × (p < s.to)

-- the phases from one on, before another
abbrev pub stretch : ℕ → ℕ → Stretch
stretch from to = record { from = from; to = to }

-- a phase of one stretch and one of the other conflict
pub record Across (touches : List Touch) (space : Space) (earlier later : Stretch)
    (p q : ℕ) : Type 0 where
  pub first_in : In earlier p
  pub second_in : In later q
  pub conflict : Conflict touches space p q

-- a barrier here, with the flags of the arrays on which the stretches
-- conflict, and a pair that does
pub record Parts (touches : List Touch) (before : Option ℕ) (earlier later : Stretch)
    (b : Barrier) : Type 0 where
  pub place : b.before ≡ before
  pub flags : (space : Space)
      → (orders space (fencing_of b) ≡ true) ↔ ((p q : ℕ) × Across touches space earlier later p q)
  pub pair : (space : Space) × Across touches space earlier later b.pair.0 b.pair.1

-- the same of a barrier that closes the body, with the pair either way round
pub record Closes (touches : List Touch) (earlier later : Stretch) (b : Barrier) : Type 0 where
  pub place : b.before ≡ None
  pub flags : (space : Space)
      → (orders space (fencing_of b) ≡ true) ↔ ((p q : ℕ) × Across touches space earlier later p q)
  pub pair : (space : Space)
      ×
      (Across touches space earlier later b.pair.0 b.pair.1
      ⊎ Across touches space earlier later b.pair.1 b.pair.0)

-- no phases of the stretches conflict, or there is a barrier of this kind
abbrev pub Finds : List Touch → (earlier later : Stretch) → (Barrier → Type 0) → Option Barrier
    → Type 0
Finds touches earlier later IsBarrier found =
    MatchOption found
    ((space : Space) (p q : ℕ) → Across touches space earlier later p q → ⊥) IsBarrier

-- the body has one turn at most, or no phases of the stretches conflict; or it has more, and there
-- is a barrier that closes it
abbrev pub FindsLast : List Touch → (once : Bool) → (earlier later : Stretch) → Option Barrier
    → Type 0
FindsLast touches once earlier later found =
    MatchOption found
    (once ≡ false → (space : Space) (p q : ℕ) → Across touches space earlier later p q → ⊥)
    (λ b. (once ≡ false) × Closes touches earlier later b × (b.pair.1 ≤ b.pair.0))
