-- The needed barriers of a body of n phases, which an item goes through
-- once at most, or turn by turn.
use Rattle.std.specs.Prelude.{◌≡◌, ◌<◌, ◌≤◌, ◌↔◌, ℕ, Bool, true, false, List, Option, Some, None}
use Rattle.barrier_placement.specs.declared.touches.Touch.{Touch}
use Rattle.barrier_placement.specs.Conflicts.{Space, Conflict}
use Rattle.barrier_placement.specs.Fencing.{Fencing, stands, orders}

-- phase q conflicts with a phase p since the last barrier before it
pub record NeedsBefore (touches : List Touch) (fence : ℕ → Fencing) (space : Space)
    (p q : ℕ) : Type 0 where
  pub earlier : p < q
  pub since_barrier : (r : ℕ) → p < r → r < q → stands (fence r) ≡ false
  pub conflict : Conflict touches space p q

-- the body has further turns, and a phase p after the last barrier conflicts with a phase q before
-- the first; where there is no barrier, they are any two
pub record NeedsClosing (touches : List Touch) (once : Bool) (n : ℕ) (fence : ℕ → Fencing)
    (space : Space) (p q : ℕ) : Type 0 where
  pub again : once ≡ false
  pub first_within : p < n
  pub second_within : q < n
  pub after_last : (r : ℕ) → p < r → r < n → stands (fence r) ≡ false
  pub before_first : (r : ℕ) → r ≤ q → stands (fence r) ≡ false
  pub conflict : Conflict touches space p q

-- A barrier stands just before a phase that conflicts with a phase since the last barrier, and one
-- closes a body of many turns where the phases after the last barrier and before the first
-- conflict. Each has the flags of the arrays in conflict.
pub record Needed (touches : List Touch) (once : Bool) (n : ℕ) (fence : ℕ → Fencing) : Type 0 where
  pub before : (space : Space) (q : ℕ) → q < n
      → (orders space (fence q) ≡ true) ↔ ((p : ℕ) × NeedsBefore touches fence space p q)
  pub closing : (space : Space)
      → (orders space (fence n) ≡ true) ↔ ((p q : ℕ) × NeedsClosing touches once n fence space p q)
  pub flagged : (q : ℕ) → q ≤ n → stands (fence q) ≡ true
      → (space : Space) × (orders space (fence q) ≡ true)

-- a pair of phases that needs the barrier: of the one that closes, the later first
abbrev pub NeededBy : List Touch → (once : Bool) → (n : ℕ) → (ℕ → Fencing) → (before : Option ℕ)
    → (pair : ℕ × ℕ) → Type 0
NeededBy touches once n fence (Some q) pair =
    (pair.1 ≡ q) × ((space : Space) × NeedsBefore touches fence space pair.0 q)
NeededBy touches once n fence None pair =
    (pair.1 ≤ pair.0) × ((space : Space) × NeedsClosing touches once n fence space pair.0 pair.1)
