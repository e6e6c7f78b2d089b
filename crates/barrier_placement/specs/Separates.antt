-- Barriers that keep conflicting phases apart.
use Rattle.std.specs.Prelude.{◌≡◌, ◌<◌, ◌≤◌, ◌+◌, ◌⊎◌, ℕ, zero, suc, Bool, true, false, List}
use Rattle.barrier_placement.specs.declared.touches.Touch.{Touch}
use Rattle.barrier_placement.specs.Conflicts.{Space, Conflict}
use Rattle.barrier_placement.specs.Fencing.{Fencing, orders}

-- each two phases in conflict have a barrier with the flag between them, in a turn and, where there
-- are more, from one turn to the next
pub record Separates (touches : List Touch) (space : Space) (once : Bool) (n : ℕ)
    (fence : ℕ → Fencing) : Type 0 where
  pub within : (p q : ℕ) → p < q → q < n → Conflict touches space p q
      → (r : ℕ) × (p < r) × (r ≤ q) × (orders space (fence r) ≡ true)
  pub around : once ≡ false → (p q : ℕ) → p < n → q < n → Conflict touches space p q
      → ((r : ℕ) × (p < r) × (r ≤ n) × (orders space (fence r) ≡ true))
      ⊎ ((r : ℕ) × (r ≤ q) × (orders space (fence r) ≡ true))

-- each two phases in conflict have one of these places between them in a turn
abbrev pub SeparatesTurn : List Touch → (n : ℕ) → (ℕ → Bool) → Type 0
SeparatesTurn touches n places =
    (space : Space) (p q : ℕ) → p < q → q < n → Conflict touches space p q
    → (r : ℕ) × (p < r) × (r ≤ q) × (places r ≡ true)

-- one where it is so
abbrev pub bit : Bool → ℕ
bit true = 1
bit false = 0

-- how many of the places before phases 1 to q are among these
abbrev pub count_of : (ℕ → Bool) → ℕ → ℕ
count_of places zero = 0
count_of places (suc q) = bit (places (suc q)) + count_of places q
