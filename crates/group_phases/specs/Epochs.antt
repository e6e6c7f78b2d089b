-- In which of a group's epochs each phase of a body runs, by what stands before each phase; `fence
-- n` closes a body of n phases.
use Rattle.std.specs.Prelude.{◌≡◌, ℕ, zero, suc, ◌+◌, ◌*◌, ◌%◌, ◌==◌, ◌<◌, Bool, true, false, List}
use Rattle.kernel_tree.specs.Code.{Syncs, Code, Performs}
use Rattle.barrier_placement.specs.declared.touches.Touch.{Touch}
use Rattle.barrier_placement.specs.Conflicts.{Local, Conflict}
use Rattle.barrier_placement.specs.Fencing.{Fencing, Open, Fenced, orders}
use Rattle.barrier_placement.specs.Separates.{bit}

-- what stands there, and then the rest
abbrev pub fenced : Fencing → (rest : Code) → Code
fenced Open rest = rest
fenced (Fenced on_local on_global) rest = Performs (Syncs on_local on_global) rest

-- the code before what stands there, and the code after it
abbrev pub IsPast : Fencing → (before after : Code) → Type 0
IsPast f before after = before ≡ fenced f after

-- how many of what stands at the first p places are barriers for local memory
abbrev pub passed : (ℕ → Fencing) → ℕ → ℕ
passed fence zero = 0
passed fence (suc p) = bit (orders Local (fence p)) + passed fence p

-- how many there are in a turn
abbrev pub each_turn : (ℕ → Fencing) → (n : ℕ) → ℕ
each_turn fence n = passed fence (suc n)

-- the group's epoch for local memory in phase q of its turn t
abbrev pub epoch_in : (ℕ → Fencing) → (n t q : ℕ) → ℕ
epoch_in fence n t q = t * each_turn fence n + passed fence (suc q)

-- `runs_in e q` holds in each epoch e in which phase q runs, and in none in which a later phase in
-- conflict with it does; `turns g` is how many turns group g has
pub record KeepsApart (touches : List Touch) (n : ℕ) (fence : ℕ → Fencing) (turns : ℕ → ℕ)
    (runs_in : (epoch phase : ℕ) → Bool) : Type 0 where
  pub runs : (g t q : ℕ) → t < turns g → q < n → runs_in (epoch_in fence n t q) q ≡ true
  pub apart : (g t w q : ℕ) → t < turns g → w < q → q < n → Conflict touches Local w q
      → runs_in (epoch_in fence n t q) w ≡ false

-- of many turns
abbrev pub runs_by_turns : (ℕ → Fencing) → (n : ℕ) → (epoch phase : ℕ) → Bool
runs_by_turns fence n e q = (e % each_turn fence n) == (passed fence (suc q) % each_turn fence n)

-- of one turn
abbrev pub runs_once : (ℕ → Fencing) → (epoch phase : ℕ) → Bool
runs_once fence e q = e == passed fence (suc q)
