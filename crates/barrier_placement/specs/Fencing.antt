-- What stands before each phase of a body of n phases, as a function: of n, what closes the body.
use Rattle.std.specs.Prelude.{◌<◌, ℕ, Bool, true, false, List, [], ◌∷◌, All, AllPairs, IfSome, unwrap_or, ◌==◌, if◌then◌else◌}
use Rattle.barrier_placement.specs.declared.placing.Barrier.{Barrier}
use Rattle.barrier_placement.specs.Conflicts.{Space, Local, Global}

-- no barrier, or one with these flags
pub data Fencing : Type 0 where
  Open : Fencing
  Fenced : (on_local on_global : Bool) → Fencing

-- there is a barrier
abbrev pub stands : Fencing → Bool
stands Open = false
stands (Fenced on_local on_global) = true

-- a barrier orders accesses to the memories of its flags
abbrev pub orders : Space → Fencing → Bool
orders space Open = false
orders Local (Fenced on_local on_global) = on_local
orders Global (Fenced on_local on_global) = on_global

-- a barrier with its flags, wherever it stands
abbrev pub fencing_of : Barrier → Fencing
fencing_of b = Fenced b.local b.global

-- the phase that a barrier stands before, and n where it closes the body
abbrev pub place_of : ℕ → Barrier → ℕ
place_of n b = unwrap_or b.before n

-- what a list of barriers puts before each phase, and at the end
abbrev pub fence : (n : ℕ) → List Barrier → ℕ → Fencing
fence n [] r = Open
fence n (b ∷ barriers) r = if place_of n b == r then fencing_of b else fence n barriers r

-- in the order of the phases; one that closes the body comes last
pub record InOrder (n : ℕ) (barriers : List Barrier) : Type 0 where
  pub before_phases : All (λ b. IfSome b.before (λ q. q < n)) barriers
  pub in_order : AllPairs (λ a b. place_of n a < place_of n b) barriers
