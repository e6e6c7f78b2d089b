-- Which phases of a work-group's body conflict.
use Rattle.std.specs.Prelude.{◌≡◌, ◌⊎◌, ◌&&◌, ℕ, Bool, true, false, List, Contains}
use Rattle.barrier_placement.specs.declared.touches.Touch.{Touch}

-- what an array lies in
pub data Space : Type 0 where
  Local Global : Space

-- by the flag of a touch
abbrev pub space_of : (local : Bool) → Space
space_of true = Local
space_of false = Global

-- both are uses of one array, one writes it, and not both are aligned
pub record Clash (x y : Touch) : Type 0 where
  pub one_space : x.local ≡ y.local
  pub one_buffer : x.buffer ≡ y.buffer
  pub one_writes : (x.writes ≡ true) ⊎ (y.writes ≡ true)
  pub not_aligned : (x.aligned && y.aligned) ≡ false

-- phases p and q conflict on an array of this space
pub record Conflict (touches : List Touch) (space : Space) (p q : ℕ) : Type 0 where
  pub first : Touch
  pub second : Touch
  pub first_used : Contains touches first
  pub second_used : Contains touches second
  pub first_phase : first.phase ≡ p
  pub second_phase : second.phase ≡ q
  pub lies_in : space_of first.local ≡ space
  pub clash : Clash first second
