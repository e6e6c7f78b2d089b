-- The items of a group meet the same barriers.
use Rattle.std.specs.Prelude.{◌≡◌, ℕ, ◌<◌}
use Rattle.kernel_tree.specs.Launch.{item_count, group_of}
use Rattle.kernel_tree.specs.Item.{Wants, Ends, Waits, Moves, Reads, Writes, ReadsFour, WritesFour, Fails}
use Rattle.kernel_tree.specs.Device.{Device, State, wants, StandTogether}

-- it waits at a barrier
abbrev pub IsWaiting : Wants → Type 0
IsWaiting (Waits a b x) = Unit {0}
IsWaiting Ends = ⊥
IsWaiting (Moves x) = ⊥
IsWaiting (Reads a n f) = ⊥
IsWaiting (Writes a n v x) = ⊥
IsWaiting (ReadsFour a n f) = ⊥
IsWaiting (WritesFour a n u x) = ⊥
IsWaiting (Fails f) = ⊥

-- items of one group that wait, wait at one barrier with the same turn numbers; and none of them
-- has ended
pub record MeetTogether (d : Device) (s : State) : Type 0 where
  pub together : (i j : ℕ) → i < item_count d.launch → j < item_count d.launch
      → group_of d.launch i ≡ group_of d.launch j → IsWaiting (wants d s i)
      → IsWaiting (wants d s j) → StandTogether (wants d s i) (wants d s j)
  pub none_ended : (i j : ℕ) → i < item_count d.launch → j < item_count d.launch
      → group_of d.launch i ≡ group_of d.launch j → IsWaiting (wants d s i) → wants d s j ≡ Ends → ⊥
