-- A sink in memory.
use Rattle.std.specs.Prelude.{◌≡◌, ◌-◌, ◌⊎◌, ◌<◌, min, ℕ, List, [], Contains, Result, Ok, Err, length, vec_len}
use Rattle.lift_io.specs.Causes.{one_more}
use Rattle.lift_io.specs.declared.memory_sink.MemorySink.{MemorySink}

-- nothing was taken, and these are its room, its bytes a call and its failing calls
pub record IsNew (sink : MemorySink) (given_room given_most : ℕ) (listed : List ℕ) : Type 0 where
  pub empty : sink.bytes.items ≡ []
  pub room : sink.room ≡ given_room
  pub most : sink.most ≡ given_most
  pub failing : sink.failing.items ≡ listed
  pub calls : sink.calls ≡ 0
  pub faults : sink.faults ≡ 0

-- how many bytes of a piece the next write takes, if it doesn't fail
abbrev pub next_count : MemorySink → List ℕ → ℕ
next_count sink piece = min (min sink.most (length piece)) (sink.room - vec_len sink.bytes)

-- the next write of this piece fails: it isn't empty, and its number is listed
-- or there is no room for a byte
abbrev pub NextFails : MemorySink → List ℕ → Type 0
NextFails sink piece =
    (0 < length piece)
    × (Contains sink.failing.items (one_more sink.calls) ⊎ (next_count sink piece ≡ 0))

-- the count of faults after a write with this result: just an error is a fault
abbrev pub faults_after : {T E : Type 0} → ℕ → Result T E → ℕ
faults_after before (Ok count) = before
faults_after before (Err reason) = one_more before

-- a write with this result keeps how the sink was made; it is counted, and so is its fault
pub record IsCounted {T E : Type 0} (before now : MemorySink) (result : Result T E) : Type 0 where
  pub room : now.room ≡ before.room
  pub most : now.most ≡ before.most
  pub failing : now.failing ≡ before.failing
  pub calls : now.calls ≡ one_more before.calls
  pub faults : now.faults ≡ faults_after before.faults result
