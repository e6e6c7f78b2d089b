-- Chunks of a run, by the cells that they write of those that all groups share.
use Rattle.std.specs.Prelude.{◌≡◌, ℕ, ◌<◌, Bool, true, false, List}
use Rattle.kernel_tree.specs.Code.{Array, Input, Output}
use Rattle.kernel_tree.specs.Launch.{group_of}
use Rattle.kernel_tree.specs.Device.{Device, Cell, State}
use Rattle.kernel_tree.specs.Chunks.{Chunk, Phases, Chunked, chunk_writes}

-- an array that all groups share
abbrev pub is_global : Array → Bool
is_global (Input n) = true
is_global (Output n) = true
is_global _ = false

-- a cell that all groups share
abbrev pub IsGlobal : Cell → Type 0
IsGlobal c = is_global c.array ≡ true

-- an array of the inputs
abbrev pub is_input : Array → Bool
is_input (Input n) = true
is_input _ = false

-- the chunks lead from s to t; of the cells that all groups share they write just those that are to
-- be done, each once and with its value
pub record Writes (p : Phases) (d : Device) (s t : State) (cs : List Chunk)
    (Done : Cell → ℕ → Type 0) : Type 0 where
  pub chunked : Chunked p d s cs t
  pub quiet : (c : Cell) → IsGlobal c → ((v : ℕ) → Done c v → ⊥) → chunk_writes c cs ≡ 0
  pub once : (c : Cell) (v : ℕ) → IsGlobal c → Done c v → chunk_writes c cs ≡ 1
  pub holds : (c : Cell) (v : ℕ) → IsGlobal c → Done c v → t.memory c ≡ v
  pub kept : (c : Cell) → IsGlobal c → chunk_writes c cs ≡ 0 → t.memory c ≡ s.memory c
  pub inputs : (c : Cell) → is_input c.array ≡ true → t.memory c ≡ s.memory c

-- no cell is to be written
abbrev pub Nothing : Cell → ℕ → Type 0
Nothing c v = ⊥

-- done by one of the first n
abbrev pub DoneBy : (ℕ → Cell → ℕ → Type 0) → ℕ → Cell → ℕ → Type 0
DoneBy done n c v = (t : ℕ) × (t < n) × done t c v

-- items of other groups and their epochs are as they were
pub record LeavesOtherGroups (d : Device) (g : ℕ) (s t : State) : Type 0 where
  pub items : (i : ℕ) → (group_of d.launch i ≡ g → ⊥) → t.items i ≡ s.items i
  pub epochs : (h : ℕ) → (h ≡ g → ⊥) → t.epochs h ≡ s.epochs h
