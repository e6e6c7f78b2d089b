-- Cells that a body reads and writes, and whose they are.
use Rattle.std.specs.Prelude.{◌≡◌, ℕ, ◌<◌, length, slice_index}
use Rattle.kernel_tree.specs.Code.{Input, Output, Local}
use Rattle.kernel_tree.specs.Launch.{Cells}
use Rattle.kernel_tree.specs.Device.{Cell, row}

-- a cell of an input, by their numbers
abbrev pub input_cell : (array index : ℕ) → Cell
input_cell a i = record { array = Input a; home = 0; index = i }

-- of an output
abbrev pub output_cell : (array index : ℕ) → Cell
output_cell a i = record { array = Output a; home = 0; index = i }

-- of a local array of a group
abbrev pub local_cell : (group array index : ℕ) → Cell
local_cell g a i = record { array = Local a; home = g; index = i }

-- an input's cell, whose value is the word that the input has there
pub record IsGivenInput (c : Cells) (value : Cell → ℕ) (b : Cell) : Type 0 where
  pub array : ℕ
  pub index : ℕ
  pub is : b ≡ input_cell array index
  pub within : index < length (row c.ins array)
  pub has : value b ≡ slice_index (row c.ins array) index

-- an output's cell whose owner is the k-th item
pub record IsOwnOutput (owner : (array index : ℕ) → ℕ) (k : ℕ) (b : Cell) : Type 0 where
  pub array : ℕ
  pub index : ℕ
  pub is : b ≡ output_cell array index
  pub owned : owner array index ≡ k
