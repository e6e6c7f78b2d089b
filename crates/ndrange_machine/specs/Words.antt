-- The words of rows of cells, which each of several homes has.
use Rattle.std.specs.Prelude.{◌≡◌, ℕ, List, Option, Some, None, nat_lt, slice_index, ◌&&◌, if◌then◌else◌}
use Rattle.race_marks.specs.Rows.{Shape, is_placed, place_at}

-- rows of cells, once for each of so many homes, and the words in them
pub record Words : Type 0 where
  pub shape : Shape
  pub words : List ℕ

-- the word at this index of a row of the home, if there is one
abbrev pub word_at : Words → (home row index : ℕ) → Option ℕ
word_at v h a i =
    if is_placed v.shape a h i then Some (slice_index v.words (place_at v.shape a h i)) else None

-- so many homes have rows of these lengths, and each cell has the word
abbrev pub AreFilled : Words → (homes : ℕ) → (lengths : List ℕ) → (word : ℕ) → Type 0
AreFilled v homes lengths word = (h a i : ℕ) → word_at v h a i
    ≡ (if nat_lt h homes && nat_lt i (slice_index lengths a) then Some word else None)
