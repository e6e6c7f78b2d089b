-- Rows of cells in one list.
use Rattle.std.specs.Prelude.{◌≡◌, ℕ, zero, suc, ◌+◌, ◌*◌, ◌<◌, ◌^◌, ◌&&◌, Bool, true, List, [], ◌∷◌, Some, length, map, slice_get, slice_index, nat_lt}
use Rattle.race_marks.specs.declared.rows.Row.{Row}

-- rows of these lengths, once for each of so many homes
pub record Shape : Type 0 where
  pub homes : ℕ
  pub lengths : List ℕ

-- how many cells the first rows of a home have
abbrev pub cells_of : List ℕ → (rows : ℕ) → ℕ
cells_of ns zero = 0
cells_of [] (suc r) = 0
cells_of (n ∷ ns) (suc r) = n + cells_of ns r

-- how many cells a home has
abbrev pub width : Shape → ℕ
width v = cells_of v.lengths (length v.lengths)

-- how many cells all homes have
abbrev pub cell_count : Shape → ℕ
cell_count v = v.homes * width v

-- whether the row has the cell at the home
abbrev pub is_placed : Shape → (row home index : ℕ) → Bool
is_placed v r h i = nat_lt h v.homes && nat_lt i (slice_index v.lengths r)

-- the place in the list of the cell at this index of the row, in this home
abbrev pub place_at : Shape → (row home index : ℕ) → ℕ
place_at v r h i = h * width v + (cells_of v.lengths r + i)

-- each cell has a place of its own
pub record ArePlaced (v : Shape) : Type 0 where
  pub within : (r h i : ℕ) → is_placed v r h i ≡ true → place_at v r h i < cell_count v
  pub apart : (r h i q g j : ℕ) → is_placed v r h i ≡ true → is_placed v q g j ≡ true
      → place_at v r h i ≡ place_at v q g j → (r ≡ q) × (h ≡ g) × (i ≡ j)

-- the rows' lengths, in one home
abbrev pub lengths_of : List Row → List ℕ
lengths_of rows = map (λ row. row.length) rows

-- each row begins where those before it end
pub record AreLaid (homes : ℕ) (rows : List Row) (width : ℕ) : Type 0 where
  pub starts : (r : ℕ) (row : Row) → slice_get rows r ≡ Some row
      → row.start ≡ cells_of (lengths_of rows) r
  pub whole : width ≡ cells_of (lengths_of rows) (length rows)
  pub fits : homes * width < 2 ^ 64
