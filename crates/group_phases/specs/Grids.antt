-- Two strided walks, the one along a row and the other from row to row, as the items of a launch
-- and the items of a group take the places of a grid. A walk in one dimension is one in a grid of
-- one row, from row 0 by 1.
use Rattle.std.specs.Prelude.{◌≡◌, ℕ, ◌+◌, ◌*◌, ◌/◌, ◌%◌, ◌<◌}
use Rattle.kernel_tree.specs.Launch.{Launch, ids_of, groups_across, groups_down}
use Rattle.kernel_tree.specs.Strides.{turns_of}

-- so many rows, each of so many places
pub record Grid : Type 0 where
  pub rows : ℕ
  pub columns : ℕ

-- one row
abbrev pub one_row : (columns : ℕ) → Grid
one_row n = record { rows = 1; columns = n }

-- how many places it has; they are numbered row by row
abbrev pub places : Grid → ℕ
places g = g.rows * g.columns

-- where a walk begins in each dimension, and how far its turns are from one another
pub record Walk : Type 0 where
  pub row : ℕ
  pub column : ℕ
  pub down : ℕ
  pub across : ℕ

-- it begins within its first step
pub record IsWalk (w : Walk) : Type 0 where
  pub row : w.row < w.down
  pub column : w.column < w.across

-- how many rows it takes
abbrev pub rows_taken : Grid → Walk → ℕ
rows_taken g w = turns_of g.rows w.down w.row

-- and how many places of each
abbrev pub columns_taken : Grid → Walk → ℕ
columns_taken g w = turns_of g.columns w.across w.column

-- how many places in all
abbrev pub places_taken : Grid → Walk → ℕ
places_taken g w = rows_taken g w * columns_taken g w

-- the row of its t-th place
abbrev pub row_taken : Grid → Walk → (t : ℕ) → ℕ
row_taken g w t = w.row + (t / columns_taken g w) * w.down

-- the column of its t-th place
abbrev pub column_taken : Grid → Walk → (t : ℕ) → ℕ
column_taken g w t = w.column + (t % columns_taken g w) * w.across

-- and the place's number
abbrev pub place_taken : Grid → Walk → (t : ℕ) → ℕ
place_taken g w t = row_taken g w t * g.columns + column_taken g w t

-- a walk takes this place at one of its turns
pub record Takes (g : Grid) (w : Walk) (place : ℕ) : Type 0 where
  pub turn : ℕ
  pub within : turn < places_taken g w
  pub is : place_taken g w turn ≡ place

-- the place lies on the walk: in each dimension it is where the walk begins, but for whole steps
pub record IsOn (g : Grid) (w : Walk) (place : ℕ) : Type 0 where
  pub row : (place / g.columns) % w.down ≡ w.row
  pub column : (place % g.columns) % w.across ≡ w.column

-- how the k-th item of a launch takes the places of a map over the launch
abbrev pub launch_walk : Launch → ℕ → Walk
launch_walk l k = record {
  row = (ids_of l k).y.global_id;
  column = (ids_of l k).x.global_id;
  down = l.global.1;
  across = l.global.0;
}

-- how a group takes those of a map over groups
abbrev pub group_walk : Launch → (group : ℕ) → Walk
group_walk l g = record {
  row = g / groups_across l;
  column = g % groups_across l;
  down = groups_down l;
  across = groups_across l;
}

-- and how the k-th item, of a map over the items of its group
abbrev pub local_walk : Launch → ℕ → Walk
local_walk l k = record {
  row = (ids_of l k).y.local_id;
  column = (ids_of l k).x.local_id;
  down = l.local.1;
  across = l.local.0;
}

-- what a walk takes is a place of the grid that lies on it
abbrev pub WalksStayOn : Type 0
WalksStayOn =
    (g : Grid) (w : Walk) → IsWalk w → (t : ℕ) → t < places_taken g w
    → (place_taken g w t < places g) × IsOn g w (place_taken g w t)

-- at no two turns the same
abbrev pub WalksTakeOnce : Type 0
WalksTakeOnce =
    (g : Grid) (w : Walk) → IsWalk w → (t u : ℕ) → t < places_taken g w → u < places_taken g w
    → place_taken g w t ≡ place_taken g w u → t ≡ u

-- and each that lies on it
abbrev pub WalksTakeEach : Type 0
WalksTakeEach =
    (g : Grid) (w : Walk) → IsWalk w → (i : ℕ) → i < places g → IsOn g w i → Takes g w i

-- in a grid of one row, from its beginning by one row, it is a walk in one dimension
abbrev pub OneRowsAreWalked : Type 0
OneRowsAreWalked =
    (n : ℕ) (w : Walk) → IsWalk w → w.row ≡ 0 → w.down ≡ 1
    → (places_taken (one_row n) w ≡ turns_of n w.across w.column)
    × ((t : ℕ) → t < turns_of n w.across w.column
    → place_taken (one_row n) w t ≡ w.column + t * w.across)
