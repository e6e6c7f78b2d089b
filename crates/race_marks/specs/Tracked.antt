-- The marks of rows of cells.
use Rattle.std.specs.Prelude.{ℕ, ◌&&◌, Bool, List, map, slice_index_or, slice_set, if◌then◌else◌}
use Rattle.race_marks.specs.Marks.{Mark, Untouched, races, noted, released}
use Rattle.race_marks.specs.declared.marks.Touch.{Touch}
use Rattle.race_marks.specs.Rows.{Shape, is_placed, place_at}

-- cells in rows, that items of so many groups touch
pub record Kept : Type 0 where
  pub groups : ℕ
  pub shape : Shape
  pub marks : List Mark

-- the mark of the cell at this index of the row, in this home
abbrev pub mark_at : Kept → (row home index : ℕ) → Mark
mark_at v r h i = slice_index_or v.marks (place_at v.shape r h i) Untouched

-- whether the access races
abbrev pub is_race : Kept → (row home index : ℕ) → Touch → Bool
is_race v r h i t = is_placed v.shape r h i && races (mark_at v r h i) t.group t.item t.writes

-- after the access of a cell
abbrev pub with_access : Kept → (row home index : ℕ) → Touch → Kept
with_access v r h i t = record {
  groups = v.groups;
  shape = v.shape;
  marks =
      slice_set v.marks (place_at v.shape r h i) (noted (mark_at v r h i) t.group t.item t.writes);
}

-- after the access, where it is of one of the cells and no race
abbrev pub touched : Kept → (row home index : ℕ) → Touch → Kept
touched v r h i t =
    if is_placed v.shape r h i then
    (if races
    (mark_at v r h i) t.group t.item t.writes then v else with_access v r h i t) else v

-- after a release of the group, with the cells' flag or without
abbrev pub after_release : Kept → (group : ℕ) → (flagged : Bool) → Kept
after_release v g flagged =
    record {
      groups = v.groups;
      shape = v.shape;
      marks = if flagged then map
          (released g) v.marks else v.marks;
    }
