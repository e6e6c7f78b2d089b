-- How the machine's work-items lie in a few lists.
use Rattle.std.specs.Prelude.{◌≡◌, ℕ, ◌+◌, ◌*◌, ◌≤◌, List, Some, length, map, take, drop, nat_lt, slice_get, slice_set, if◌then◌else◌}
use Rattle.std.specs.List.{enumerate_from}
use Rattle.ndrange_machine.specs.declared.items.Items.TheInside.{Inside}
use Rattle.ndrange_machine.specs.declared.items.Place.{Place}
use Rattle.ndrange_machine.specs.ItemView.{ItemView}
use Rattle.ndrange_machine.specs.Known.{vars_of}

-- the part of this number, where each part has so many cells
abbrev pub part : {A : Type 0} → List A → (width number : ℕ) → List A
part cells width number = take width (drop (number * width) cells)

-- with a cell at a place of the part of this number, if it has such a place
abbrev pub with_cell : {A : Type 0} → List A → (width number place : ℕ) → A → List A
with_cell cells width number at cell =
    if nat_lt at width then slice_set cells (number * width + at) cell else cells

-- the item of this number, which stands here
abbrev pub item_at : Inside → (number : ℕ) → Place → ItemView
item_at x j p = record {
  line = p.line;
  turns = take p.inside (part x.turns.items x.depth j);
  room = x.depth;
  vars = vars_of (part x.words.items x.variables j) (part x.vectors.items x.fours j);
}

-- the machine's work-items, by number, each with its part of every list
abbrev pub items_of : Inside → List ItemView
items_of x = map (λ e. item_at x e.0 e.1) (enumerate_from 0 x.places.items)

-- no item is in more loops than it has room for, and each has its part of each list
pub record AreLaid (x : Inside) : Type 0 where
  pub inside : (j : ℕ) (p : Place) → slice_get x.places.items j ≡ Some p → p.inside ≤ x.depth
  pub turns : length x.turns.items ≡ length x.places.items * x.depth
  pub words : length x.words.items ≡ length x.places.items * x.variables
  pub vectors : length x.vectors.items ≡ length x.places.items * x.fours
