-- How the items and the groups of a launch are numbered.
use Rattle.std.specs.Prelude.{◌≡◌, ℕ, ◌+◌, ◌*◌, ◌/◌, ◌%◌, ◌<◌, ◌≤◌}
use Rattle.kernel_tree.specs.Launch.{Launch, item_count, group_size, groups_across, groups_down, group_count, item_at, group_at, group_of, first_item, ids_of, flat_ids}

-- the j-th item of a group, whose items are numbered row by row
abbrev pub member_at : Launch → (group : ℕ) → ℕ → ℕ
member_at l g j = first_item l g + item_at l (j % l.local.0) (j / l.local.0)

-- an item's number in its group
abbrev pub number_in_group : Launch → ℕ → ℕ
number_in_group l k = (ids_of l k).x.local_id + (ids_of l k).y.local_id * l.local.0

-- the items of a group are its members, each once
pub record Members (l : Launch) (g : ℕ) : Type 0 where
  pub inside : (j : ℕ) → j < group_size l → group_of l (member_at l g j) ≡ g
  pub every : (k : ℕ) → group_of l k ≡ g
      → (number_in_group l k < group_size l) × (k ≡ member_at l g (number_in_group l k))
  pub differ : (i j : ℕ) → i < group_size l → j < group_size l
      → member_at l g i ≡ member_at l g j → i ≡ j

-- the item with these global ids, and no other, has them
pub record HasIds (l : Launch) (x y : ℕ) : Type 0 where
  pub within : item_at l x y < item_count l
  pub column : (ids_of l (item_at l x y)).x.global_id ≡ x
  pub row : (ids_of l (item_at l x y)).y.global_id ≡ y

-- the items of the group with these ids, and no others, know them
pub record HasGroupIds (l : Launch) (x y : ℕ) : Type 0 where
  pub within : group_at l x y < group_count l
  pub known : (k : ℕ) → group_of l k ≡ group_at l x y
      → ((ids_of l k).x.group_id ≡ x) × ((ids_of l k).y.group_id ≡ y)

-- each group has its first item, the least of its items; in each dimension an item's global id is
-- its group's id times the group's size and its local id; an item's ids and its number tell each
-- other, and so do a group's
pub record LaidOut (l : Launch) : Type 0 where
  pub first : (g : ℕ) → group_of l (first_item l g) ≡ g
  pub items : (g k : ℕ) → g < group_count l → group_of l k ≡ g → k < item_count l
  pub groups : (k : ℕ) → k < item_count l → group_of l k < group_count l
  pub least : (k : ℕ) → k < item_count l → first_item l (group_of l k) ≤ k
  pub columns : (k : ℕ)
      → (ids_of l k).x.global_id ≡ (ids_of l k).x.group_id * l.local.0 + (ids_of l k).x.local_id
  pub rows : (k : ℕ)
      → (ids_of l k).y.global_id ≡ (ids_of l k).y.group_id * l.local.1 + (ids_of l k).y.local_id
  pub item : (k : ℕ) → item_at l (ids_of l k).x.global_id (ids_of l k).y.global_id ≡ k
  pub ids : (x y : ℕ) → x < l.global.0 → y < l.global.1 → HasIds l x y
  pub group : (k : ℕ)
      → group_at l (ids_of l k).x.group_id (ids_of l k).y.group_id ≡ group_of l k
  pub group_ids : (x y : ℕ) → x < groups_across l → y < groups_down l → HasGroupIds l x y
  pub group_columns : (k : ℕ) → k < item_count l
      → (ids_of l k).x.group_id ≡ group_of l k % groups_across l
  pub group_rows : (k : ℕ) → k < item_count l
      → (ids_of l k).y.group_id ≡ group_of l k / groups_across l
  pub members : (g : ℕ) → g < group_count l → Members l g

-- in a launch of one row all that is told by two sizes alone
pub record LaidInARow (l : Launch) : Type 0 where
  pub items : item_count l ≡ l.global.0
  pub groups : group_count l ≡ l.global.0 / l.local.0
  pub group : (k : ℕ) → group_of l k ≡ k / l.local.0
  pub first : (g : ℕ) → first_item l g ≡ g * l.local.0
  pub local : (k : ℕ) → (ids_of l k).x.local_id ≡ k % l.local.0
  pub ids : (k : ℕ) → k < l.global.0 → ids_of l k ≡ flat_ids l k
