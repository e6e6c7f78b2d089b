-- Launches, and how a launch makes up work-groups of its work-items. Items and groups lie in rows:
-- dimension 0 counts along a row, dimension 1 counts the rows.
use Rattle.std.specs.Prelude.{◌≡◌, ℕ, ◌+◌, ◌*◌, ◌/◌, ◌%◌, ◌<◌, ◌≤◌, List, length, Option, Some, None}
use Rattle.kernel_tree.specs.Formula.{Ids, ids_along}
use Rattle.kernel_tree.specs.Code.{Kernel}
use Rattle.kernel_tree.specs.Grammar.{largest_group}

-- how many items there are, and of them in a group, in dimensions 0 and 1; and a word for each size
pub record Launch : Type 0 where
  pub global : ℕ × ℕ
  pub local : ℕ × ℕ
  pub sizes : List ℕ

-- a launch of one row
abbrev pub in_a_row : (global local : ℕ) → (sizes : List ℕ) → Launch
in_a_row global local sizes = record { global = (global, 1); local = (local, 1); sizes = sizes }

-- what memory begins with: of each input and output its cells, and the word everywhere else
pub record Cells : Type 0 where
  pub ins : List (List ℕ)
  pub outs : List (List ℕ)
  pub rest : ℕ

-- how many items there are in all
abbrev pub item_count : Launch → ℕ
item_count l = l.global.0 * l.global.1

-- how many items a group has
abbrev pub group_size : Launch → ℕ
group_size l = l.local.0 * l.local.1

-- how many groups lie in a row
abbrev pub groups_across : Launch → ℕ
groups_across l = l.global.0 / l.local.0

-- how many rows of groups there are
abbrev pub groups_down : Launch → ℕ
groups_down l = l.global.1 / l.local.1

-- how many groups there are in all
abbrev pub group_count : Launch → ℕ
group_count l = groups_across l * groups_down l

-- the number of the item in this column and this row: items are numbered row by row
abbrev pub item_at : Launch → (column row : ℕ) → ℕ
item_at l column row = column + row * l.global.0

-- the column of the k-th item
abbrev pub column_of : Launch → ℕ → ℕ
column_of l k = k % l.global.0

-- the row of the k-th item
abbrev pub row_of : Launch → ℕ → ℕ
row_of l k = k / l.global.0

-- the number of the group in this column and this row of groups: groups are numbered row by row too
abbrev pub group_at : Launch → (column row : ℕ) → ℕ
group_at l column row = column + row * groups_across l

-- the number of an item's group
abbrev pub group_of : Launch → ℕ → ℕ
group_of l k = group_at l (column_of l k / l.local.0) (row_of l k / l.local.1)

-- the first item of a group
abbrev pub first_item : Launch → ℕ → ℕ
first_item l g = item_at l ((g % groups_across l) * l.local.0) ((g / groups_across l) * l.local.1)

-- what the k-th work-item knows
abbrev pub ids_of : Launch → ℕ → Ids
ids_of l k = record {
  x = ids_along l.global.0 l.local.0 (column_of l k);
  y = ids_along l.global.1 l.local.1 (row_of l k);
  sizes = l.sizes;
}

-- so many items make up groups, all of this size
pub record IsDivided (global local : ℕ) : Type 0 where
  pub positive : 0 < local
  pub divides : global ≡ (global / local) * local

-- there are groups, all of one size
pub record IsWhole (l : Launch) : Type 0 where
  pub x : IsDivided l.global.0 l.local.0
  pub y : IsDivided l.global.1 l.local.1

-- all items lie in one row
pub record IsFlat (l : Launch) : Type 0 where
  pub one_row : l.global.1 ≡ 1
  pub one_local_row : l.local.1 ≡ 1

-- what the k-th item of a launch of one row knows
abbrev pub flat_ids : Launch → ℕ → Ids
flat_ids l k = record {
  x = ids_along l.global.0 l.local.0 k;
  y = ids_along 1 1 0;
  sizes = l.sizes;
}

-- the group's size is the one that the kernel asks for, where it asks for one
abbrev pub HasLocal : Option (ℕ × ℕ) → Launch → Type 0
HasLocal None l = Unit {0}
HasLocal (Some size) l = l.local ≡ size

-- the kernel may be started at this launch with these cells: groups are whole and small, and of the
-- kernel's own size where it has one; items are few, and the counts agree
pub record MayStart (k : Kernel) (l : Launch) (c : Cells) : Type 0 where
  pub whole : IsWhole l
  pub small_groups : group_size l ≤ largest_group
  pub few_items : item_count l ≤ 65536
  pub local : HasLocal k.local l
  pub sizes : length l.sizes ≡ k.sizes
  pub ins : length c.ins ≡ k.inputs
  pub outs : length c.outs ≡ k.outputs
