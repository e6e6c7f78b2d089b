-- The owner of a scalar is a work-item of the launch.
use Rattle.std.proofs.Common.{◌≡◌, ℕ, zero, suc, ◌+◌, ◌*◌, ◌/◌, ◌%◌, ◌<◌, List, [], ◌∷◌, sym, ap, ◌∙◌, subst, arith}
use Rattle.std.proofs.Math.Nat.{mod-lt}
use Rattle.lift_tree.specs.declared.term.Level.TheVariants as level
use Rattle.lift_tree.specs.declared.term.Dimension.TheVariants.{X, Y}
use Rattle.kernel_tree.specs.Launch.{Launch, IsWhole, item_count, column_of, row_of, groups_across, groups_down}
use Rattle.kernel_tree.proofs.Grouping.{some_items, item_with_ids}
use Rattle.lift_ir.specs.Layouts.{operand_position}
use Rattle.lift_ir.specs.Terms.{Term, Over, Reshape, LetArray, Map}
use Rattle.lift_ir.specs.Owner.{local_along, owner_along, owner}
use Rattle.lift_ir.proofs.Positions.{join_in, some_first}

local_owner_below : {A : Type 0} (num : A → ℕ) (l : Launch) (t : Term A) (q : List ℕ) → 0 < l.local.0 → local_along X num l t q < l.local.0
local_owner_below num l (Reshape y t) q h = local_owner_below num l t (operand_position num y q) h
local_owner_below num l (LetArray v b) q h = local_owner_below num l b q h
local_owner_below num l (Map (Over level.Items X) n loads xs b) (j ∷ q) h = mod-lt j h
local_owner_below num l (Map (Over level.Items _) n loads xs b) [] h = h
local_owner_below num l (Map (Over level.Items Y) n loads xs b) (j ∷ q) h = local_owner_below num l b q h
local_owner_below num l _ q h = h

local_row_below : {A : Type 0} (num : A → ℕ) (l : Launch) (t : Term A) (q : List ℕ) → 0 < l.local.1 → local_along Y num l t q < l.local.1
local_row_below num l (Reshape y t) q h = local_row_below num l t (operand_position num y q) h
local_row_below num l (LetArray v b) q h = local_row_below num l b q h
local_row_below num l (Map (Over level.Groups X) n loads xs b) [] h = h
local_row_below num l (Map (Over level.Groups X) n loads xs b) (i ∷ q) h = local_row_below num l b q h
local_row_below num l (Map (Over level.Items Y) n loads xs b) [] h = h
local_row_below num l (Map (Over level.Items Y) n loads xs b) (j ∷ q) h = mod-lt j h
local_row_below num l _ q h = h

-- the column is one of the launch
pub column_below : {A : Type 0} (num : A → ℕ) (l : Launch) (t : Term A) (q : List ℕ) → IsWhole l → 0 < l.global.0 → owner_along X num l t q < l.global.0
column_below num l (Reshape y t) q w h = column_below num l t (operand_position num y q) w h
column_below num l (LetArray v b) q w h = column_below num l b q w h
column_below num l (Map (Over level.Launch X) n loads xs b) (i ∷ q) w h = mod-lt i h
column_below num l (Map (Over level.Groups X) n loads xs b) (i ∷ q) w h =
    let some = some_first (groups_across l) l.local.0 l.global.0 w.x.divides h in
    subst (λ g. (i % groups_across l) * l.local.0 + local_along X num l b q < g) (sym w.x.divides) (join_in (i % groups_across l) (local_along X num l b q) l.local.0 (groups_across l) (mod-lt i some) (local_owner_below num l b q w.x.positive))
column_below num l (Map (Over level.Launch _) n loads xs b) [] w h = h
column_below num l (Map (Over level.Launch Y) n loads xs b) (i ∷ q) w h = column_below num l b q w h
column_below num l (Map (Over level.Groups _) n loads xs b) [] w h = h
column_below num l (Map (Over level.Groups Y) n loads xs b) (i ∷ q) w h = column_below num l b q w h
column_below num l _ q w h = h

-- and so is the row
pub row_below : {A : Type 0} (num : A → ℕ) (l : Launch) (t : Term A) (q : List ℕ) → IsWhole l → 0 < l.global.1 → owner_along Y num l t q < l.global.1
row_below num l (Reshape y t) q w h = row_below num l t (operand_position num y q) w h
row_below num l (LetArray v b) q w h = row_below num l b q w h
row_below num l (Map (Over level.Launch Y) n loads xs b) [] w h = h
row_below num l (Map (Over level.Launch Y) n loads xs b) (i ∷ q) w h = mod-lt i h
row_below num l (Map (Over level.Groups Y) n loads xs b) [] w h = h
row_below num l (Map (Over level.Groups Y) n loads xs b) (i ∷ q) w h =
    let some = some_first (groups_down l) l.local.1 l.global.1 w.y.divides h in
    subst (λ g. (i % groups_down l) * l.local.1 + local_along Y num l b q < g) (sym w.y.divides) (join_in (i % groups_down l) (local_along Y num l b q) l.local.1 (groups_down l) (mod-lt i some) (local_row_below num l b q w.y.positive))
row_below num l _ q w h = h

some_rows : (n m : ℕ) → 0 < n * m → 0 < m
some_rows n zero h = let z : n * 0 ≡ 0 = omega arith in absurd (omega arith)
some_rows n (suc m) h = omega arith

-- the item is one of the launch
pub owner_below : {A : Type 0} (num : A → ℕ) (l : Launch) (t : Term A) (q : List ℕ) → IsWhole l → 0 < item_count l → owner num l t q < item_count l
owner_below num l t q w h =
    (item_with_ids l w (owner_along X num l t q) (owner_along Y num l t q) (column_below num l t q w (some_items l w 0 h)) (row_below num l t q w (some_rows l.global.0 l.global.1 h))).within

-- and it alone is in that column and that row
pub owner_is : {A : Type 0} (num : A → ℕ) (l : Launch) (t : Term A) (q : List ℕ) (k : ℕ) → owner_along X num l t q ≡ column_of l k → owner_along Y num l t q ≡ row_of l k → owner num l t q ≡ k
owner_is num l t q k c r = ap (λ z. z + owner_along Y num l t q * l.global.0) c ∙ ap (λ z. column_of l k + z * l.global.0) r ∙ parts k l.global.0
  where
    parts : (k g : ℕ) → k % g + (k / g) * g ≡ k
    parts k g = omega arith

pub owner_column : {A : Type 0} (num : A → ℕ) (l : Launch) (t : Term A) (q : List ℕ) (k : ℕ) → IsWhole l → k < item_count l → owner num l t q ≡ k → owner_along X num l t q ≡ column_of l k
owner_column num l t q k w h e =
    let x = item_with_ids l w (owner_along X num l t q) (owner_along Y num l t q) (column_below num l t q w (some_items l w k h)) (row_below num l t q w (some_rows l.global.0 l.global.1 (omega arith))) in
    sym x.column ∙ ap (column_of l) e

pub owner_row : {A : Type 0} (num : A → ℕ) (l : Launch) (t : Term A) (q : List ℕ) (k : ℕ) → IsWhole l → k < item_count l → owner num l t q ≡ k → owner_along Y num l t q ≡ row_of l k
owner_row num l t q k w h e =
    let x = item_with_ids l w (owner_along X num l t q) (owner_along Y num l t q) (column_below num l t q w (some_items l w k h)) (row_below num l t q w (some_rows l.global.0 l.global.1 (omega arith))) in
    sym x.row ∙ ap (row_of l) e
