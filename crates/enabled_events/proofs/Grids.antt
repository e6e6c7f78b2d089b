-- How the items of a grid lie in groups, and that all their numbers are small.
use Rattle.std.proofs.Common.{◌≤◌, ◌<◌, ◌*◌, ℕ, zero, suc, arith}
use Rattle.std.proofs.Math.Nat.{div-le_self, le-mul_of_pos_right}
use Rattle.std.proofs.lemmas.Nat.{mul-le}
use Rattle.kernel_tree.specs.Launch.{item_count, group_count, group_of, group_size, first_item, groups_across, groups_down}
use Rattle.kernel_tree.specs.Numbering.{member_at}
use Rattle.kernel_tree.proofs.Grouping.{first_in_launch, laid_out, some_items}
use Rattle.enabled_events.specs.declared.grid.Grid.{Grid}
use Rattle.enabled_events.specs.Grids.{laid, IsSmall}

-- a group isn't empty, so that there are no more groups than items
pub few_groups : (grid : Grid) → IsSmall grid → group_count (laid grid) ≤ item_count (laid grid)
few_groups grid small =
    let a : groups_across (laid grid) ≤ grid.global.0 = div-le_self grid.global.0 grid.local.0 in
    let b : groups_down (laid grid) ≤ grid.global.1 = div-le_self grid.global.1 grid.local.1 in
    mul-le (groups_across (laid grid)) (groups_down (laid grid)) grid.global.0 grid.global.1 a b

-- a factor of a product, where the other isn't 0
pub factor_low : (n m b : ℕ) → n * m ≤ b → 0 < m → n ≤ b
factor_low n m b le some = let e = le-mul_of_pos_right n some in omega arith

factor_some : (n m : ℕ) → 0 < n * m → 0 < n
factor_some zero m lt = omega arith
factor_some (suc n) m lt = omega arith

module _ (grid : Grid) (small : IsSmall grid) where
  pub group_low : (k : ℕ) → k < item_count (laid grid) → group_of (laid grid) k < 65536
  group_low k lt =
      let a = (laid_out (laid grid) small.whole).groups k lt in
      let b = few_groups grid small in
      let c = small.few in
      omega arith

  pub first_low : (g : ℕ) → g < group_count (laid grid) → first_item (laid grid) g < 65536
  first_low g lt =
      let a = first_in_launch (laid grid) small.whole g lt in
      let c = small.few in
      omega arith

  pub member_low : (g j : ℕ) → g < group_count (laid grid) → j < group_size (laid grid) → member_at (laid grid) g j < 65536
  member_low g j lt jl =
      let all = laid_out (laid grid) small.whole in
      let a = all.items g (member_at (laid grid) g j) lt ((all.members g lt).inside j jl) in
      let c = small.few in
      omega arith

  pub wide : (g : ℕ) → g < group_count (laid grid) → 0 < grid.global.0
  wide g lt = some_items (laid grid) small.whole (first_item (laid grid) g) (first_in_launch (laid grid) small.whole g lt)

  pub across_some : (g : ℕ) → g < group_count (laid grid) → 0 < groups_across (laid grid)
  across_some g lt = factor_some (groups_across (laid grid)) (groups_down (laid grid)) (let p : 0 < groups_across (laid grid) * groups_down (laid grid) = omega arith in p)
