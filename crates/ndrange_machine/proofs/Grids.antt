-- The items of a group of the machine's launch.
use Rattle.std.proofs.Common.{◌≡◌, ℕ, ◌+◌, ◌<◌, ◌≤◌, List, [], ◌∷◌, ◌++◌, length, sym, ap, ◌∙◌, subst, ⊎_elim, arith, length-append}
use Rattle.std.specs.Prelude.{slice_index}
use Rattle.std.proofs.Math.Nat.{div-le_self}
use Rattle.std.proofs.lemmas.Bool.{cases_lt}
use Rattle.std.proofs.lemmas.List.{get_or_append_left, get_or_push}
use Rattle.std.proofs.lemmas.Nat.{mul-le}
use Rattle.kernel_tree.specs.Launch.{Launch, IsWhole, item_count, group_count, group_size, group_of, groups_across, groups_down}
use Rattle.kernel_tree.specs.Numbering.{Members, member_at}
use Rattle.kernel_tree.proofs.Grouping.{members, in_launch, group_in_launch}
use Rattle.enabled_events.specs.declared.grid.Grid.{Grid}
use Rattle.enabled_events.specs.Grids.{grid_of, laid, IsSmall}
use Rattle.ndrange_machine.specs.Known.{AreGroups}
use Rattle.ndrange_machine.specs.declared.machine.Machine.{Machine}

pub whole_of : (l : Launch) → IsSmall (grid_of l) → IsWhole l
whole_of l small = record { x = small.whole.x; y = small.whole.y }

pub group_members : (m : Machine) (g : ℕ) → g < group_count m.launch → Members m.launch g
group_members m g lt = members m.launch (whole_of m.launch m.small) g lt

pub member_there : (m : Machine) (g : ℕ) → g < group_count m.launch → (j : ℕ) → j < group_size m.launch → member_at m.launch g j < item_count m.launch
member_there m g lt j low = in_launch m.launch (whole_of m.launch m.small) g (member_at m.launch g j) lt ((group_members m g lt).inside j low)

-- an item's group
pub group_there : (m : Machine) (j g : ℕ) → j < item_count m.launch → g ≡ group_of m.launch j → g < group_count m.launch
group_there m j g lt is = subst (λ n. n < group_count m.launch) (sym is) (group_in_launch m.launch (whole_of m.launch m.small) j lt)

-- the marks are of each group
pub group_marked : (m : Machine) (j : ℕ) → j < item_count m.launch → group_of m.launch j < m.marks.groups
group_marked m j lt = subst (λ n. group_of m.launch j < n) (sym m.marked_groups) (group_in_launch m.launch (whole_of m.launch m.small) j lt)

-- there are no more groups than items
few_groups : (grid : Grid) → group_count (laid grid) ≤ item_count (laid grid)
few_groups grid =
    let a : groups_across (laid grid) ≤ grid.global.0 = div-le_self grid.global.0 grid.local.0 in
    let b : groups_down (laid grid) ≤ grid.global.1 = div-le_self grid.global.1 grid.local.1 in
    mul-le (groups_across (laid grid)) (groups_down (laid grid)) grid.global.0 grid.global.1 a b

pub group_low : (grid : Grid) → IsSmall grid → (k : ℕ) → k < item_count (laid grid) → group_of (laid grid) k < 65536
group_low grid small k lt =
    let a = group_in_launch (laid grid) small.whole k lt in
    let b = few_groups grid in
    let c = small.few in
    omega arith

-- the groups of the first items, and the next one's
pub more_groups : (grid : Grid) (n g : ℕ) (groups new : List ℕ) → AreGroups grid n groups → g ≡ group_of (laid grid) n → new ≡ groups ++ g ∷ [] → AreGroups grid (n + 1) new
more_groups grid n g groups new h own is = record {
  count_is = ap length is ∙ length-append groups (g ∷ []) ∙ ap (λ m. m + 1) h.count_is;
  each = λ j lt. ap (λ xs. slice_index xs j) is ∙ ⊎_elim
      (λ low. get_or_append_left groups (g ∷ []) 0 j (let e = h.count_is in omega arith) ∙ h.each j low)
      (λ high. let e : j ≡ n = omega arith in get_or_push groups g 0 j (h.count_is ∙ sym e) ∙ own ∙ ap (group_of (laid grid)) (sym e))
      (cases_lt j n);
}
