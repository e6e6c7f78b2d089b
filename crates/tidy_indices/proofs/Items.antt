-- What is known of a work-item's ids, at a launch of a kernel that may ask for a size of groups.
use Rattle.std.proofs.Common.{◌≡◌, ℕ, zero, suc, ◌*◌, ◌/◌, ◌%◌, ◌^◌, ◌<◌, ◌≤◌, Option, Some, None, List, refl, ap, ◌∙◌, subst, arith}
use Rattle.std.proofs.Math.Nat.{mod-lt, div-le_self, le-mul_of_pos_right, mul_comm}
use Rattle.kernel_tree.specs.Formula.{Ids, IdsAlong, ids_along, sizes_alone}
use Rattle.kernel_tree.specs.Launch.{Launch, IsDivided, HasLocal, item_count, column_of, row_of, ids_of}
use Rattle.kernel_tree.proofs.Grouping.{row_below}
use Rattle.tidy_indices.specs.Places.{size_across, size_down}
use Rattle.tidy_indices.specs.Laws.{IsLaunchFor}

-- what an item's id in its group is below
abbrev pub limit : Option ℕ → ℕ
limit (Some size) = size
limit None = 4294967296

pub record AreIdsAlong (size : Option ℕ) (ids : IdsAlong) : Type 0 where
  pub group : ids.group_id < 65536
  pub own : ids.local_id < limit size
  pub fits : limit size ≤ 2 ^ 32

pub record AreIds (local : Option (ℕ × ℕ)) (ids : Ids) : Type 0 where
  pub x : AreIdsAlong (size_across local) ids.x
  pub y : AreIdsAlong (size_down local) ids.y

-- groups are no longer than what they make up
within_row : (row size count : ℕ) → 0 < row → row ≡ count * size → size ≤ row
within_row row size zero some e = absurd (omega arith)
within_row row size (suc count) some e = omega arith

-- so many items in a dimension, some and few
abbrev AreFew : ℕ → Type 0
AreFew n = (0 < n) × (n ≤ 65536)

factor_positive : (n m : ℕ) → 0 < n * m → 0 < n
factor_positive n m h = grind arith

first_few : (n m : ℕ) → 0 < n → 0 < m → n * m ≤ 65536 → AreFew n
first_few n m some also few = let most : n ≤ n * m = le-mul_of_pos_right n also in (some, omega arith)

-- in one dimension
module _ (size : Option ℕ) (global local : ℕ) (whole : IsDivided global local) (few : AreFew global) (asked : (local ≤ limit size) × (limit size ≤ 2 ^ 32)) where
  along_item : (place : ℕ) → place < global → AreIdsAlong size (ids_along global local place)
  along_item place lt =
      let across = div-le_self place local in
      let own : place % local < local = mod-lt place whole.positive in
      record { group = omega arith; own = omega arith; fits = asked.1 }

  along_none : AreIdsAlong size (ids_along 0 0 0)
  along_none = let some = whole.positive in record { group = omega arith; own = omega arith; fits = asked.1 }

asked_size : (o : Option ℕ) (local : ℕ) → ((n : ℕ) → o ≡ Some n → local ≡ n) → local ≤ 65536 → (local ≤ limit o) × (limit o ≤ 2 ^ 32)
asked_size (Some n) local is short = let same : local ≡ n = is n refl in (omega arith, omega arith)
asked_size None local is short = (omega arith, omega arith)

module _ (local : Option (ℕ × ℕ)) (l : Launch) (at : IsLaunchFor local l) where
  wide : 0 < l.global.0
  wide = factor_positive l.global.0 l.global.1 at.some

  high : 0 < l.global.1
  high = factor_positive l.global.1 l.global.0 (subst (λ n. 0 < n) (mul_comm l.global.0 l.global.1) at.some)

  few_across : AreFew l.global.0
  few_across = first_few l.global.0 l.global.1 wide high at.few

  few_down : AreFew l.global.1
  few_down = first_few l.global.1 l.global.0 high wide (subst (λ n. n ≤ 65536) (mul_comm l.global.0 l.global.1) at.few)

  short_across : l.local.0 ≤ 65536
  short_across = let e = within_row l.global.0 l.local.0 (l.global.0 / l.local.0) wide at.whole.x.divides in let few = few_across.1 in omega arith

  short_down : l.local.1 ≤ 65536
  short_down = let e = within_row l.global.1 l.local.1 (l.global.1 / l.local.1) high at.whole.y.divides in let few = few_down.1 in omega arith

  size_is : (o : Option (ℕ × ℕ)) → HasLocal o l → ((n : ℕ) → size_across o ≡ Some n → l.local.0 ≡ n) × ((n : ℕ) → size_down o ≡ Some n → l.local.1 ≡ n)
  size_is (Some size) h = (λ n e. (let same : size.0 ≡ n = cc e in ap (λ s. s.0) h ∙ same), λ n e. (let same : size.1 ≡ n = cc e in ap (λ s. s.1) h ∙ same))
  size_is None h = (λ n e. absurd (cc e), λ n e. absurd (cc e))

  across : (l.local.0 ≤ limit (size_across local)) × (limit (size_across local) ≤ 2 ^ 32)
  across = asked_size (size_across local) l.local.0 (size_is local at.size).0 short_across

  down : (l.local.1 ≤ limit (size_down local)) × (limit (size_down local) ≤ 2 ^ 32)
  down = asked_size (size_down local) l.local.1 (size_is local at.size).1 short_down

  pub of_item : (item : ℕ) → item < item_count l → AreIds local (ids_of l item)
  of_item item lt = record {
    x = along_item (size_across local) l.global.0 l.local.0 at.whole.x few_across across (column_of l item) (mod-lt item wide);
    y = along_item (size_down local) l.global.1 l.local.1 at.whole.y few_down down (row_of l item) (row_below l at.whole item lt);
  }

  -- where ids are not looked at
  pub of_none : (sizes : List ℕ) → AreIds local (sizes_alone sizes)
  of_none sizes = record {
    x = along_none (size_across local) l.global.0 l.local.0 at.whole.x few_across across;
    y = along_none (size_down local) l.global.1 l.local.1 at.whole.y few_down down;
  }
