-- All items of a group take its turns, and so its first one does.
use Rattle.std.proofs.Common.{◌≡◌, ℕ, zero, suc, ◌+◌, ◌-◌, ◌*◌, ◌/◌, ◌%◌, ◌<◌, ◌≤◌, ◌^◌, refl, sym, ap, ◌∙◌, arith}
use Rattle.std.specs.Prelude.{min}
use Rattle.std.proofs.Math.Nat.{mul-le-mul_left, mul-le-mul_right}
use Rattle.std.proofs.lemmas.Nat.{div-add-mod'}
use Rattle.lift_tree.specs.declared.term.Level.TheVariants as level
use Rattle.lift_tree.specs.declared.term.Dimension.TheVariants.{X, Y}
use Rattle.kernel_tree.specs.Formula.{Ids}
use Rattle.kernel_tree.specs.Launch.{Launch, IsWhole, item_count, groups_across, groups_down, group_count, group_of, first_item, ids_of, column_of, row_of}
use Rattle.kernel_tree.specs.Numbering.{LaidOut}
use Rattle.kernel_tree.proofs.Grouping.{laid_out, row_below}
use Rattle.lift_ir.specs.Terms.{Over, Term, Reshape, LetArray, Map}
use Rattle.term_traffic.specs.Traffic.{turns_of, row_turns, group_turns}

factor_positive : (n m : ℕ) → 0 < n * m → 0 < n
factor_positive n m h = grind arith

-- a factor is no more than a product with one that isn't 0
no_more : (n m : ℕ) → 0 < m → n ≤ n * m
no_more n zero some = absurd (omega arith)
no_more n (suc m) some = let e = mul-le-mul_left {m = 1} {n = suc m} n (omega arith) in omega arith

-- a group's first item is one of the launch
pub first_below : (l : Launch) (g : ℕ) → IsWhole l → g < group_count l → first_item l g < item_count l
first_below l g whole h = let laid = laid_out l whole in laid.items g (first_item l g) h (laid.first g)

-- and so the numbers that make it up are small
pub first_small : (l : Launch) (g : ℕ) → IsWhole l → item_count l ≤ 65536 → g < group_count l
    → (0 < l.local.0) × (0 < l.global.0 / l.local.0) × ((g % (l.global.0 / l.local.0)) * l.local.0 < 2 ^ 32) × ((g / (l.global.0 / l.local.0)) * l.local.1 < 2 ^ 32) × ((g / (l.global.0 / l.local.0)) * l.local.1 * l.global.0 < 2 ^ 32) × (first_item l g < 2 ^ 32)
first_small l g whole few h =
    let below = first_below l g whole h in
    let across : 0 < groups_across l = factor_positive (groups_across l) (groups_down l) (omega arith) in
    let wide : 0 < l.global.0 = factor_positive l.global.0 l.global.1 (omega arith) in
    let row = no_more ((g / groups_across l) * l.local.1) l.global.0 wide in
    (whole.x.positive, across, (omega arith), (omega arith), (omega arith), (omega arith))

-- items of a row lie in the launch
pub row_end : (l : Launch) → IsWhole l → (item r : ℕ) → item < item_count l → column_of l item + r ≤ l.global.0 → item + r ≤ item_count l
row_end l whole item r within le =
    let row = row_below l whole item within in
    let more = mul-le-mul_right {m = row_of l item + 1} {n = l.global.1} l.global.0 (omega arith) in
    let is = div-add-mod' item l.global.0 in
    let e : (row_of l item + 1) * l.global.0 ≡ row_of l item * l.global.0 + l.global.0 = grind arith in
    let f : l.global.1 * l.global.0 ≡ item_count l = grind arith in
    omega arith

-- an item's turns of maps over groups hang on its group's ids
pub record AreTogether (i j : Ids) : Type 0 where
  pub column : i.x.group_id ≡ j.x.group_id
  pub columns : i.x.group_count ≡ j.x.group_count
  pub row : i.y.group_id ≡ j.y.group_id
  pub rows : i.y.group_count ≡ j.y.group_count

turns_along : (i j : Ids) (n : ℕ) → AreTogether i j → turns_of i (Over level.Groups X) n ≡ turns_of j (Over level.Groups X) n
turns_along i j n h = ap (λ x. (n - x) / i.x.group_count + min 1 ((n - x) % i.x.group_count)) h.column ∙ ap (λ x. (n - j.x.group_id) / x + min 1 ((n - j.x.group_id) % x)) h.columns

turns_down : (i j : Ids) (n : ℕ) → AreTogether i j → turns_of i (Over level.Groups Y) n ≡ turns_of j (Over level.Groups Y) n
turns_down i j n h = ap (λ x. (n - x) / i.y.group_count + min 1 ((n - x) % i.y.group_count)) h.row ∙ ap (λ x. (n - j.y.group_id) / x + min 1 ((n - j.y.group_id) % x)) h.rows

module _ {A : Type 0} (num : A → ℕ) (i j : Ids) (h : AreTogether i j) where
  same_along : (t : Term A) → row_turns num i t ≡ row_turns num j t
  same_along (Reshape y t) = same_along t
  same_along (Map (Over level.Groups X) n loads xs b) = turns_along i j (num n) h
  same_along _ = refl

  same_turns : (t : Term A) → group_turns num i t ≡ group_turns num j t
  same_turns (Reshape y t) = same_turns t
  same_turns (LetArray v b) = same_turns b
  same_turns (Map (Over level.Groups X) n loads xs b) = turns_along i j (num n) h
  same_turns (Map (Over level.Groups Y) n loads xs b) = ap (λ z. z * row_turns num i b) (turns_down i j (num n) h) ∙ ap (λ z. turns_of j (Over level.Groups Y) (num n) * z) (same_along b)
  same_turns _ = refl

-- so all items of a group take the turns of its first
pub first_turns : {A : Type 0} (l : Launch) → LaidOut l → (num : A → ℕ) (t : Term A) (g j : ℕ) → g < group_count l → j < item_count l → group_of l j ≡ g → group_turns num (ids_of l (first_item l g)) t ≡ group_turns num (ids_of l j) t
first_turns l laid num t g j h lt is =
    let here = laid.items g (first_item l g) h (laid.first g) in
    let one = laid.first g ∙ sym is in
    same_turns num (ids_of l (first_item l g)) (ids_of l j)
    (record {
      column = laid.group_columns (first_item l g) here ∙ ap (λ z. z % groups_across l) one ∙ sym (laid.group_columns j lt);
      columns = refl;
      row = laid.group_rows (first_item l g) here ∙ ap (λ z. z / groups_across l) one ∙ sym (laid.group_rows j lt);
      rows = refl;
    })
    t
