-- How work-items and work-groups lie in a launch. What follows of the
-- device rests on these laws alone.
use Rattle.std.proofs.Common.{◌≡◌, ℕ, ◌+◌, ◌*◌, ◌/◌, ◌%◌, ◌<◌, ◌≤◌, List, refl, sym, ap, ◌∙◌, subst, ⊎_elim, arith}
use Rattle.std.proofs.Math.Nat.{mul-div_cancel, div-lt_iff_lt-mul, mul-le-mul_right, mod-lt, mod-zero, mod-eq_of_lt, div-eq_of_lt, add-mul-div_right, add-mul-mod_self_right, mod-add-div', div-mul-le_self}
use Rattle.std.proofs.lemmas.Nat.{div-mul-add}
use Rattle.std.proofs.lemmas.Bool.{cases_lt}
use Rattle.kernel_tree.specs.Formula.{IdsAlong}
use Rattle.kernel_tree.specs.Numbering.{Members, HasIds, HasGroupIds, LaidOut, LaidInARow}
use Rattle.kernel_tree.specs.Launch.{Launch, in_a_row, IsDivided, IsWhole, IsFlat, item_count, groups_across, groups_down, group_count, group_at, column_of, row_of, group_of, first_item, ids_of, flat_ids}

-- a place in rows of this width

column_at : (w c r : ℕ) → c < w → (c + r * w) % w ≡ c
column_at w c r lt = add-mul-mod_self_right c r w ∙ mod-eq_of_lt lt

row_at : (w c r : ℕ) → c < w → (c + r * w) / w ≡ r
row_at w c r lt = add-mul-div_right c r (let p : 0 < w = omega arith in p) ∙ (let e : c / w ≡ 0 = div-eq_of_lt lt in omega arith)

add_comm : (n m : ℕ) → n + m ≡ m + n
add_comm n m = omega arith

factor_positive : (n m : ℕ) → 0 < n * m → 0 < n
factor_positive n m h = grind arith

-- where both factors are below theirs
within : (w h c r : ℕ) → c < w → r < h → c + r * w < w * h
within w h c r a b =
    let e : (r + 1) * w ≤ h * w = mul-le-mul_right w (let le : r + 1 ≤ h = omega arith in le) in
    omega arith

row_within : (w h c r : ℕ) → c + r * w < w * h → r < h
row_within w h c r lt =
    ⊎_elim (λ a. a) (λ b. absurd (let e : h * w ≤ r * w = mul-le-mul_right w b in omega arith)) (cases_lt r h)

module _ (l : Launch) (whole : IsWhole l) where
  -- the first item's column and row
  first_column : ℕ → ℕ
  first_column g = (g % groups_across l) * l.local.0

  first_row : ℕ → ℕ
  first_row g = (g / groups_across l) * l.local.1

  some_across : 0 < l.global.0 → 0 < groups_across l
  some_across h = factor_positive (groups_across l) l.local.0 (subst (λ n. 0 < n) whole.x.divides h)

  first_fits : (g : ℕ) → 0 < l.global.0 → first_column g < l.global.0
  unfolding first_column
  first_fits g h =
      let x = mod-lt g (some_across h) in
      let e : (g % groups_across l + 1) * l.local.0 ≤ groups_across l * l.local.0 = mul-le-mul_right l.local.0 (let le : g % groups_across l + 1 ≤ groups_across l = omega arith in le) in
      let p = whole.x.positive in
      let d = whole.x.divides in
      omega arith

  first_of_some : (g : ℕ) → 0 < l.global.0 → group_of l (first_item l g) ≡ g
  unfolding first_column first_row
  first_of_some g h =
      let c = column_at l.global.0 (first_column g) (first_row g) (first_fits g h) in
      let r = row_at l.global.0 (first_column g) (first_row g) (first_fits g h) in
      ap (λ x. x / l.local.0 + (row_of l (first_item l g) / l.local.1) * groups_across l) c
      ∙ ap (λ x. first_column g / l.local.0 + (x / l.local.1) * groups_across l) r
      ∙ ap (λ x. x + (first_row g / l.local.1) * groups_across l) (mul-div_cancel (g % groups_across l) whole.x.positive)
      ∙ ap (λ x. g % groups_across l + x * groups_across l) (mul-div_cancel (g / groups_across l) whole.y.positive)
      ∙ mod-add-div' g (groups_across l)

  -- in a launch without items
  first_of_none : (g : ℕ) → l.global.0 ≡ 0 → group_of l (first_item l g) ≡ g
  first_of_none g e =
      let n : groups_across l ≡ 0 = ap (λ x. x / l.local.0) e ∙ zero_over l.local.0 in
      let f : first_item l g ≡ g * l.local.0 =
      ap (λ x. (g % groups_across l) * l.local.0 + ((g / groups_across l) * l.local.1) * x) e
      ∙ ap (λ x. (g % x) * l.local.0 + ((g / groups_across l) * l.local.1) * 0) n
      ∙ ap (λ x. x * l.local.0 + ((g / groups_across l) * l.local.1) * 0) (mod-zero g)
      ∙ none_more (g * l.local.0) ((g / groups_across l) * l.local.1) in
      ap (λ x. (first_item l g % x) / l.local.0 + (row_of l (first_item l g) / l.local.1) * groups_across l) e
      ∙ ap (λ x. (first_item l g % 0) / l.local.0 + (row_of l (first_item l g) / l.local.1) * x) n
      ∙ none_more ((first_item l g % 0) / l.local.0) (row_of l (first_item l g) / l.local.1)
      ∙ ap (λ x. x / l.local.0) (mod-zero (first_item l g) ∙ f)
      ∙ mul-div_cancel g whole.x.positive
    where
      zero_over : (n : ℕ) → 0 / n ≡ 0
      zero_over n = omega arith

      none_more : (n m : ℕ) → n + m * 0 ≡ n
      none_more n m = omega arith

  pub first_of_group : (g : ℕ) → group_of l (first_item l g) ≡ g
  first_of_group g =
      ⊎_elim (λ h. first_of_some g h) (λ h. first_of_none g (let e : l.global.0 ≡ 0 = omega arith in e)) (cases_lt 0 l.global.0)

  -- a group that there is lies in the launch
  pub in_launch : (g j : ℕ) → g < group_count l → group_of l j ≡ g → j < item_count l
  in_launch g j h q =
      let here : group_of l j < groups_across l * groups_down l = subst (λ n. n < group_count l) (sym q) h in
      let down = row_within (groups_across l) (groups_down l) (column_of l j / l.local.0) (row_of l j / l.local.1) here in
      let some : 0 < groups_across l = factor_positive (groups_across l) (groups_down l) (let p : 0 < groups_across l * groups_down l = omega arith in p) in
      let wide : 0 < l.global.0 = subst (λ n. 0 < n) (sym whole.x.divides) (times_positive (groups_across l) l.local.0 some whole.x.positive) in
      let low : row_of l j < l.global.1 = subst (λ n. row_of l j < n) (sym whole.y.divides) ((div-lt_iff_lt-mul whole.y.positive).0 down) in
      let is = mod-add-div' j l.global.0 in
      subst (λ n. n < item_count l) is (within l.global.0 l.global.1 (column_of l j) (row_of l j) (mod-lt j wide) low)
    where
      times_positive : (n m : ℕ) → 0 < n → 0 < m → 0 < n * m
      times_positive n m a b = let e : 1 * m ≤ n * m = mul-le-mul_right m a in omega arith

  pub first_in_launch : (g : ℕ) → g < group_count l → first_item l g < item_count l
  first_in_launch g h = in_launch g (first_item l g) h (first_of_group g)

  pub some_items : (k : ℕ) → k < item_count l → 0 < l.global.0
  some_items k h = factor_positive l.global.0 l.global.1 (let p : 0 < l.global.0 * l.global.1 = omega arith in p)

  pub row_below : (k : ℕ) → k < item_count l → row_of l k < l.global.1
  row_below k h = row_within l.global.0 l.global.1 (column_of l k) (row_of l k) (subst (λ n. n < item_count l) (sym (mod-add-div' k l.global.0)) h)

  pub group_in_launch : (k : ℕ) → k < item_count l → group_of l k < group_count l
  group_in_launch k h =
      let wide = some_items k h in
      let across : column_of l k / l.local.0 < groups_across l = (div-lt_iff_lt-mul whole.x.positive).1 (subst (λ n. column_of l k < n) whole.x.divides (mod-lt k wide)) in
      let down : row_of l k / l.local.1 < groups_down l = (div-lt_iff_lt-mul whole.y.positive).1 (subst (λ n. row_of l k < n) whole.y.divides (row_below k h)) in
      within (groups_across l) (groups_down l) (column_of l k / l.local.0) (row_of l k / l.local.1) across down

  -- no item of a group comes before its first
  pub first_is_least : (k : ℕ) → k < item_count l → first_item l (group_of l k) ≤ k
  first_is_least k h =
      let wide = some_items k h in
      let N = groups_across l in
      let a = column_of l k / l.local.0 in
      let b = row_of l k / l.local.1 in
      let across : a < N = (div-lt_iff_lt-mul whole.x.positive).1 (subst (λ n. column_of l k < n) whole.x.divides (mod-lt k wide)) in
      let e : first_item l (group_of l k) ≡ a * l.local.0 + (b * l.local.1) * l.global.0 =
      ap (λ x. x * l.local.0 + ((group_of l k / N) * l.local.1) * l.global.0) (column_at N a b across)
      ∙ ap (λ x. a * l.local.0 + (x * l.local.1) * l.global.0) (row_at N a b across) in
      let c : a * l.local.0 ≤ column_of l k = div-mul-le_self (column_of l k) l.local.0 in
      let r : (b * l.local.1) * l.global.0 ≤ row_of l k * l.global.0 = mul-le-mul_right l.global.0 (div-mul-le_self (row_of l k) l.local.1) in
      let is = mod-add-div' k l.global.0 in
      omega arith

-- launches of one row, by their two sizes alone

pub whole_in_a_row : (global local : ℕ) (sizes : List ℕ) → IsDivided global local → IsWhole (in_a_row global local sizes)
whole_in_a_row global local sizes whole = record { x = whole; y = record { positive = omega arith; divides = refl } }

pub flat_in_a_row : (global local : ℕ) (sizes : List ℕ) → IsFlat (in_a_row global local sizes)
flat_in_a_row global local sizes = record { one_row = refl; one_local_row = refl }

module _ (l : Launch) (flat : IsFlat l) where
  one_over : (n : ℕ) → n / 1 ≡ n
  one_over n = omega arith

  over_rows : (n : ℕ) → n / l.local.1 ≡ n
  over_rows n = ap (λ x. n / x) flat.one_local_row ∙ one_over n

  one_down : groups_down l ≡ 1
  one_down = over_rows l.global.1 ∙ flat.one_row

  pub flat_items : item_count l ≡ l.global.0
  flat_items = ap (λ x. l.global.0 * x) flat.one_row ∙ (let e : l.global.0 * 1 ≡ l.global.0 = omega arith in e)

  pub flat_groups : group_count l ≡ l.global.0 / l.local.0
  flat_groups = ap (λ x. (l.global.0 / l.local.0) * x) one_down ∙ (let n = l.global.0 / l.local.0 in let e : n * 1 ≡ n = omega arith in e)

  pub flat_group : IsWhole l → (k : ℕ) → group_of l k ≡ k / l.local.0
  flat_group whole k =
      let N = groups_across l in
      let c = column_of l k in
      let r = row_of l k in
      let parts : k ≡ c + (r * N) * l.local.0 = sym (mod-add-div' k l.global.0) ∙ ap (λ x. c + r * x) whole.x.divides ∙ regroup c r N l.local.0 in
      ap (λ x. c / l.local.0 + x * N) (over_rows r) ∙ sym (add-mul-div_right c (r * N) whole.x.positive) ∙ ap (λ x. x / l.local.0) (sym parts)
    where
      regroup : (c r n m : ℕ) → c + r * (n * m) ≡ c + (r * n) * m
      regroup c r n m = omega arith

  pub flat_first : IsWhole l → (g : ℕ) → first_item l g ≡ g * l.local.0
  flat_first whole g =
      let N = groups_across l in
      ap (λ x. (g % N) * l.local.0 + ((g / N) * x) * l.global.0) flat.one_local_row
      ∙ ap (λ x. (g % N) * l.local.0 + ((g / N) * 1) * x) whole.x.divides
      ∙ regroup (g % N) (g / N) N l.local.0
      ∙ ap (λ x. x * l.local.0) (mod-add-div' g N)
    where
      regroup : (a b n m : ℕ) → a * m + (b * 1) * (n * m) ≡ (a + b * n) * m
      regroup a b n m = omega arith

  -- the column of an item that there is is its number
  pub flat_column : (k : ℕ) → k < l.global.0 → column_of l k ≡ k
  flat_column k h = mod-eq_of_lt h

  -- an item's number in its group
  pub flat_local : IsWhole l → (k : ℕ) → (ids_of l k).x.local_id ≡ k % l.local.0
  flat_local whole k =
      let N = groups_across l in
      let parts : k ≡ column_of l k + (row_of l k * N) * l.local.0 = sym (mod-add-div' k l.global.0) ∙ ap (λ x. column_of l k + row_of l k * x) whole.x.divides ∙ regroup (column_of l k) (row_of l k) N l.local.0 in
      sym (add-mul-mod_self_right (column_of l k) (row_of l k * N) l.local.0) ∙ ap (λ x. x % l.local.0) (sym parts)
    where
      regroup : (c r n m : ℕ) → c + r * (n * m) ≡ c + (r * n) * m
      regroup c r n m = omega arith

  pub flat_group_id : (k : ℕ) → k < l.global.0 → (ids_of l k).x.group_id ≡ k / l.local.0
  flat_group_id k h = ap (λ x. x / l.local.0) (flat_column k h)

  flat_row : (k : ℕ) → k < l.global.0 → row_of l k ≡ 0
  flat_row k h = div-eq_of_lt h

  along_path : (p q : IdsAlong) → p.global_id ≡ q.global_id → p.group_id ≡ q.group_id → p.local_id ≡ q.local_id → p.global_size ≡ q.global_size → p.group_count ≡ q.group_count → p.local_size ≡ q.local_size → p ≡ q
  along_path p q a b c d e f = λ t. record {
    global_id = a t;
    group_id = b t;
    local_id = c t;
    global_size = d t;
    group_count = e t;
    local_size = f t;
  }

  pub flat_ids_are : IsWhole l → (k : ℕ) → k < l.global.0 → ids_of l k ≡ flat_ids l k
  flat_ids_are whole k h = λ t. record {
    x = along_path (ids_of l k).x (flat_ids l k).x (flat_column k h) (flat_group_id k h) (flat_local whole k) refl refl refl t;
    y = along_path (ids_of l k).y (flat_ids l k).y
        (flat_row k h)
        (ap (λ x. x / l.local.1) (flat_row k h) ∙ over_rows 0)
        (ap (λ x. x % l.local.1) (flat_row k h) ∙ ap (λ x. 0 % x) flat.one_local_row)
        flat.one_row
        one_down
        flat.one_local_row
        t;
    sizes = l.sizes;
  }

-- an item's ids, by its group and its place there

module _ (l : Launch) (whole : IsWhole l) (k : ℕ) where
  pub column_is : (ids_of l k).x.global_id ≡ (ids_of l k).x.group_id * l.local.0 + (ids_of l k).x.local_id
  column_is = sym (mod-add-div' (column_of l k) l.local.0) ∙ add_comm (column_of l k % l.local.0) ((column_of l k / l.local.0) * l.local.0)

  pub row_is : (ids_of l k).y.global_id ≡ (ids_of l k).y.group_id * l.local.1 + (ids_of l k).y.local_id
  row_is = sym (mod-add-div' (row_of l k) l.local.1) ∙ add_comm (row_of l k % l.local.1) ((row_of l k / l.local.1) * l.local.1)

  module _ (here : k < item_count l) where
    across : (ids_of l k).x.group_id < groups_across l
    across = (div-lt_iff_lt-mul whole.x.positive).1 (subst (λ n. column_of l k < n) whole.x.divides (mod-lt k (some_items l whole k here)))

    pub group_column : (ids_of l k).x.group_id ≡ group_of l k % groups_across l
    group_column = sym (column_at (groups_across l) (ids_of l k).x.group_id (ids_of l k).y.group_id across)

    pub group_row_is : (ids_of l k).y.group_id ≡ group_of l k / groups_across l
    group_row_is = sym (row_at (groups_across l) (ids_of l k).x.group_id (ids_of l k).y.group_id across)

-- the item and the group with given ids

module _ (l : Launch) (whole : IsWhole l) where
  pub item_with_ids : (x y : ℕ) → x < l.global.0 → y < l.global.1 → HasIds l x y
  item_with_ids x y a b = record {
    within = within l.global.0 l.global.1 x y a b;
    column = column_at l.global.0 x y a;
    row = row_at l.global.0 x y a;
  }

  pub group_with_ids : (x y : ℕ) → x < groups_across l → y < groups_down l → HasGroupIds l x y
  group_with_ids x y a b = record {
    within = here;
    known = λ k q.
        let lt = in_launch l whole (group_at l x y) k here q in (
          group_column l whole k lt ∙ ap (λ n. n % groups_across l) q ∙ column_at (groups_across l) x y a,
          group_row_is l whole k lt ∙ ap (λ n. n / groups_across l) q ∙ row_at (groups_across l) x y a,
        );
  }
    where
      here : group_at l x y < group_count l
      here = within (groups_across l) (groups_down l) x y a b

-- the items of a group, row by row

module _ (l : Launch) (whole : IsWhole l) (g : ℕ) (here : g < group_count l) where
  some_groups : 0 < groups_across l
  some_groups = factor_positive (groups_across l) (groups_down l) (let p : 0 < groups_across l * groups_down l = omega arith in p)

  -- the item at this column and row of the group
  member : (i r : ℕ) → ℕ
  member i r = first_item l g + (i + r * l.global.0)

  member_parts : (i r : ℕ) → member i r ≡ ((g % groups_across l) * l.local.0 + i) + ((g / groups_across l) * l.local.1 + r) * l.global.0
  unfolding member
  member_parts i r = omega arith

  member_fits : (i : ℕ) → i < l.local.0 → (g % groups_across l) * l.local.0 + i < l.global.0
  member_fits i lt =
      let x = mod-lt g some_groups in
      let e : (g % groups_across l + 1) * l.local.0 ≤ groups_across l * l.local.0 = mul-le-mul_right l.local.0 (let le : g % groups_across l + 1 ≤ groups_across l = omega arith in le) in
      let d = whole.x.divides in
      omega arith

  member_column : (i r : ℕ) → i < l.local.0 → column_of l (member i r) ≡ (g % groups_across l) * l.local.0 + i
  member_column i r lt = ap (λ x. x % l.global.0) (member_parts i r) ∙ column_at l.global.0 _ _ (member_fits i lt)

  member_row : (i r : ℕ) → i < l.local.0 → row_of l (member i r) ≡ (g / groups_across l) * l.local.1 + r
  member_row i r lt = ap (λ x. x / l.global.0) (member_parts i r) ∙ row_at l.global.0 _ _ (member_fits i lt)

  member_group : (i r : ℕ) → i < l.local.0 → r < l.local.1 → group_of l (member i r) ≡ g
  member_group i r il rl =
      ap (λ x. x / l.local.0 + (row_of l (member i r) / l.local.1) * groups_across l) (member_column i r il)
      ∙ ap (λ x. ((g % groups_across l) * l.local.0 + i) / l.local.0 + (x / l.local.1) * groups_across l) (member_row i r il)
      ∙ ap (λ x. x + (((g / groups_across l) * l.local.1 + r) / l.local.1) * groups_across l) (div-mul-add (g % groups_across l) l.local.0 i il)
      ∙ ap (λ x. g % groups_across l + x * groups_across l) (div-mul-add (g / groups_across l) l.local.1 r rl)
      ∙ mod-add-div' g (groups_across l)

  at_row : (j : ℕ) → j < l.local.0 * l.local.1 → j / l.local.0 < l.local.1
  at_row j lt = (div-lt_iff_lt-mul whole.x.positive).1 (let e : j < l.local.1 * l.local.0 = omega arith in e)

  place : ℕ → ℕ
  place k = (ids_of l k).x.local_id + (ids_of l k).y.local_id * l.local.0

  is_member : (k : ℕ) → group_of l k ≡ g → k ≡ member (ids_of l k).x.local_id (ids_of l k).y.local_id
  is_member k q =
      let lt = in_launch l whole g k here q in
      let a : column_of l k / l.local.0 ≡ g % groups_across l = group_column l whole k lt ∙ ap (λ x. x % groups_across l) q in
      let b : row_of l k / l.local.1 ≡ g / groups_across l = group_row_is l whole k lt ∙ ap (λ x. x / groups_across l) q in
      let c = column_is l whole k ∙ ap (λ x. x * l.local.0 + (ids_of l k).x.local_id) a in
      let r = row_is l whole k ∙ ap (λ x. x * l.local.1 + (ids_of l k).y.local_id) b in
      sym (mod-add-div' k l.global.0) ∙ ap (λ x. x + row_of l k * l.global.0) c ∙ ap (λ x. ((g % groups_across l) * l.local.0 + (ids_of l k).x.local_id) + x * l.global.0) r
      ∙ sym (member_parts (ids_of l k).x.local_id (ids_of l k).y.local_id)

  pub members : Members l g
  unfolding member place
  members = record {
    inside = λ j lt. member_group (j % l.local.0) (j / l.local.0) (mod-lt j whole.x.positive) (at_row j lt);
    every = λ k q.
        let low : (ids_of l k).x.local_id < l.local.0 = mod-lt (column_of l k) whole.x.positive in
        let high : (ids_of l k).y.local_id < l.local.1 = mod-lt (row_of l k) whole.y.positive in (
          within l.local.0 l.local.1 (ids_of l k).x.local_id (ids_of l k).y.local_id low high,
          is_member k q ∙ sym (
              ap (λ x. member x (place k / l.local.0)) (column_at l.local.0 (ids_of l k).x.local_id (ids_of l k).y.local_id low)
              ∙ ap (λ x. member (ids_of l k).x.local_id x) (row_at l.local.0 (ids_of l k).x.local_id (ids_of l k).y.local_id low)),
        );
    differ = λ i j il jl e.
        let ci = member_column (i % l.local.0) (i / l.local.0) (mod-lt i whole.x.positive) in
        let cj = member_column (j % l.local.0) (j / l.local.0) (mod-lt j whole.x.positive) in
        let ri = member_row (i % l.local.0) (i / l.local.0) (mod-lt i whole.x.positive) in
        let rj = member_row (j % l.local.0) (j / l.local.0) (mod-lt j whole.x.positive) in
        let same_column = sym ci ∙ ap (λ x. x % l.global.0) e ∙ cj in
        let same_row = sym ri ∙ ap (λ x. x / l.global.0) e ∙ rj in
        let x : i % l.local.0 ≡ j % l.local.0 = omega arith in
        let y : i / l.local.0 ≡ j / l.local.0 = omega arith in
        sym (mod-add-div' i l.local.0) ∙ ap (λ z. z + (i / l.local.0) * l.local.0) x ∙ ap (λ z. j % l.local.0 + z * l.local.0) y ∙ mod-add-div' j l.local.0;
  }

pub laid_out : (l : Launch) → IsWhole l → LaidOut l
laid_out l whole = record {
  first = first_of_group l whole;
  items = in_launch l whole;
  groups = group_in_launch l whole;
  least = first_is_least l whole;
  columns = column_is l whole;
  rows = row_is l whole;
  item = λ k. mod-add-div' k l.global.0;
  ids = item_with_ids l whole;
  group = λ k. refl;
  group_ids = group_with_ids l whole;
  group_columns = group_column l whole;
  group_rows = group_row_is l whole;
  members = members l whole;
}

pub laid_in_a_row : (l : Launch) → IsFlat l → IsWhole l → LaidInARow l
laid_in_a_row l flat whole = record {
  items = flat_items l flat;
  groups = flat_groups l flat;
  group = flat_group l flat whole;
  first = flat_first l flat whole;
  local = flat_local l flat whole;
  ids = flat_ids_are l flat whole;
}
