-- Places that take as many turns of a map, and items along a row.
use Rattle.std.proofs.Common.{◌≡◌, ℕ, zero, suc, ◌+◌, ◌-◌, ◌*◌, ◌/◌, ◌%◌, ◌<◌, ◌≤◌, List, sym, ap, ◌∙◌, subst, ⊎_elim, arith}
use Rattle.std.specs.Prelude.{min}
use Rattle.std.proofs.lemmas.Bool.{cases_lt}
use Rattle.std.proofs.lemmas.Nat.{div-mul-add, mod-mul-add, div-add-mod'}
use Rattle.std.proofs.Math.Nat.{mod-lt, mul-le-mul_right, div-lt_iff_lt-mul}
use Rattle.kernel_tree.specs.Formula.{IdsAlong, ids_along}
use Rattle.kernel_tree.specs.Launch.{Launch, IsDivided, column_of, row_of, ids_of}
use Rattle.kernel_traffic.specs.Traffic.{turns_below}
use Rattle.lift_ir.specs.Terms.{Kind}
use Rattle.term_traffic.specs.Traffic.{turns_of}
use Rattle.item_traffic.specs.TakeAlike.{ids_at}

-- so many whole strides and a part of one are so many turns and one more
with_part : (q part s : ℕ) → 0 < part → part < s → (q * s + part) / s + min 1 ((q * s + part) % s) ≡ suc q
with_part q part s some below =
    ap (λ z. z + min 1 ((q * s + part) % s)) (div-mul-add q s part below) ∙ ap (λ z. q + min 1 z) (mod-mul-add q s part below) ∙ (omega arith)

without_part : (q s : ℕ) → 0 < s → (q * s) / s + min 1 ((q * s) % s) ≡ q
without_part q s some =
    let e : q * s ≡ q * s + 0 = omega arith in
    ap (λ z. z / s + min 1 (z % s)) e ∙ ap (λ z. z + min 1 ((q * s + 0) % s)) (div-mul-add q s 0 some) ∙ ap (λ z. q + min 1 z) (mod-mul-add q s 0 some) ∙ (omega arith)

-- a place before the part takes one turn more than there are whole strides
before_part : (p n s : ℕ) → p < n % s → n % s < s → turns_below p n s ≡ suc (n / s)
before_part p n s lt part =
    let whole = div-add-mod' n s in
    let e : n - p ≡ (n / s) * s + (n % s - p) = omega arith in
    ap (λ z. z / s + min 1 (z % s)) e ∙ with_part (n / s) (n % s - p) s (omega arith) (omega arith)

-- and one from the part on just as many
past_part : (p n s : ℕ) → p < s → n % s ≤ p → turns_below p n s ≡ n / s
past_part p n s below le = go (n / s) (div-add-mod' n s)
  where
    go : (q : ℕ) → q * s + n % s ≡ n → turns_below p n s ≡ q
    go zero e =
        let z : n - p ≡ 0 * s = omega arith in
        ap (λ z. z / s + min 1 (z % s)) z ∙ without_part 0 s (omega arith)
    go (suc m) e =
        ⊎_elim
        (λ lt.
        let z : n - p ≡ m * s + (s + n % s - p) = omega arith in
        ap (λ z. z / s + min 1 (z % s)) z ∙ with_part m (s + n % s - p) s (omega arith) (omega arith))
        (λ ge.
        let z : n - p ≡ suc m * s = omega arith in
        ap (λ z. z / s + min 1 (z % s)) z ∙ without_part (suc m) s (omega arith))
        (cases_lt (n % s) p)

pub alike_below : (p n s k : ℕ) → p < s → k < n % s - p → turns_below p n s ≡ turns_below (p + k) n s
alike_below p n s k below lt =
    let part : n % s < s = mod-lt n (omega arith) in
    before_part p n s (omega arith) part ∙ sym (before_part (p + k) n s (omega arith) part)

pub alike_past : (p n s k : ℕ) → p < s → n % s ≤ p → k < s - p → turns_below p n s ≡ turns_below (p + k) n s
alike_past p n s k below le lt = past_part p n s below le ∙ sym (past_part (p + k) n s (omega arith) (omega arith))

-- where strides are whole, all places take as many
pub alike_whole : (p q n s : ℕ) → p < s → q < s → n % s ≡ 0 → turns_below p n s ≡ turns_below q n s
alike_whole p q n s pl ql e = past_part p n s pl (omega arith) ∙ sym (past_part q n s ql (omega arith))

module _ (l : Launch) (item k : ℕ) (within : column_of l item + k < l.global.0) where
  further : item + k ≡ row_of l item * l.global.0 + (column_of l item + k)
  further = let e = div-add-mod' item l.global.0 in omega arith

  -- the k-th item further along a row
  pub same_row : row_of l (item + k) ≡ row_of l item
  same_row = ap (λ z. z / l.global.0) further ∙ div-mul-add (row_of l item) l.global.0 (column_of l item + k) within

  pub column_further : column_of l (item + k) ≡ column_of l item + k
  column_further = ap (λ z. z % l.global.0) further ∙ mod-mul-add (row_of l item) l.global.0 (column_of l item + k) within

-- the group of the place k further, whose places are numbered from its first
pub group_further : (p s k : ℕ) → 0 < s → (p + k) / s ≡ p / s + (p % s + k) / s
group_further p s k some =
    let e = div-add-mod' p s in
    let f = div-add-mod' (p % s + k) s in
    let r = mod-lt (p % s + k) some in
    let z : p + k ≡ (p / s + (p % s + k) / s) * s + (p % s + k) % s = grind arith in
    ap (λ z. z / s) z ∙ div-mul-add (p / s + (p % s + k) / s) s ((p % s + k) % s) r

-- and its number in its group, where that is the same
pub number_further : (p s k : ℕ) → p % s + k < s → (p + k) % s ≡ p % s + k
number_further p s k lt =
    let e = div-add-mod' p s in
    let z : p + k ≡ (p / s) * s + (p % s + k) = omega arith in
    ap (λ z. z % s) z ∙ mod-mul-add (p / s) s (p % s + k) lt

module _ (global local : ℕ) (divided : IsDivided global local) (column : ℕ) (within : column < global) where
  pub group_below : column / local < global / local
  group_below = (div-lt_iff_lt-mul divided.positive).1 (subst (λ n. column < n) divided.divides within)

  pub some_groups : (0 < local) × (0 < global / local)
  some_groups = (divided.positive, (let lt = group_below in omega arith))

  -- so many groups from this item's on lie in the row
  pub groups_within : (r : ℕ) → column / local + r ≤ global / local → column + (r * local - column % local) ≤ global
  groups_within r le =
      let e = div-add-mod' column local in
      let f = divided.divides in
      let more = mul-le-mul_right {m = column / local + r} {n = global / local} local le in
      let z : (column / local + r) * local ≡ (column / local) * local + r * local = grind arith in
      omega arith

  -- an item so much further is in one of them
  pub in_groups : (r k : ℕ) → k < r * local - column % local → (column % local + k) / local < r
  in_groups r k lt = (div-lt_iff_lt-mul divided.positive).1 (let z : column % local + k < r * local = omega arith in z)

  -- so many items from this one on, of its group, lie in the row
  pub items_within : (r : ℕ) → column % local + r ≤ local → column + r ≤ global
  items_within r le =
      let e = div-add-mod' column local in
      let f = divided.divides in
      let lt = group_below in
      let more = mul-le-mul_right {m = column / local + 1} {n = global / local} local (omega arith) in
      let z : (column / local + 1) * local ≡ (column / local) * local + local = grind arith in
      omega arith

  pub groups_alike : (n r : ℕ) → ((k : ℕ) → k < r → turns_below (column / local) n (global / local) ≡ turns_below (column / local + k) n (global / local))
      → (k : ℕ) → k < r * local - column % local → turns_below (column / local) n (global / local) ≡ turns_below ((column + k) / local) n (global / local)
  groups_alike n r alike k lt = alike ((column % local + k) / local) (in_groups r k lt) ∙ ap (λ z. turns_below z n (global / local)) (sym (group_further column local k divided.positive))

  pub whole_alike : (n k : ℕ) → n % local ≡ 0 → turns_below (column % local) n local ≡ turns_below ((column + k) % local) n local
  whole_alike n k e = alike_whole (column % local) ((column + k) % local) n local (mod-lt column divided.positive) (mod-lt (column + k) divided.positive) e

  pub members_alike : (n r : ℕ) → column % local + r ≤ local → ((k : ℕ) → k < r → turns_below (column % local) n local ≡ turns_below (column % local + k) n local)
      → (k : ℕ) → k < r → turns_below (column % local) n local ≡ turns_below ((column + k) % local) n local
  members_alike n r le alike k lt = alike k lt ∙ ap (λ z. turns_below z n local) (sym (number_further column local k (omega arith)))

-- what the k-th item further along a row knows
pub ids_further : (l : Launch) (item k : ℕ) → column_of l item + k < l.global.0
    → ids_of l (item + k) ≡ ids_at l.global.0 l.local.0 (column_of l item + k) (ids_along l.global.1 l.local.1 (row_of l item)) l.sizes
ids_further l item k within = λ j. ids_at l.global.0 l.local.0 (column_further l item k within j) (ids_along l.global.1 l.local.1 (same_row l item k within j)) l.sizes

-- items of a row from this column on that take as many turns of a map of a kind
abbrev pub Alike : (column global local length count : ℕ) → Kind → Type 0
Alike column global local n count kind =
    (row : IdsAlong) (sizes : List ℕ) (k : ℕ) → k < count → turns_of (ids_at global local column row sizes) kind n ≡ turns_of (ids_at global local (column + k) row sizes) kind n
