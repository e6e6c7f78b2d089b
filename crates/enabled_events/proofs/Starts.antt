-- At the start of a launch each item has an event of its own.
use Rattle.std.proofs.Common.{◌≡◌, ◌≢◌, ◌+◌, ◌-◌, ◌^◌, ◌≤◌, ◌<◌, ◌++◌, ℕ, zero, suc, Bool, true, false, List, length, replicate, Option, Some, None, refl, sym, ap, ◌∙◌, ⊎_elim, arith}
use Rattle.std.specs.Prelude.{◌==◌, ◌&&◌, is_some, slice_index, slice_index_or, if◌then◌else◌}
use Rattle.std.proofs.Math.Nat.{pow-le-pow_right}
use Rattle.std.proofs.lemmas.Bool.{cases_eq, cases_lt, eq-eqb, ne_eqb}
use Rattle.kernel_tree.specs.declared.events.Event.{Event}
use Rattle.kernel_tree.specs.declared.events.Event.TheVariants.{Step, Release}
use Rattle.kernel_tree.specs.Launch.{item_count, group_count, group_of, group_size, first_item}
use Rattle.kernel_tree.specs.Numbering.{member_at, number_in_group}
use Rattle.kernel_tree.proofs.Grouping.{laid_out}
use Rattle.count_tree.specs.Nodes.{HasRoom}
use Rattle.enabled_events.specs.declared.grid.Grid.{Grid}
use Rattle.enabled_events.specs.Grids.{laid, IsSmall}
use Rattle.enabled_events.specs.Flags.{Counted, CountSteps, steps_among}
use Rattle.enabled_events.proofs.Counts.{no_event}

abbrev bit : Bool → ℕ
bit b = if b then 1 else 0

-- how many of the first n numbers are x
abbrev among : (x n : ℕ) → ℕ
among x zero = 0
among x (suc n) = bit (x == n) + among x n

among_none : (x n : ℕ) → n ≤ x → among x n ≡ 0
among_none x zero le = refl
among_none x (suc n) le = let a : bit (x == n) ≡ 0 = ap bit (ne_eqb x n (λ e. omega arith)) in let b : among x n ≡ 0 = among_none x n (omega arith) in omega arith

among_one : (x n : ℕ) → x < n → among x n ≡ 1
among_one x zero lt = absurd (omega arith)
among_one x (suc n) lt = ⊎_elim
    (λ e. let a : bit (x == n) ≡ 1 = ap bit (eq-eqb x n e) in let b : among x n ≡ 0 = among_none x n (omega arith) in omega arith)
    (λ ne. let a : bit (x == n) ≡ 0 = ap bit (ne_eqb x n ne) in let b : among x n ≡ 1 = among_one x n (omega arith) in omega arith)
    (cases_eq x n)

module _ (f : ℕ → ℕ) where
  -- how many of the first s have k as their value
  abbrev hits : (s k : ℕ) → ℕ
  hits zero k = 0
  hits (suc s) k = bit (f s == k) + hits s k

  -- how many have one of the first n numbers
  abbrev all_hits : (s n : ℕ) → ℕ
  all_hits s zero = 0
  all_hits s (suc n) = hits s n + all_hits s n

  one_more : (s n : ℕ) → all_hits (suc s) n ≡ among (f s) n + all_hits s n
  one_more s zero = refl
  one_more s (suc n) = let a : all_hits (suc s) n ≡ among (f s) n + all_hits s n = one_more s n in omega arith

  all_zero : (n : ℕ) → all_hits zero n ≡ 0
  all_zero zero = refl
  all_zero (suc n) = let a : all_hits zero n ≡ 0 = all_zero n in omega arith

  -- each has one of them
  each_hits : (s n : ℕ) → ((j : ℕ) → j < s → f j < n) → all_hits s n ≡ s
  each_hits zero n low = all_zero n
  each_hits (suc s) n low =
      let a = one_more s n in
      let b : among (f s) n ≡ 1 = among_one (f s) n (low s (omega arith)) in
      let c : all_hits s n ≡ s = each_hits s n (λ j lt. low j (omega arith)) in
      omega arith

  no_hit : (s k : ℕ) → ((j : ℕ) → j < s → f j ≢ k) → hits s k ≡ 0
  no_hit zero k none = refl
  no_hit (suc s) k none = let a : bit (f s == k) ≡ 0 = ap bit (ne_eqb (f s) k (none s (omega arith))) in let b : hits s k ≡ 0 = no_hit s k (λ j lt. none j (omega arith)) in omega arith

  one_hit : (s k j : ℕ) → j < s → f j ≡ k → ((a b : ℕ) → a < s → b < s → f a ≡ f b → a ≡ b) → hits s k ≡ 1
  one_hit zero k j lt is differ = absurd (omega arith)
  one_hit (suc s) k j lt is differ = ⊎_elim
      (λ e.
      let a : bit (f s == k) ≡ 1 = ap bit (eq-eqb (f s) k (ap f (sym e) ∙ is)) in
      let b : hits s k ≡ 0 = no_hit s k (λ i low q. absurd (let z : i ≡ j = differ i j (omega arith) lt (q ∙ sym is) in omega arith)) in
      omega arith)
      (λ ne.
      let a : bit (f s == k) ≡ 0 = ap bit (ne_eqb (f s) k (λ q. ne (differ j s lt (omega arith) (is ∙ sym q)))) in
      let b : hits s k ≡ 1 = one_hit s k j (omega arith) is (λ x y p q. differ x y (omega arith) (omega arith)) in
      omega arith)
      (cases_eq j s)

on_at : (n p : ℕ) → p < n → slice_index_or (replicate n true) p false ≡ true
on_at zero p lt = absurd (omega arith)
on_at (suc n) zero lt = refl
on_at (suc n) (suc p) lt = on_at n p (omega arith)

off_past : (n p : ℕ) → n ≤ p → slice_index_or (replicate n true) p false ≡ false
off_past zero p le = refl
off_past (suc n) zero le = absurd (omega arith)
off_past (suc n) (suc p) le = off_past n p (omega arith)

off_at : (n p : ℕ) → slice_index_or (replicate n false) p false ≡ false
off_at zero p = refl
off_at (suc n) zero = refl
off_at (suc n) (suc p) = off_at n p

at_each : (n v p : ℕ) → p < n → slice_index (replicate n v) p ≡ v
at_each zero v p lt = absurd (omega arith)
at_each (suc n) v zero lt = refl
at_each (suc n) v (suc p) lt = at_each n v p (omega arith)

at_one : (n m p : ℕ) → p < n → slice_index (replicate n 1 ++ replicate m 0) p ≡ 1
at_one zero m p lt = absurd (omega arith)
at_one (suc n) m zero lt = refl
at_one (suc n) m (suc p) lt = at_one n m p (omega arith)

at_zero : (n m p : ℕ) → n ≤ p → slice_index (replicate n 1 ++ replicate m 0) p ≡ 0
at_zero zero zero p le = refl
at_zero zero (suc m) zero le = refl
at_zero zero (suc m) (suc p) le = at_zero zero m p (omega arith)
at_zero (suc n) m zero le = absurd (omega arith)
at_zero (suc n) m (suc p) le = at_zero n m p (omega arith)

-- what stands at an item that steps, or that doesn't
abbrev event_if : Grid → (groups : List Bool) → (p : ℕ) → (steps : Bool) → Option Event
event_if grid groups p steps =
    if steps then Some (Step p)
    else (if (p == first_item (laid grid) (group_of (laid grid) p)) && slice_index_or groups (group_of (laid grid) p) false then Some (Release (group_of (laid grid) p)) else None)

same_length : {A : Type 0} (n : ℕ) (x : A) → length (replicate n x) ≡ n
same_length zero x = refl
same_length (suc n) x = ap suc (same_length n x)

module _ (grid : Grid) (small : IsSmall grid) where
  abbrev count : ℕ
  count = item_count (laid grid)

  abbrev size : ℕ
  size = group_size (laid grid)

  -- of a group all its members step
  module _ (g : ℕ) (lt : g < group_count (laid grid)) where
    abbrev member : ℕ → ℕ
    member j = member_at (laid grid) g j

    inside : (j : ℕ) → j < size → group_of (laid grid) (member j) ≡ g
    inside j low = ((laid_out (laid grid) small.whole).members g lt).inside j low

    hit : (k : ℕ) → k < count → bit ((group_of (laid grid) k == g) && slice_index_or (replicate count true) k false) ≡ hits member size k
    hit k low = ap (λ b. bit ((group_of (laid grid) k == g) && b)) (on_at count k low) ∙ ⊎_elim
        (λ own.
        let at = ((laid_out (laid grid) small.whole).members g lt).every k own in
        let one : hits member size k ≡ 1 = one_hit member size k (number_in_group (laid grid) k) at.0 (sym at.1) ((laid_out (laid grid) small.whole).members g lt).differ in
        ap (λ b. bit (b && true)) (eq-eqb (group_of (laid grid) k) g own) ∙ sym one)
        (λ other.
        let none : hits member size k ≡ 0 = no_hit member size k (λ j jl q. other (ap (group_of (laid grid)) (sym q) ∙ inside j jl)) in
        ap (λ b. bit (b && true)) (ne_eqb (group_of (laid grid) k) g other) ∙ sym none)
        (cases_eq (group_of (laid grid) k) g)

    hits_of : (n : ℕ) → n ≤ count → steps_among grid (replicate count true) g n ≡ all_hits member size n
    hits_of zero le = refl
    hits_of (suc n) le = let a = hit n (omega arith) in let b : steps_among grid (replicate count true) g n ≡ all_hits member size n = hits_of n (omega arith) in omega arith

    group_steps : steps_among grid (replicate count true) g count ≡ size
    group_steps = hits_of count (omega arith) ∙ each_hits member size count (λ j low. (laid_out (laid grid) small.whole).items g (member j) lt (inside j low))

  pub all_step : CountSteps grid (replicate count true) (replicate (group_count (laid grid)) false) (replicate (group_count (laid grid)) size)
  all_step = record {
    long = same_length (group_count (laid grid)) size ∙ sym (same_length (group_count (laid grid)) false);
    each = λ g lt.
        let low : g < group_count (laid grid) = let e = same_length (group_count (laid grid)) false in omega arith in
        at_each (group_count (laid grid)) size g low ∙ sym (group_steps g low) ∙ ap (steps_among grid (replicate count true) g) (sym (same_length count true));
  }

  pub all_set : (places : List ℕ) → places ≡ replicate count 1 ++ replicate (length places - count) 0 → HasRoom count (length places) → Counted grid (replicate count true) (replicate (group_count (laid grid)) false) places
  all_set places are room = record {
    small = small;
    items_are = same_length count true;
    groups_are = same_length (group_count (laid grid)) false;
    long = let a = room.enough in let b = same_length count true in omega arith;
    flags = λ p lt. ap (λ xs. slice_index xs p) are ∙ ⊎_elim
        (λ low. at_one count (length places - count) p low ∙ sym (ap (λ x. if is_some (event_if grid (replicate (group_count (laid grid)) false) p x) then 1 else 0) (on_at count p low)))
        (λ past. at_zero count (length places - count) p past ∙ sym (ap (λ o. if is_some o then 1 else 0) (no_event (slice_index_or (replicate count true) p false) (p == first_item (laid grid) (group_of (laid grid) p)) (slice_index_or (replicate (group_count (laid grid)) false) (group_of (laid grid) p) false) p (group_of (laid grid) p) (off_past count p past) (off_at (group_count (laid grid)) (group_of (laid grid) p)))))
        (cases_lt p count);
    room = λ n h. just n h.enough h.least;
  }
    where
      -- the room is the least power of two
      just : (m : ℕ) → length (replicate count true) ≤ 2 ^ m → ((k : ℕ) → length (replicate count true) ≤ 2 ^ k → m ≤ k) → length places ≡ 2 ^ m
      just m fits least =
          let n = same_length count true in
          let power = room.power in
          let big = room.enough in
          let low : m ≤ room.height = least room.height (omega arith) in
          let up : 2 ^ m ≤ 2 ^ room.height = pow-le-pow_right (omega arith) low in
          let down : length places ≤ 2 ^ m = room.least m (omega arith) in
          omega arith
