-- How many items of a group have an event of their own.
use Rattle.std.proofs.Common.{◌≡◌, ◌≢◌, ◌+◌, ◌-◌, ◌^◌, ◌≤◌, ◌<◌, ℕ, zero, suc, Bool, true, false, List, length, set, replicate, refl, sym, ap, ◌∙◌, subst, ⊎_elim, ◌⊎◌, inl, inr, arith}
use Rattle.std.specs.Prelude.{◌↔◌, ◌==◌, ◌&&◌, slice_index, slice_index_or, if◌then◌else◌, IsTrue}
use Rattle.std.proofs.Math.ListN.{length-set}
use Rattle.std.proofs.lemmas.Bool.{cases_eq, cases_lt, eq-eqb, ne_eqb, eqb-true}
use Rattle.std.proofs.lemmas.List.{get_or-set_same, get_or-set_other, get_or_past}
use Rattle.kernel_tree.specs.Launch.{group_of}
use Rattle.enabled_events.specs.declared.grid.Grid.{Grid}
use Rattle.enabled_events.specs.Grids.{laid}
use Rattle.enabled_events.specs.Flags.{CountSteps, steps_among, NoneSteps}

abbrev bit : Bool → ℕ
bit b = if b then 1 else 0

bit_small : (b : Bool) → bit b ≤ 1
bit_small true = omega arith
bit_small false = omega arith

module _ (grid : Grid) where
  abbrev its_group : ℕ → ℕ
  its_group k = group_of (laid grid) k

  few_steps : (items : List Bool) (g n : ℕ) → steps_among grid items g n ≤ n
  few_steps items g zero = omega arith
  few_steps items g (suc n) = let a = bit_small ((its_group n == g) && slice_index_or items n false) in let b = few_steps items g n in omega arith

  none_steps : (items : List Bool) (g n : ℕ) → steps_among grid items g n ≡ 0 → (p : ℕ) → p < n → its_group p ≡ g → slice_index_or items p false ≡ false
  none_steps items g zero z p lt own = absurd (omega arith)
  none_steps items g (suc n) z p lt own =
      ⊎_elim
      (λ same. ap (λ q. slice_index_or items q false) same ∙ is_off (its_group n == g) (slice_index_or items n false) (eq-eqb (its_group n) g (ap its_group (sym same) ∙ own)) (omega arith))
      (λ ne. none_steps items g n (omega arith) p (omega arith) own)
      (cases_eq p n)
    where
      is_off : (a b : Bool) → a ≡ true → bit (a && b) ≡ 0 → b ≡ false
      is_off true true e h = absurd (omega arith)
      is_off true false e h = refl
      is_off false b e h = cc

  no_steps : (items : List Bool) (g n : ℕ) → ((p : ℕ) → p < n → its_group p ≡ g → slice_index_or items p false ≡ false) → steps_among grid items g n ≡ 0
  no_steps items g zero none = refl
  no_steps items g (suc n) none =
      let a : bit ((its_group n == g) && slice_index_or items n false) ≡ 0 = by_group (its_group n == g) refl in
      let b = no_steps items g n (λ p lt own. none p (omega arith) own) in
      omega arith
    where
      by_group : (x : Bool) → (its_group n == g) ≡ x → bit (x && slice_index_or items n false) ≡ 0
      by_group true e = ap bit (none n (omega arith) (eqb-true (its_group n) g e))
      by_group false e = refl

  module _ (items : List Bool) (k : ℕ) (b : Bool) (lt : k < length items) where
    -- of another group, or before the item
    unmoved : (g n : ℕ) → (its_group k ≢ g) ⊎ (n ≤ k) → steps_among grid (set items k b) g n ≡ steps_among grid items g n
    unmoved g zero h = refl
    unmoved g (suc n) h =
        let head : bit ((its_group n == g) && slice_index_or (set items k b) n false) ≡ bit ((its_group n == g) && slice_index_or items n false) = ⊎_elim (λ same. at_item same) (λ ne. ap (λ x. bit ((its_group n == g) && x)) (get_or-set_other items k n b false ne)) (cases_eq n k) in
        let tail = unmoved g n (⊎_elim (λ a. inl a) (λ a. inr (omega arith)) h) in
        omega arith
      where
        at_item : n ≡ k → bit ((its_group n == g) && slice_index_or (set items k b) n false) ≡ bit ((its_group n == g) && slice_index_or items n false)
        at_item same = ⊎_elim
            (λ other. let off : (its_group n == g) ≡ false = ne_eqb (its_group n) g (λ e. other (ap its_group (sym same) ∙ e)) in ap (λ x. bit (x && slice_index_or (set items k b) n false)) off ∙ sym (ap (λ x. bit (x && slice_index_or items n false)) off))
            (λ low. absurd (omega arith))
            h

    -- of its group
    moved : (n : ℕ) → k < n → steps_among grid (set items k b) (its_group k) n + bit (slice_index_or items k false) ≡ steps_among grid items (its_group k) n + bit b
    moved zero low = absurd (omega arith)
    moved (suc n) low =
        ⊎_elim
        (λ same.
        let on : (its_group n == its_group k) ≡ true = eq-eqb (its_group n) (its_group k) (ap its_group same) in
        let head : bit ((its_group n == its_group k) && slice_index_or (set items k b) n false) ≡ bit b = ap (λ x. bit (x && slice_index_or (set items k b) n false)) on ∙ ap (λ p. bit (slice_index_or (set items k b) p false)) same ∙ ap bit (get_or-set_same items k b false lt) in
        let old : bit ((its_group n == its_group k) && slice_index_or items n false) ≡ bit (slice_index_or items k false) = ap (λ x. bit (x && slice_index_or items n false)) on ∙ ap (λ p. bit (slice_index_or items p false)) same in
        let tail = unmoved (its_group k) n (inr (omega arith)) in
        omega arith)
        (λ ne.
        let head : bit ((its_group n == its_group k) && slice_index_or (set items k b) n false) ≡ bit ((its_group n == its_group k) && slice_index_or items n false) = ap (λ x. bit ((its_group n == its_group k) && x)) (get_or-set_other items k n b false ne) in
        let tail = moved n (omega arith) in
        omega arith)
        (cases_eq n k)

  module _ (items groups : List Bool) (counts : List ℕ) (c : CountSteps grid items groups counts) where
    pub stopped : (g : ℕ) → g < length groups → (b : Bool) → b ≡ (slice_index counts g == 0) → IsTrue b ↔ NoneSteps (record { grid = grid; items = items; groups = groups }) g
    stopped g lt b is = (
      λ t k own. ⊎_elim
          (λ low. none_steps items g (length items) (sym (c.each g lt) ∙ eqb-true (slice_index counts g) 0 (sym is ∙ t)) k low own)
          (λ past. get_or_past items k false past)
          (cases_lt k (length items)),
      λ none. is ∙ eq-eqb (slice_index counts g) 0 (c.each g lt ∙ no_steps items g (length items) (λ p low own. none p own)),
    )

    -- an item is set, and its group's count
    pub recount : (k : ℕ) (b : Bool) (n : ℕ) → k < length items → its_group k < length groups → length items ≤ 65536
        → (bit (slice_index_or items k false) ≤ slice_index counts (its_group k) → slice_index counts (its_group k) < 2 ^ 32 - 1 → n + bit (slice_index_or items k false) ≡ slice_index counts (its_group k) + bit b)
        → CountSteps grid (set items k b) groups (set counts (its_group k) n)
    recount k b n lt within small h = record {
      long = length-set counts (its_group k) n ∙ c.long;
      each = λ g low. (⊎_elim (λ same. subst (λ z. slice_index (set counts (its_group k) n) z ≡ steps_among grid (set items k b) z (length items)) (sym same) own) (λ ne. other g low ne) (cases_eq g (its_group k))) ∙ ap (steps_among grid (set items k b) g) (sym (length-set items k b));
    }
      where
        was : slice_index counts (its_group k) ≡ steps_among grid items (its_group k) (length items)
        was = c.each (its_group k) within

        own : slice_index (set counts (its_group k) n) (its_group k) ≡ steps_among grid (set items k b) (its_group k) (length items)
        own =
            let few = few_steps items (its_group k) (length items) in
            let counted = was in
            let changed = moved items k b lt (length items) lt in
            let some : bit (slice_index_or items k false) ≤ steps_among grid items (its_group k) (length items) = one_there (slice_index_or items k false) refl in
            let e : n + bit (slice_index_or items k false) ≡ slice_index counts (its_group k) + bit b = h (omega arith) (omega arith) in
            let set_is : slice_index (set counts (its_group k) n) (its_group k) ≡ n = get_or-set_same counts (its_group k) n 0 (let z = c.long in omega arith) in
            omega arith
          where
            one_there : (x : Bool) → slice_index_or items k false ≡ x → bit x ≤ steps_among grid items (its_group k) (length items)
            one_there false e = omega arith
            one_there true e =
                ⊎_elim (λ z. let off = none_steps items (its_group k) (length items) (omega arith) k lt refl in let both : true ≡ false = sym e ∙ off in cc) (λ le. omega arith) (cases_lt (steps_among grid items (its_group k) (length items)) 1)

        other : (g : ℕ) → g < length groups → g ≢ its_group k → slice_index (set counts (its_group k) n) g ≡ steps_among grid (set items k b) g (length items)
        other g gl ne =
            get_or-set_other counts (its_group k) g n 0 ne ∙ c.each g gl ∙ sym (unmoved items k b lt g (length items) (inl (λ e. ne (sym e))))

  -- at the start
  pub none_counted : (n m : ℕ) → CountSteps grid (replicate n false) (replicate m false) (replicate m 0)
  none_counted n m = record {
    long = length_same m zero ∙ sym (length_same m false);
    each = λ g lt. at_zero m g ∙ sym (no_steps (replicate n false) g (length (replicate n false)) (λ p low own. at_off n p));
  }
    where
      length_same : {A : Type 0} (m : ℕ) (x : A) → length (replicate m x) ≡ m
      length_same zero x = refl
      length_same (suc m) x = ap suc (length_same m x)

      at_zero : (m g : ℕ) → slice_index (replicate m 0) g ≡ 0
      at_zero zero g = refl
      at_zero (suc m) zero = refl
      at_zero (suc m) (suc g) = at_zero m g

      at_off : (n p : ℕ) → slice_index_or (replicate n false) p false ≡ false
      at_off zero p = refl
      at_off (suc n) zero = refl
      at_off (suc n) (suc p) = at_off n p

  -- a group's flag counts nothing
  pub group_kept : (items groups : List Bool) (counts : List ℕ) (g : ℕ) (on : Bool) → CountSteps grid items groups counts → CountSteps grid items (set groups g on) counts
  group_kept items groups counts g on c = record {
    long = c.long ∙ sym (length-set groups g on);
    each = λ h lt. c.each h (let e = length-set groups g on in omega arith);
  }
