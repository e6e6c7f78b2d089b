-- No places that keep the conflicting phases of a turn apart are fewer than the needed barriers.
use Rattle.std.proofs.Common.{◌≡◌, ℕ, zero, suc, ◌-◌, ◌<◌, ◌≤◌, Bool, true, false, List, refl, sym, ap, ◌∙◌, subst, ⊎_elim, arith}
use Rattle.std.specs.Prelude.{if◌then◌else◌}
use Rattle.std.proofs.lemmas.Bool.{cases_lt, cases_Bool, true≢false}
use Rattle.barrier_placement.specs.declared.touches.Touch.{Touch}
use Rattle.barrier_placement.specs.Fencing.{Fencing, stands}
use Rattle.barrier_placement.specs.Needed.{Needed}
use Rattle.barrier_placement.specs.Separates.{SeparatesTurn, bit, count_of}

count_grows : (places : ℕ → Bool) (x y : ℕ) → x ≤ y → count_of places x ≤ count_of places y
count_grows places x zero le = let e : x ≡ zero = omega arith in subst (λ z. count_of places z ≤ 0) (sym e) (omega arith)
count_grows places x (suc y) le =
    ⊎_elim
    (λ low. let k = count_grows places x y (omega arith) in let w = bit (places (suc y)) in omega arith)
    (λ high. let e : x ≡ suc y = omega arith in subst (λ z. count_of places z ≤ count_of places (suc y)) (sym e) (omega arith))
    (cases_lt x (suc y))

-- a place behind x and at most at r counts
counted : (places : ℕ → Bool) (x r : ℕ) → x < r → places r ≡ true → suc (count_of places x) ≤ count_of places r
counted places x zero lt e = absurd (omega arith)
counted places x (suc r) lt e = let k = count_grows places x r (omega arith) in let w : bit (places (suc r)) ≡ 1 = ap bit e in omega arith

module _ (touches : List Touch) (once : Bool) (n : ℕ) (fence : ℕ → Fencing) (places : ℕ → Bool) (need : Needed touches once n fence) (apart : SeparatesTurn touches n places) where
  -- the last place up to this one with a barrier, and 0 where there is none
  abbrev last : ℕ → ℕ
  last zero = zero
  last (suc q) = if stands (fence (suc q)) then suc q else last q

  last_is : (q : ℕ) (b : Bool) → stands (fence (suc q)) ≡ b → last (suc q) ≡ (if b then suc q else last q)
  last_is q b e = ap (λ x. if x then suc q else last q) e

  last_within : (q : ℕ) → last q ≤ q
  last_within zero = omega arith
  last_within (suc q) = go (stands (fence (suc q))) (last_within q)
    where
      go : (b : Bool) → last q ≤ q → (if b then suc q else last q) ≤ suc q
      go true h = omega arith
      go false h = omega arith

  last_stands : (q : ℕ) → 0 < last q → stands (fence (last q)) ≡ true
  last_stands zero lt = absurd (omega arith)
  last_stands (suc q) lt =
      ⊎_elim
      (λ e. subst (λ y. stands (fence y) ≡ true) (sym (last_is q true e)) e)
      (λ e. subst (λ y. stands (fence y) ≡ true) (sym (last_is q false e)) (last_stands q (subst (λ y. 0 < y) (last_is q false e) lt)))
      (cases_Bool (stands (fence (suc q))))

  -- what conflicts with phase q lies from the last barrier before it on
  from_last : (p q : ℕ) → ((r : ℕ) → p < r → r < suc q → stands (fence r) ≡ false) → last q ≤ p
  from_last p q none =
      ⊎_elim
      (λ lt. let w = last_within q in absurd (true≢false (sym (last_stands q (omega arith)) ∙ none (last q) lt (omega arith))))
      (λ ge. ge)
      (cases_lt p (last q))

  spanned : (q : ℕ) → suc q < n → stands (fence (suc q)) ≡ true → (r : ℕ) × (last q < r) × (r ≤ suc q) × (places r ≡ true)
  spanned q lt e =
      let z = need.flagged (suc q) (omega arith) e in
      let w = (need.before z.0 (suc q) lt).0 z.1 in
      let low = from_last w.0 q w.1.since_barrier in
      let s = apart z.0 w.0 (suc q) w.1.earlier lt w.1.conflict in
      let a = s.1 in
      (s.0, omega arith, s.2, s.3)

  fewer : (q : ℕ) → q < n → count_of (λ r. stands (fence r)) q ≤ count_of places (last q)
  fewer zero lt = omega arith
  fewer (suc q) lt =
      ⊎_elim
      (λ e.
      let z = spanned q lt e in
      let a = counted places (last q) z.0 z.1 z.3 in
      let b = count_grows places z.0 (suc q) z.2 in
      let h = fewer q (omega arith) in
      let w : bit (stands (fence (suc q))) ≡ 1 = ap bit e in
      subst (λ y. count_of (λ r. stands (fence r)) (suc q) ≤ count_of places y) (sym (last_is q true e)) (omega arith))
      (λ e.
      let h = fewer q (omega arith) in
      let w : bit (stands (fence (suc q))) ≡ 0 = ap bit e in
      subst (λ y. count_of (λ r. stands (fence r)) (suc q) ≤ count_of places y) (sym (last_is q false e)) (omega arith))
      (cases_Bool (stands (fence (suc q))))

  pub fewest : count_of (λ r. stands (fence r)) (n - 1) ≤ count_of places (n - 1)
  fewest = go n refl
    where
      go : (m : ℕ) → n ≡ m → count_of (λ r. stands (fence r)) (n - 1) ≤ count_of places (n - 1)
      go zero e = let k : n - 1 ≡ 0 = omega arith in subst (λ x. count_of (λ r. stands (fence r)) x ≤ count_of places x) (sym k) (omega arith)
      go (suc m) e =
          let k : n - 1 ≡ m = omega arith in
          let a = fewer m (omega arith) in
          let b = count_grows places (last m) m (last_within m) in
          subst (λ x. count_of (λ r. stands (fence r)) x ≤ count_of places x) (sym k) (omega arith)

  -- no barrier stands before the first phase
  pub none_first : 0 < n → stands (fence 0) ≡ false
  none_first more =
      ⊎_elim
      (λ e. let z = need.flagged 0 (omega arith) e in let w = (need.before z.0 0 more).0 z.1 in let k = w.1.earlier in absurd (omega arith))
      (λ e. e)
      (cases_Bool (stands (fence 0)))
