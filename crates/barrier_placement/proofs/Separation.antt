-- Where all arrays lie in one space, the needed barriers keep conflicting phases apart.
use Rattle.std.proofs.Common.{◌≡◌, ℕ, suc, ◌<◌, ◌≤◌, ◌⊎◌, Bool, true, false, List, All, sym, ◌∙◌, subst, ⊎_elim, inl, inr, arith}
use Rattle.std.proofs.lemmas.Bool.{cases_lt}
use Rattle.std.proofs.lemmas.List.Elements.{All-contains}
use Rattle.barrier_placement.specs.declared.touches.Touch.{Touch}
use Rattle.barrier_placement.specs.Conflicts.{Space, space_of, Conflict}
use Rattle.barrier_placement.specs.Fencing.{Fencing, stands, orders}
use Rattle.barrier_placement.specs.Needed.{Needed}
use Rattle.barrier_placement.specs.Separates.{Separates}
use Rattle.barrier_placement.proofs.Standing.{search_among}

module _ (touches : List Touch) (space : Space) (once : Bool) (n : ℕ) (fence : ℕ → Fencing) (alone : All (λ x. space_of x.local ≡ space) touches) (need : Needed touches once n fence) where
  only : (s : Space) (p q : ℕ) → Conflict touches s p q → s ≡ space
  only s p q c = sym c.lies_in ∙ All-contains (λ x. space_of x.local ≡ space) touches c.first alone c.first_used

  standing_orders : (q : ℕ) → q ≤ n → stands (fence q) ≡ true → orders space (fence q) ≡ true
  standing_orders q le e =
      let z = need.flagged q le e in
      ⊎_elim
      (λ lt. let w = (need.before z.0 q lt).0 z.1 in subst (λ s. orders s (fence q) ≡ true) (only z.0 w.0 q w.1.conflict) z.1)
      (λ ge. let at : q ≡ n = omega arith in
      let w = (need.closing z.0).0 (subst (λ r. orders z.0 (fence r) ≡ true) at z.1) in
      subst (λ s. orders s (fence q) ≡ true) (only z.0 w.0 w.1 w.2.conflict) z.1)
      (cases_lt q n)

  pub separates : Separates touches space once n fence
  separates = record { within = within; around = around }
    where
      within : (p q : ℕ) → p < q → q < n → Conflict touches space p q → (r : ℕ) × (p < r) × (r ≤ q) × (orders space (fence r) ≡ true)
      within p q lt below c =
          ⊎_elim
          (λ z. let a = z.1 in let b = z.2 in (z.0, omega arith, omega arith, standing_orders z.0 (omega arith) z.3))
          (λ none. (q, lt, omega arith, (need.before space q below).1 (p, record { earlier = lt; since_barrier = λ r low high. none r (omega arith) high; conflict = c })))
          (search_among (λ r. stands (fence r)) (suc p) q)

      around : once ≡ false → (p q : ℕ) → p < n → q < n → Conflict touches space p q → ((r : ℕ) × (p < r) × (r ≤ n) × (orders space (fence r) ≡ true)) ⊎ ((r : ℕ) × (r ≤ q) × (orders space (fence r) ≡ true))
      around more p q pn qn c =
          ⊎_elim
          (λ z. let a = z.1 in let b = z.2 in inl (z.0, omega arith, omega arith, standing_orders z.0 (omega arith) z.3))
          (λ late. ⊎_elim
          (λ z. let a = z.1 in let b = z.2 in inr (z.0, omega arith, standing_orders z.0 (omega arith) z.3))
          (λ early. inl (n, pn, omega arith, (need.closing space).1 (p, q, record { again = more; first_within = pn; second_within = qn; after_last = λ r low high. late r (omega arith) high; before_first = λ r low. early r (omega arith) (omega arith); conflict = c })))
          (search_among (λ r. stands (fence r)) 0 (suc q)))
          (search_among (λ r. stands (fence r)) (suc p) n)
