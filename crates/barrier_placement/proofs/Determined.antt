-- The uses tell the needed barriers.
use Rattle.std.proofs.Common.{◌≡◌, ℕ, zero, suc, ◌<◌, ◌≤◌, Bool, true, false, List, refl, sym, ap, ◌∙◌, subst, ⊎_elim, arith}
use Rattle.std.proofs.lemmas.Bool.{cases_lt, true≢false}
use Rattle.barrier_placement.specs.declared.touches.Touch.{Touch}
use Rattle.barrier_placement.specs.Conflicts.{Space, Local, Global}
use Rattle.barrier_placement.specs.Fencing.{Fencing, Open, Fenced, stands, orders}
use Rattle.barrier_placement.specs.Needed.{Needed, NeedsBefore, NeedsClosing}

same_flag : (a b : Bool) → (a ≡ true → b ≡ true) → (b ≡ true → a ≡ true) → a ≡ b
same_flag true true f g = refl
same_flag true false f g = sym (f refl)
same_flag false true f g = g refl
same_flag false false f g = refl

same_fencing : (f g : Fencing) → ((space : Space) → orders space f ≡ true → orders space g ≡ true) → ((space : Space) → orders space g ≡ true → orders space f ≡ true) → (stands f ≡ true → (space : Space) × (orders space f ≡ true)) → (stands g ≡ true → (space : Space) × (orders space g ≡ true)) → f ≡ g
same_fencing Open Open to from one other = refl
same_fencing Open (Fenced c d) to from one other = let z = other refl in absurd (true≢false (sym (from z.0 z.1)))
same_fencing (Fenced a b) Open to from one other = let z = one refl in absurd (true≢false (sym (to z.0 z.1)))
same_fencing (Fenced a b) (Fenced c d) to from one other = ap (λ x. Fenced x b) (same_flag a c (to Local) (from Local)) ∙ ap (λ x. Fenced c x) (same_flag b d (to Global) (from Global))

-- what needs a barrier before phase q hangs on the earlier places alone
pub needs_before : (touches : List Touch) (f g : ℕ → Fencing) (space : Space) (p q : ℕ) → ((r : ℕ) → r < q → f r ≡ g r) → NeedsBefore touches f space p q → NeedsBefore touches g space p q
needs_before touches f g space p q same need = record {
  earlier = need.earlier;
  since_barrier = λ r low high. ap stands (sym (same r high)) ∙ need.since_barrier r low high;
  conflict = need.conflict;
}

pub needs_closing : (touches : List Touch) (once : Bool) (n : ℕ) (f g : ℕ → Fencing) (space : Space) (p q : ℕ) → ((r : ℕ) → r < n → f r ≡ g r) → NeedsClosing touches once n f space p q → NeedsClosing touches once n g space p q
needs_closing touches once n f g space p q same need = record {
  again = need.again;
  first_within = need.first_within;
  second_within = need.second_within;
  after_last = λ r low high. ap stands (sym (same r high)) ∙ need.after_last r low high;
  before_first = λ r low. let k = need.second_within in ap stands (sym (same r (omega arith))) ∙ need.before_first r low;
  conflict = need.conflict;
}

module _ (touches : List Touch) (once : Bool) (n : ℕ) (one other : ℕ → Fencing) (of_one : Needed touches once n one) (of_other : Needed touches once n other) where
  same_at : (q : ℕ) → q < n → ((r : ℕ) → r < q → one r ≡ other r) → one q ≡ other q
  same_at q lt same =
      same_fencing (one q) (other q)
      (λ s e. let z = (of_one.before s q lt).0 e in (of_other.before s q lt).1 (z.0, needs_before touches one other s z.0 q same z.1))
      (λ s e. let z = (of_other.before s q lt).0 e in (of_one.before s q lt).1 (z.0, needs_before touches other one s z.0 q (λ r h. sym (same r h)) z.1))
      (of_one.flagged q (omega arith))
      (of_other.flagged q (omega arith))

  same_below : (m : ℕ) → m ≤ n → (r : ℕ) → r < m → one r ≡ other r
  same_below zero le r lt = absurd (omega arith)
  same_below (suc m) le r lt =
      ⊎_elim
      (λ low. same_below m (omega arith) r low)
      (λ high. let e : r ≡ m = omega arith in subst (λ x. one x ≡ other x) (sym e) (same_at m (omega arith) (λ x h. same_below m (omega arith) x h)))
      (cases_lt r m)

  pub determined : (q : ℕ) → q ≤ n → one q ≡ other q
  determined q le =
      ⊎_elim
      (λ lt. same_below n (omega arith) q lt)
      (λ ge. let e : q ≡ n = omega arith in subst (λ x. one x ≡ other x) (sym e) closing)
      (cases_lt q n)
    where
      below : (r : ℕ) → r < n → one r ≡ other r
      below = same_below n (omega arith)

      closing : one n ≡ other n
      closing =
          same_fencing (one n) (other n)
          (λ s e. let z = (of_one.closing s).0 e in (of_other.closing s).1 (z.0, z.1, needs_closing touches once n one other s z.0 z.1 below z.2))
          (λ s e. let z = (of_other.closing s).0 e in (of_one.closing s).1 (z.0, z.1, needs_closing touches once n other one s z.0 z.1 (λ r h. sym (below r h)) z.2))
          (of_one.flagged n (omega arith))
          (of_other.flagged n (omega arith))
