-- Whether a barrier stands among some places.
use Rattle.std.proofs.Common.{◌≡◌, ℕ, zero, suc, ◌<◌, ◌≤◌, ◌⊎◌, Bool, true, false, ap, ◌∙◌, ⊎_elim, inl, inr, arith}
use Rattle.std.proofs.lemmas.Bool.{cases_lt, cases_Bool}

pub search_among : (f : ℕ → Bool) (from to : ℕ) → ((r : ℕ) × (from ≤ r) × (r < to) × (f r ≡ true)) ⊎ ((r : ℕ) → from ≤ r → r < to → f r ≡ false)
search_among f from zero = inr (λ r low high. absurd (omega arith))
search_among f from (suc to) =
    ⊎_elim
    (λ z. let a = z.1 in let b = z.2 in inl (z.0, a, omega arith, z.3))
    (λ none. ⊎_elim
    (λ here. ⊎_elim
    (λ yes. inl (to, here, omega arith, yes))
    (λ no. inr (λ r low high. ⊎_elim (λ below. none r low below) (λ at. let e : r ≡ to = omega arith in ap f e ∙ no) (cases_lt r to)))
    (cases_Bool (f to)))
    (λ past. inr (λ r low high. absurd (omega arith)))
    (at_or_past from to))
    (search_among f from to)
  where
    at_or_past : (a b : ℕ) → (a ≤ b) ⊎ (b < a)
    at_or_past a b = ⊎_elim (λ x. inr x) (λ x. inl x) (cases_lt b a)
