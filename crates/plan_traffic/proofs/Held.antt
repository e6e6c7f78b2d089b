-- Products of a held count.
use Rattle.std.proofs.Common.{◌≡◌, ℕ, zero, suc, ◌+◌, ◌-◌, ◌*◌, ◌<◌, ◌≤◌, ◌^◌, ap, ◌∙◌, ⊎_elim, arith}
use Rattle.std.specs.Prelude.{min}
use Rattle.std.proofs.lemmas.Bool.{cases_lt}
use Rattle.item_traffic.specs.Counts.{held}

-- a held count times a number, held again
pub held_times : (r x n a : ℕ) → r ≡ min (x * n) (2 ^ 64 - 1) → x ≡ held a → r ≡ held (a * n)
held_times r x zero a p q = p ∙ (let e : x * zero ≡ a * zero = omega arith in ap held e)
held_times r x (suc n) a p q = ⊎_elim small large (cases_lt a (2 ^ 64))
  where
    small : a < 2 ^ 64 → r ≡ held (a * suc n)
    small lt = let e : x ≡ a = omega arith in p ∙ ap (λ z. held (z * suc n)) e

    large : 2 ^ 64 ≤ a → r ≡ held (a * suc n)
    large le =
        let e : x ≡ 2 ^ 64 - 1 = omega arith in
        let f : x * suc n ≡ x * n + x = grind arith in
        let g : a * suc n ≡ a * n + a = grind arith in
        let m = x * n in
        let k = a * n in
        omega arith
