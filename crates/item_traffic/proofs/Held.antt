-- Sums and products of held counts.
use Rattle.std.proofs.Common.{◌≡◌, ℕ, zero, suc, ◌+◌, ◌-◌, ◌*◌, ◌<◌, ◌≤◌, ◌^◌, ap, ◌∙◌, ⊎_elim, arith}
use Rattle.std.specs.Prelude.{min}
use Rattle.std.proofs.lemmas.Bool.{cases_lt}
use Rattle.item_traffic.specs.Counts.{held}

-- of two held counts, held again
pub added : (r x y a b : ℕ) → r ≡ min (x + y) (2 ^ 64 - 1) → x ≡ held a → y ≡ held b → r ≡ held (a + b)
added r x y a b p q s = omega arith

pub times : (r t x a : ℕ) → r ≡ min (t * x) (2 ^ 64 - 1) → x ≡ held a → r ≡ held (t * a)
times r zero x a p q = p ∙ (let e : zero * x ≡ zero * a = omega arith in ap held e)
times r (suc t) x a p q = ⊎_elim small large (cases_lt a (2 ^ 64))
  where
    small : a < 2 ^ 64 → r ≡ held (suc t * a)
    small lt = let e : x ≡ a = omega arith in p ∙ ap (λ z. held (suc t * z)) e

    large : 2 ^ 64 ≤ a → r ≡ held (suc t * a)
    large le =
        let e : x ≡ 2 ^ 64 - 1 = omega arith in
        let f : suc t * x ≡ t * x + x = grind arith in
        let g : suc t * a ≡ t * a + a = grind arith in
        let m = t * x in
        let n = t * a in
        omega arith
