-- How great the coefficients of sums are.
use Rattle.std.proofs.Common.{ℕ, zero, suc, ◌+◌, ◌*◌, ◌^◌, ◌≤◌, List, [], ◌∷◌, length, ℤ, pos, negsuc, ◌+ℤ◌, ◌*ℤ◌, arith}
use Rattle.std.specs.Prelude.{unsigned_abs}
use Rattle.std.proofs.lemmas.Int.{unsigned_abs-mul}
use Rattle.std.proofs.lemmas.Nat.{mul-le}
use Rattle.size_arith.specs.declared.poly.Monomial.{Monomial}
use Rattle.size_arith.specs.Polynomial.{Place, Before, Here, After, place, on, placed, put, added, times, add_powers, AllSmall}
use Rattle.size_arith.proofs.Integers.{abs_add}

pub small_more : (a b : ℕ) (p : List Monomial) → a ≤ b → AllSmall a p → AllSmall b p
small_more a b [] h s = tt
small_more a b (m ∷ p) h s = (omega (arith, s.0), small_more a b p h s.1)

small-on : (b : ℕ) (c : ℤ) (ms : List ℕ) (p : List Monomial) → unsigned_abs c ≤ b → AllSmall b p → AllSmall b (on c ms p)
small-on b (pos zero) ms p h s = s
small-on b (pos (suc n)) ms p h s = (h, s)
small-on b (negsuc n) ms p h s = (h, s)

small-put : (a b : ℕ) (c : ℤ) (ms : List ℕ) (p : List Monomial) → unsigned_abs c ≤ a → AllSmall b p → AllSmall (b + a) (put c ms p)
small-put a b c ms [] h s = small-on (b + a) c ms [] (omega arith) tt
small-put a b c ms (m ∷ p) h s = at (place ms m.powers) (small-put a b c ms p h s.1)
  where
    at : (q : Place) → AllSmall (b + a) (put c ms p) → AllSmall (b + a) (placed q c ms m p (put c ms p))
    at Before ih = small-on (b + a) c ms (m ∷ p) (omega arith) (small_more b (b + a) (m ∷ p) (omega arith) s)
    at Here ih = small-on (b + a) (c +ℤ m.coefficient) ms p (omega (arith, s.0, abs_add c m.coefficient)) (small_more b (b + a) p (omega arith) s.1)
    at After ih = (omega (arith, s.0), ih)

small-added : (u v b : ℕ) (by : Monomial) (p sum : List Monomial) → unsigned_abs by.coefficient ≤ u → AllSmall v p → AllSmall b sum → AllSmall (b + length p * (u * v)) (added by p sum)
small-added u v b by [] sum h s t = small_more b (b + 0 * (u * v)) sum (omega arith) t
small-added u v b by (m ∷ p) sum h s t =
    let e = unsigned_abs-mul by.coefficient m.coefficient in
    let f = mul-le (unsigned_abs by.coefficient) (unsigned_abs m.coefficient) u v h s.0 in
    small_more (b + length p * (u * v) + u * v) (b + suc (length p) * (u * v)) _ (omega arith)
    (small-put (u * v) (b + length p * (u * v)) (by.coefficient *ℤ m.coefficient) (add_powers by.powers m.powers) (added by p sum) (omega arith) (small-added u v b by p sum h s.1 t))

small-times : (u v : ℕ) (p q : List Monomial) → AllSmall u p → AllSmall v q → AllSmall (length p * (length q * (u * v))) (times p q)
small-times u v [] q s t = tt
small-times u v (m ∷ p) q s t =
    small_more (length p * (length q * (u * v)) + length q * (u * v)) (suc (length p) * (length q * (u * v))) _ (omega arith)
    (small-added u v (length p * (length q * (u * v))) m q (times p q) s.0 t (small-times u v p q s.1 t))

pub room-added : (by : Monomial) (p sum : List Monomial) → unsigned_abs by.coefficient ≤ 2 ^ 33 → AllSmall (2 ^ 33) p → length p ≤ 32 → AllSmall (2 ^ 99) sum → AllSmall (2 ^ 100) (added by p sum)
room-added by p sum h s l t = small_more (2 ^ 99 + length p * (2 ^ 33 * 2 ^ 33)) (2 ^ 100) _ (omega arith) (small-added (2 ^ 33) (2 ^ 33) (2 ^ 99) by p sum h s t)

pub room-times : (p q : List Monomial) → AllSmall (2 ^ 33) p → AllSmall (2 ^ 33) q → length p ≤ 32 → length q ≤ 32 → AllSmall (2 ^ 99) (times p q)
room-times p q s t l k =
    small_more (length p * (length q * (2 ^ 33 * 2 ^ 33))) (2 ^ 99) _
    (cap (length p) (length q) (mul-le (length p) (length q) 32 32 l k))
    (small-times (2 ^ 33) (2 ^ 33) p q s t)
  where
    cap : (m n : ℕ) → m * n ≤ 32 * 32 → m * (n * (2 ^ 33 * 2 ^ 33)) ≤ 2 ^ 99
    cap m n h = omega arith
