-- How great shares and products are.
use Rattle.std.proofs.Common.{ℕ, zero, suc, ◌+◌, ◌*◌, ◌^◌, ◌<◌, ◌≤◌, List, [], ◌∷◌, length, ℤ, pos, negsuc, ◌*ℤ◌, arith, lit≤}
use Rattle.std.specs.Prelude.{unsigned_abs}
use Rattle.std.proofs.Math.Nat.{pow-suc, pow-zero, pow-le-pow_right, pow-le-pow_left}
use Rattle.std.proofs.lemmas.Nat.{pow-add, mul-le}
use Rattle.std.proofs.lemmas.Int.{unsigned_abs-mul}
use Rattle.size_arith.specs.declared.poly.Monomial.{Monomial}
use Rattle.size_arith.specs.Polynomial.{product, total, value_at, AllSmall, AllLow}
use Rattle.size_arith.specs.Ranges.{AllUpTo}
use Rattle.size_arith.specs.Shown.{share, part, shifted, positive_part, positives_at}
use Rattle.size_arith.proofs.Integers.{abs_add}

pub share_cap : (l m j : ℕ) → l < 2097151 → share l m j ≤ 2097152 ^ m
share_cap l zero zero h = omega (arith, pow-zero 2097152)
share_cap l zero (suc j) h = omega arith
share_cap l (suc m) zero h = rw pow-suc (step l (share l m 0) 0 (2097152 ^ m) h (share_cap l m 0 h) (omega arith))
  where
    step : (l a b p : ℕ) → l < 2097151 → a ≤ p → b ≤ p → l * a ≤ p * 2097152
    step l a b p h q r = grind arith
share_cap l (suc m) (suc j) h = rw pow-suc (step l (share l m j) (share l m (suc j)) (2097152 ^ m) h (share_cap l m j h) (share_cap l m (suc j) h))
  where
    step : (l a b p : ℕ) → l < 2097151 → a ≤ p → b ≤ p → a + l * b ≤ p * 2097152
    step l a b p h q r = grind arith

pub share_fits : (l m j : ℕ) → l < 2097151 → m ≤ 4 → share l m j ≤ 2 ^ 84
share_fits l m j h d = go (2097152 ^ m) (share_cap l m j h) (pow-le-pow_right (lit≤ tt) d)
  where
    go : (c : ℕ) → share l m j ≤ c → c ≤ 2097152 ^ 4 → share l m j ≤ 2 ^ 84
    go c p q = omega arith

one-le-pow : (b n : ℕ) → 1 ≤ b → 1 ≤ b ^ n
one-le-pow b zero h = omega (arith, pow-zero b)
one-le-pow b (suc n) h = rw pow-suc (mul-le 1 1 (b ^ n) b (one-le-pow b n h) h)

pub part_cap : (ls ms js : List ℕ) → AllUpTo 1048576 ls → part ls ms js ≤ 2097152 ^ total ms
part_cap [] ms js a = one-le-pow 2097152 (total ms) (omega arith)
part_cap (l ∷ ls) ms [] a = omega arith
part_cap (l ∷ ls) [] (j ∷ js) a =
    let h = a.0 in
    rw (pow-zero 2097152) (mul-le (share l 0 j) (part ls [] js) 1 1 (rw (pow-zero 2097152) at (share_cap l 0 j (omega arith))) (rw (pow-zero 2097152) at (part_cap ls [] js a.1)))
part_cap (l ∷ ls) (m ∷ ms) (j ∷ js) a =
    let h = a.0 in
    rw (pow-add 2097152 m (total ms)) (mul-le (share l m j) (part ls ms js) (2097152 ^ m) (2097152 ^ total ms) (share_cap l m j (omega arith)) (part_cap ls ms js a.1))

pub part_fits : (ls ms js : List ℕ) → AllUpTo 1048576 ls → total ms ≤ 4 → part ls ms js ≤ 2 ^ 84
part_fits ls ms js a d = go (2097152 ^ total ms) (part_cap ls ms js a) (pow-le-pow_right (lit≤ tt) d)
  where
    go : (c : ℕ) → part ls ms js ≤ c → c ≤ 2097152 ^ 4 → part ls ms js ≤ 2 ^ 84
    go c p q = omega arith

pub share_part_fits : (l m j : ℕ) (ls ms js : List ℕ) → l ≤ 1048576 → AllUpTo 1048576 ls → m + total ms ≤ 4 → share l m j * part ls ms js ≤ 2 ^ 84
share_part_fits l m j ls ms js h a d = part_fits (l ∷ ls) (m ∷ ms) (j ∷ js) (h, a) d

pub ruleset caps = (share_cap, share_fits, part_fits, share_part_fits)

pub product_cap : (ys ms : List ℕ) → AllUpTo 1048576 ys → product ys ms ≤ 1048576 ^ total ms
product_cap [] ms a = one-le-pow 1048576 (total ms) (omega arith)
product_cap (y ∷ ys) [] a = omega (arith, pow-zero 1048576)
product_cap (y ∷ ys) (m ∷ ms) a = rw (pow-add 1048576 m (total ms)) (mul-le (y ^ m) (product ys ms) (1048576 ^ m) (1048576 ^ total ms) (pow-le-pow_left a.0 m) (product_cap ys ms a.1))

pub product_fits : (ys ms : List ℕ) → AllUpTo 1048576 ys → total ms ≤ 4 → product ys ms ≤ 2 ^ 80
product_fits ys ms a d = go (1048576 ^ total ms) (product_cap ys ms a) (pow-le-pow_right (lit≤ tt) d)
  where
    go : (c : ℕ) → product ys ms ≤ c → c ≤ 1048576 ^ 4 → product ys ms ≤ 2 ^ 80
    go c p q = omega arith

pub pow_product_fits : (y m : ℕ) (ys ms : List ℕ) → y ≤ 1048576 → AllUpTo 1048576 ys → m + total ms ≤ 4 → y ^ m * product ys ms ≤ 2 ^ 80
pow_product_fits y m ys ms h a d = product_fits (y ∷ ys) (m ∷ ms) (h, a) d

pub pow_fits : (y m : ℕ) → y ≤ 1048576 → m ≤ 4 → y ^ m ≤ 2 ^ 80
pow_fits y m h d = go (pow-le-pow_left h m) (pow-le-pow_right (lit≤ tt) d)
  where
    go : y ^ m ≤ 1048576 ^ m → 1048576 ^ m ≤ 1048576 ^ 4 → y ^ m ≤ 2 ^ 80
    go p q = omega arith

pub ruleset product_caps = (product_fits, pow_product_fits, pow_fits)

-- a coefficient times a product, and sums of so many
pub term_cap : (c : ℤ) (n : ℕ) → unsigned_abs c ≤ 2 ^ 32 → n ≤ 2 ^ 86 → unsigned_abs (c *ℤ pos n) ≤ 2 ^ 118
term_cap c n h k = omega (arith, unsigned_abs-mul c (pos n), mul-le (unsigned_abs c) n (2 ^ 32) (2 ^ 86) h k)

pub value_cap : (ys : List ℕ) (p : List Monomial) → AllUpTo 1048576 ys → AllSmall (2 ^ 32) p → AllLow 4 p → unsigned_abs (value_at ys p) ≤ length p * 2 ^ 118
value_cap ys [] a s l = omega arith
value_cap ys (m ∷ p) a s l =
    let t = term_cap m.coefficient (product ys m.powers) s.0 (omega (arith, product_fits ys m.powers a l.0)) in
    omega (arith, abs_add (m.coefficient *ℤ pos (product ys m.powers)) (value_at ys p), value_cap ys p a s.1 l.1)

pub shifted_cap : (ls js : List ℕ) (p : List Monomial) → AllUpTo 1048576 ls → AllSmall (2 ^ 32) p → AllLow 4 p → unsigned_abs (shifted ls p js) ≤ length p * 2 ^ 118
shifted_cap ls js [] a s l = omega arith
shifted_cap ls js (m ∷ p) a s l =
    let t = term_cap m.coefficient (part ls m.powers js) s.0 (omega (arith, part_fits ls m.powers js a l.0)) in
    omega (arith, abs_add (m.coefficient *ℤ pos (part ls m.powers js)) (shifted ls p js), shifted_cap ls js p a s.1 l.1)

positive_cap : (c : ℤ) → positive_part c ≤ unsigned_abs c
positive_cap (pos n) = omega arith
positive_cap (negsuc n) = omega arith

pub positives_cap : (ys : List ℕ) (p : List Monomial) → AllUpTo 1048576 ys → AllSmall (2 ^ 32) p → AllLow 4 p → positives_at ys p ≤ length p * 2 ^ 112
positives_cap ys [] a s l = omega arith
positives_cap ys (m ∷ p) a s l =
    let c = s.0 in
    let t = mul-le (positive_part m.coefficient) (product ys m.powers) (2 ^ 32) (2 ^ 80) (omega (arith, positive_cap m.coefficient)) (product_fits ys m.powers a l.0) in
    omega (arith, positives_cap ys p a s.1 l.1)
