-- Laws of the whole numbers.
use Rattle.std.proofs.Math.Nat.{eq_of_mul-eq-mul_left}
use Rattle.std.proofs.Common.{◌≡◌, ℕ, ◌+◌, ◌*◌, ◌<◌, ◌≤◌, ℤ, pos, negsuc, ◌+ℤ◌, ◌*ℤ◌, ap, arith}
use Rattle.std.specs.Prelude.{unsigned_abs}
use Rattle.std.proofs.lemmas.Int.{ints}
use borrow.Author.Differences.{up, down, sum_is_lem, product_is, same_in}

pub add_mul : (a b c : ℤ) → (a +ℤ b) *ℤ c ≡ (a *ℤ c) +ℤ (b *ℤ c)
add_mul a b c = omega (arith, ints, ap (λ n. n * up c) (sum_is_lem a b), ap (λ n. n * down c) (sum_is_lem a b))

pub mul_mul : (a b : ℤ) (m n : ℕ) → (a *ℤ b) *ℤ pos (m * n) ≡ (a *ℤ pos m) *ℤ (b *ℤ pos n)
mul_mul a b m n =
    let p = a *ℤ pos m in
    let q = b *ℤ pos n in
    let e = product_is a (pos m) in
    let f = product_is b (pos n) in
    let g = product_is a b in
    let h = product_is p q in
    let k = product_is (a *ℤ b) (pos (m * n)) in
    let u = rw (e.0, e.1, f.0, f.1) at h.0 in
    let v = rw (e.0, e.1, f.0, f.1) at h.1 in
    let w = rw (g.0, g.1) at k.0 in
    let x = rw (g.0, g.1) at k.1 in
    omega (arith, same_in)

pub mul_add : (a b c : ℤ) → a *ℤ (b +ℤ c) ≡ (a *ℤ b) +ℤ (a *ℤ c)
mul_add a b c = omega (arith, ints, ap (λ n. n * up a) (sum_is_lem b c), ap (λ n. n * down a) (sum_is_lem b c))

pub mul_both : (a : ℤ) (m n : ℕ) → a *ℤ pos (m * n) ≡ (a *ℤ pos m) *ℤ pos n
mul_both a m n =
    let e = product_is a (pos m) in
    let h = product_is (a *ℤ pos m) (pos n) in
    let k = product_is a (pos (m * n)) in
    let u = rw (e.0, e.1) at h.0 in
    let v = rw (e.0, e.1) at h.1 in
    omega (arith, same_in)

pub mul_left : (m n : ℕ) (a : ℤ) → pos (m * n) *ℤ a ≡ pos n *ℤ (pos m *ℤ a)
mul_left m n a =
    let e = product_is (pos m) a in
    let h = product_is (pos n) (pos m *ℤ a) in
    let k = product_is (pos (m * n)) a in
    let u = rw (e.0, e.1) at h.0 in
    let v = rw (e.0, e.1) at h.1 in
    omega (arith, same_in)

pub cancel : (t : ℕ) (a b : ℤ) → 0 < t → pos t *ℤ a ≡ pos t *ℤ b → a ≡ b
cancel t a b h e =
    let p = product_is (pos t) a in
    let q = product_is (pos t) b in
    let f = ap up e in
    let g = ap down e in
    let s : t * (up a + down b) ≡ t * (up b + down a) = omega arith in
    let r = eq_of_mul-eq-mul_left t h (up a + down b) (up b + down a) s in
    omega (arith, same_in)

abs_parts : (z : ℤ) → unsigned_abs z ≡ up z + down z
abs_parts (pos n) = omega arith
abs_parts (negsuc n) = omega arith

abs_within : (z : ℤ) (n : ℕ) → up z ≤ down z + n → down z ≤ up z + n → unsigned_abs z ≤ n
abs_within (pos k) n h g = omega arith
abs_within (negsuc k) n h g = omega arith

pub abs_add : (a b : ℤ) → unsigned_abs (a +ℤ b) ≤ unsigned_abs a + unsigned_abs b
abs_add a b =
    let s = sum_is_lem a b in
    let p = abs_parts a in
    let q = abs_parts b in
    abs_within (a +ℤ b) (unsigned_abs a + unsigned_abs b) (omega arith) (omega arith)

pub one_times : (z : ℤ) → pos 1 *ℤ z ≡ z
one_times z = omega (arith, ints)

-- the value is at least minus its absolute value, and at most that
pub abs_bounds : (z : ℤ) (n : ℕ) → unsigned_abs z ≤ n → (up z ≤ n) × (down z ≤ n)
abs_bounds (pos k) n h = (omega arith, omega arith)
abs_bounds (negsuc k) n h = (omega arith, omega arith)
