-- Numbers in row-major order: rows, what is moved, and what is turned round.
use Rattle.std.proofs.Common.{◌≡◌, ℕ, ◌+◌, ◌-◌, ◌*◌, ◌/◌, ◌%◌, ◌<◌, ◌≤◌, ◌^◌, sym, ap, ◌∙◌, arith}
use Rattle.std.proofs.Math.Nat.{mod-lt, mod-eq_of_lt, div-lt_iff_lt-mul}
use Rattle.std.proofs.lemmas.Nat.{div-add-mod', mul-le}
use Rattle.lift_ir.proofs.Positions.{join_in, quotient, remainder}
use Rattle.output_owner.specs.Numbers.{moved, turned}
use Rattle.output_owner.proofs.Products.{first_below, first_some, second_below, second_some}

spread : (i j m s r : ℕ) → (i * m + j) * s + r ≡ i * (m * s) + (j * s + r)
spread i j m s r = grind arith

-- rows of m elements, each of s scalars
pub record InRows (k s m : ℕ) : Type 0 where
  pub row : k / (m * s) ≡ k / s / m
  pub element : k % (m * s) / s ≡ k / s % m
  pub scalar : k % (m * s) % s ≡ k % s

pub in_rows : (k s m : ℕ) → 0 < s → 0 < m → InRows k s m
in_rows k s m hs hm =
    let i = k / s / m in
    let j = k / s % m in
    let r = k % s in
    let lr : r < s = mod-lt k hs in
    let lj : j < m = mod-lt (k / s) hm in
    let low : j * s + r < m * s = join_in j r s m lj lr in
    let is : k ≡ i * (m * s) + (j * s + r) = sym (div-add-mod' k s) ∙ ap (λ z. z * s + r) (sym (div-add-mod' (k / s) m)) ∙ spread i j m s r in
    let rest : k % (m * s) ≡ j * s + r = ap (λ z. z % (m * s)) is ∙ remainder i (j * s + r) (m * s) low in
    record {
      row = ap (λ z. z / (m * s)) is ∙ quotient i (j * s + r) (m * s) low;
      element = ap (λ z. z / s) rest ∙ quotient j r s lr;
      scalar = ap (λ z. z % s) rest ∙ remainder j r s lr;
    }

-- what is moved stays within, and each step to it
pub record Moves (n m s k : ℕ) : Type 0 where
  pub scalar : 0 < s
  pub column : 0 < n * s
  pub row : k % (n * s) / s < n
  pub place : k / (n * s) < m
  pub element : k % (n * s) / s * m + k / (n * s) < n * m
  pub below : moved n m s k < n * (m * s)

pub moves : (n m s k : ℕ) → k < n * (m * s) → Moves n m s k
moves n m s k h =
    let turned : n * (m * s) ≡ m * (n * s) = grind arith in
    let low : k < m * (n * s) = omega arith in
    let some : 0 < n * s = second_some m (n * s) (omega arith) in
    let hs : 0 < s = second_some n s some in
    let i = k / (n * s) in
    let c = k % (n * s) in
    let lc : c < n * s = mod-lt k some in
    let lj : c / s < n = (div-lt_iff_lt-mul {k = s} {x = c} {y = n} hs).1 lc in
    let li : i < m = (div-lt_iff_lt-mul {k = n * s} {x = k} {y = m} some).1 low in
    let le : c / s * m + i < n * m = join_in (c / s) i m n lj li in
    let lw : (c / s * m + i) * s + c % s < n * m * s = join_in (c / s * m + i) (c % s) s (n * m) le (mod-lt c hs) in
    let all : n * m * s ≡ n * (m * s) = grind arith in
    record { scalar = hs; column = some; row = lj; place = li; element = le; below = omega arith }

-- the same over words of 64 bits
pub moved_words : (n m s k : ℕ) → k < n * (m * s) → n * (m * s) < 2 ^ 31 → ((k % (n * s) / s * m % 18446744073709551616 + k / (n * s)) % 18446744073709551616 * s % 18446744073709551616 + k % (n * s) % s) % 18446744073709551616 ≡ moved n m s k
moved_words n m s k h few =
    let v = moves n m s k h in
    let j = k % (n * s) / s in
    let i = k / (n * s) in
    let r = k % (n * s) % s in
    let all : n * m * s ≡ n * (m * s) = grind arith in
    let rows : n * m * 1 ≤ n * m * s = mul-le (n * m) 1 (n * m) s (omega arith) v.scalar in
    let one : n * m * 1 ≡ n * m = omega arith in
    let element = v.element in
    let below = v.below in
    let a : j * m < 18446744073709551616 = omega arith in
    let b : j * m + i < 18446744073709551616 = omega arith in
    let c : (j * m + i) * s < 18446744073709551616 = omega arith in
    let d : (j * m + i) * s + r < 18446744073709551616 = omega arith in
    ap (λ z. ((z + i) % 18446744073709551616 * s % 18446744073709551616 + r) % 18446744073709551616) (mod-eq_of_lt a)
    ∙ ap (λ z. (z * s % 18446744073709551616 + r) % 18446744073709551616) (mod-eq_of_lt b)
    ∙ ap (λ z. (z + r) % 18446744073709551616) (mod-eq_of_lt c)
    ∙ mod-eq_of_lt d

-- rows and columns whose lengths are told by words
pub told : (n m s k x y z r : ℕ) → (n < 2 ^ 32 → x ≡ n) → (m < 2 ^ 32 → y ≡ m) → (0 < s → s < 2 ^ 32 → z ≡ s) → (k < x * (y * z) → x * (y * z) < 2 ^ 31 → r ≡ moved x y z k) → n * (m * s) < 2 ^ 31 → k < n * (m * s) → r ≡ moved n m s k
told n m s k x y z r hx hy hz h few low =
    let all : 0 < n * (m * s) = omega arith in
    let row : 0 < m * s = second_some n (m * s) all in
    let n_low : n < 2 ^ 31 = first_below n (m * s) (2 ^ 31) all few in
    let row_low : m * s < 2 ^ 31 = second_below n (m * s) (2 ^ 31) all few in
    let m_low : m < 2 ^ 31 = first_below m s (2 ^ 31) row row_low in
    let s_low : s < 2 ^ 31 = second_below m s (2 ^ 31) row row_low in
    let ex : x ≡ n = hx (omega arith) in
    let ey : y ≡ m = hy (omega arith) in
    let ez : z ≡ s = hz (second_some m s row) (omega arith) in
    (rw (ex, ey, ez) at h) low few

-- ---- from the last element to the first
pub record Turns (n s k : ℕ) : Type 0 where
  pub scalar : 0 < s
  pub place : n - 1 - k / s < n
  pub below : turned n s k < n * s
  pub element : turned n s k / s ≡ n - 1 - k / s
  pub rest : turned n s k % s ≡ k % s

pub turns : (n s k : ℕ) → k < n * s → Turns n s k
turns n s k h =
    let hs : 0 < s = second_some n s (omega arith) in
    let hn : 0 < n = first_some n s (omega arith) in
    let i = n - 1 - k / s in
    let li : i < n = omega arith in
    let lr : k % s < s = mod-lt k hs in
    record { scalar = hs; place = li; below = join_in i (k % s) s n li lr; element = quotient i (k % s) s lr; rest = remainder i (k % s) s lr }

-- the same over words of 64 bits
pub turned_words : (n s k : ℕ) → k < n * s → n * s < 2 ^ 31 → ((n - 1 - k / s) * s % 18446744073709551616 + k % s) % 18446744073709551616 ≡ turned n s k
turned_words n s k h few =
    let v = turns n s k h in
    let below = v.below in
    let a : (n - 1 - k / s) * s < 18446744073709551616 = omega arith in
    let b : (n - 1 - k / s) * s + k % s < 18446744073709551616 = omega arith in
    ap (λ z. (z + k % s) % 18446744073709551616) (mod-eq_of_lt a) ∙ mod-eq_of_lt b

-- elements whose length is told by words
pub told_turned : (n s k x z r : ℕ) → (n < 2 ^ 32 → x ≡ n) → (0 < s → s < 2 ^ 32 → z ≡ s) → (k < x * z → x * z < 2 ^ 31 → r ≡ turned x z k) → n * s < 2 ^ 31 → k < n * s → r ≡ turned n s k
told_turned n s k x z r hx hz h few low =
    let all : 0 < n * s = omega arith in
    let n_low = first_below n s (2 ^ 31) all few in
    let s_low = second_below n s (2 ^ 31) all few in
    let ex : x ≡ n = hx (omega arith) in
    let ez : z ≡ s = hz (second_some n s all) (omega arith) in
    (rw (ex, ez) at h) low few

-- ---- elements so far from one another
-- of whole rows of p elements
pub rows_of : (n p s : ℕ) → n / p * p ≡ n → n / p * (p * s) ≡ n * s
rows_of n p s h = (let e : n / p * (p * s) ≡ n / p * p * s = grind arith in e) ∙ ap (λ z. z * s) h

pub told_strided : (n p s k x z r : ℕ) → (n < 2 ^ 32 → x ≡ n) → (0 < s → s < 2 ^ 32 → z ≡ s) → (k < x / p * (p * z) → x / p * (p * z) < 2 ^ 31 → r ≡ moved (x / p) p z k) → n / p * p ≡ n → n * s < 2 ^ 31 → k < n * s → r ≡ moved (n / p) p s k
told_strided n p s k x z r hx hz h whole few low =
    let all : 0 < n * s = omega arith in
    let n_low = first_below n s (2 ^ 31) all few in
    let s_low = second_below n s (2 ^ 31) all few in
    let ex : x ≡ n = hx (omega arith) in
    let ez : z ≡ s = hz (second_some n s all) (omega arith) in
    let e = rows_of n p s whole in
    (rw (ex, ez) at h) (omega arith) (omega arith)

-- a step is no longer than what it divides, so it is a word
pub step_word : (n p s : ℕ) → n / p * p ≡ n → 0 < n * s → n * s < 2 ^ 31 → p < 2 ^ 32
step_word n p s whole some few =
    let n_some = first_some n s some in
    let n_low = first_below n s (2 ^ 31) some few in
    let low = second_below (n / p) p (2 ^ 31) (omega arith) (omega arith) in
    omega (arith, low)

-- r rows of p elements
pub stride_moves : (p r s k : ℕ) → 0 < s → 0 < r → moved r p s k ≡ (k / s % r * p + k / s / r) * s + k % s
stride_moves p r s k hs hr =
    let rows = in_rows k s r hs hr in
    ap (λ z. (z * p + k / (r * s)) * s + k % (r * s) % s) rows.element ∙ ap (λ z. (k / s % r * p + z) * s + k % (r * s) % s) rows.row ∙ ap (λ z. (k / s % r * p + k / s / r) * s + z) rows.scalar
