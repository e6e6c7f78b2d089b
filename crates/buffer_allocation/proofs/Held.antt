-- Counts that stand still, and lists that are added to.
use Rattle.std.proofs.Common.{◌≡◌, ℕ, zero, suc, ◌+◌, ◌*◌, ◌<◌, ◌≤◌, ◌∷◌, ◌++◌, sym, ap, ◌∙◌, arith, ⊎_elim}
use Rattle.std.specs.Prelude.{min, replicate}
use Rattle.std.proofs.lemmas.List.{append_assoc, append-nil}
use Rattle.std.proofs.lemmas.Bool.{cases_lt}
use Rattle.std.proofs.lemmas.Nat.{mul-le}
use Rattle.buffer_allocation.specs.Copies.{held}

-- where one is above the cap, and the other isn't 0, so is the product
above : (c a b : ℕ) → c ≤ a → 1 ≤ b → c ≤ a * b
above c a b h k = let m = mul-le c 1 a b h k in let z : c * 1 ≡ c = omega arith in omega arith

capped : (c a b : ℕ) → 1 ≤ c → min (min a c * min b c) c ≡ min (a * b) c
capped c a zero one =
    let x : min 0 c ≡ 0 = omega arith in
    let y : min a c * 0 ≡ 0 = omega arith in
    let z : a * 0 ≡ 0 = omega arith in
    ap (λ t. min (min a c * t) c) x ∙ ap (λ t. min t c) (y ∙ sym z)
capped c zero (suc b) one =
    let x : min 0 c ≡ 0 = omega arith in
    let y : 0 * min (suc b) c ≡ 0 = omega arith in
    let z : 0 * suc b ≡ 0 = omega arith in
    ap (λ t. min (t * min (suc b) c) c) x ∙ ap (λ t. min t c) (y ∙ sym z)
capped c (suc a) (suc b) one = ⊎_elim small left (cases_lt (suc a) c) where
  right : min (suc a) c ≡ suc a → c ≤ suc b → min (min (suc a) c * min (suc b) c) c ≡ min (suc a * suc b) c
  right e h =
      let f : min (suc b) c ≡ c = omega arith in
      let p : c ≤ c * suc a = above c c (suc a) (omega arith) (omega arith) in
      let q : c ≤ suc b * suc a = above c (suc b) (suc a) h (omega arith) in
      let r : suc a * c ≡ c * suc a = omega arith in
      let s : suc a * suc b ≡ suc b * suc a = omega arith in
      ap (λ t. min (t * min (suc b) c) c) e ∙ ap (λ t. min (suc a * t) c) f ∙ (let u : min (suc a * c) c ≡ c = omega arith in let v : min (suc a * suc b) c ≡ c = omega arith in u ∙ sym v)

  small : suc a < c → min (min (suc a) c * min (suc b) c) c ≡ min (suc a * suc b) c
  small h =
      let e : min (suc a) c ≡ suc a = omega arith in
      ⊎_elim (λ k. ap (λ t. min (t * min (suc b) c) c) e ∙ ap (λ t. min (suc a * t) c) (let f : min (suc b) c ≡ suc b = omega arith in f)) (λ k. right e k) (cases_lt (suc b) c)

  left : c ≤ suc a → min (min (suc a) c * min (suc b) c) c ≡ min (suc a * suc b) c
  left h =
      let e : min (suc a) c ≡ c = omega arith in
      let n : 1 ≤ min (suc b) c = omega arith in
      let p : c ≤ c * min (suc b) c = above c c (min (suc b) c) (omega arith) n in
      let q : c ≤ suc a * suc b = above c (suc a) (suc b) h (omega arith) in
      ap (λ t. min (t * min (suc b) c) c) e ∙ (let u : min (c * min (suc b) c) c ≡ c = omega arith in let v : min (suc a * suc b) c ≡ c = omega arith in u ∙ sym v)

-- the product of counts that stand still
pub held_product : (a b : ℕ) → min (held a * held b) 18446744073709551615 ≡ held (a * b)
held_product a b = capped 18446744073709551615 a b (omega arith)

pub ruleset products = (held_product)

-- ---- a number for each component
pub two_repeats : (m n x : ℕ) → replicate m x ++ replicate n x ≡ replicate (m + n) x
two_repeats zero n x = ap (λ k. replicate k x) (let z : n ≡ 0 + n = omega arith in z)
two_repeats (suc m) n x = ap (λ xs. x ∷ xs) (two_repeats m n x) ∙ ap (λ k. replicate k x) (let z : suc (m + n) ≡ suc m + n = omega arith in z)

pub ruleset components = (two_repeats, append_assoc)

pub ruleset lists = (append_assoc, append-nil)

-- ---- sums

pub ended : (t s : ℕ) → t ≤ 18446744073709551615 → held (t + 0) ≡ held s → t ≡ held s
ended t s lt e = (let z : t ≡ held (t + 0) = omega arith in z) ∙ e

pub times_four : (s : ℕ) → min (held s * 4) 18446744073709551615 ≡ held (4 * s)
times_four s = omega arith

pub ruleset bytes = (times_four)

-- what is counted is within a limit where the count is
pub within : (n limit count : ℕ) → limit < 18446744073709551615 → count ≡ held n → count ≤ limit → n ≤ limit
within n limit count low e h = omega arith
