-- Factors of products that are words.
use Rattle.std.proofs.Common.{◌≡◌, ℕ, zero, suc, ◌*◌, ◌%◌, ◌<◌, ◌^◌, ap₂, ◌∙◌, arith}
use Rattle.std.proofs.Math.Nat.{mod-eq_of_lt}
use Rattle.std.proofs.lemmas.Nat.{mul-le}

pub first_some : (a b : ℕ) → 0 < a * b → 0 < a
first_some zero b h = let z : 0 * b ≡ 0 = omega arith in omega arith
first_some (suc a) b h = omega arith

pub second_some : (a b : ℕ) → 0 < a * b → 0 < b
second_some a zero h = let z : a * 0 ≡ 0 = omega arith in omega arith
second_some a (suc b) h = omega arith

pub first_below : (a b c : ℕ) → 0 < a * b → a * b < c → a < c
first_below a b c h k = let s = second_some a b h in let m = mul-le a 1 a b (omega arith) s in let z : a * 1 ≡ a = omega arith in omega arith

pub second_below : (a b c : ℕ) → 0 < a * b → a * b < c → b < c
second_below a b c h k = let s = first_some a b h in let m = mul-le 1 b a b s (omega arith) in let z : 1 * b ≡ b = omega arith in omega arith

pub ruleset factors = (first_some, second_some, first_below, second_below)

-- what two factors' words multiply to
pub word_product : (n s l r : ℕ) → (n < 2 ^ 32 → l ≡ n) → (0 < s → s < 2 ^ 32 → r ≡ s) → 0 < n * s → n * s < 2 ^ 32 → l * r % 4294967296 ≡ n * s
word_product n s l r hl hr some word =
    ap₂ (λ x y. x * y % 4294967296) (hl (first_below n s (2 ^ 32) some word)) (hr (second_some n s some) (second_below n s (2 ^ 32) some word)) ∙ mod-eq_of_lt word
