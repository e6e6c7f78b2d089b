-- What lets a list be reduced in any grouping.
use Rattle.std.specs.Prelude.{ℕ, ◌<◌, ◌^◌, ◌≡◌}

-- a function that is associative and commutative on the numbers below 2^32, and stays among them,
-- with its neutral element
pub record IsRegroup (f : ℕ → ℕ → ℕ) (e : ℕ) : Type 0 where
  pub closed : (a b : ℕ) → a < 2 ^ 32 → b < 2 ^ 32 → f a b < 2 ^ 32
  pub associative : (a b c : ℕ) → a < 2 ^ 32 → b < 2 ^ 32 → c < 2 ^ 32 → f (f a b) c ≡ f a (f b c)
  pub commutative : (a b : ℕ) → a < 2 ^ 32 → b < 2 ^ 32 → f a b ≡ f b a
  pub fits : e < 2 ^ 32
  pub neutral : (a : ℕ) → a < 2 ^ 32 → f e a ≡ a
