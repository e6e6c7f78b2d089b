-- Sizes by number, and products of lengths that stand still at a bound.
use Rattle.std.proofs.Common.{◌≡◌, ℕ, zero, suc, ◌+◌, ◌*◌, ◌/◌, ◌<◌, ◌≤◌, ◌^◌, List, [], ◌∷◌, length, drop, refl, sym, ap, ◌∙◌, arith}
use Rattle.std.specs.Prelude.{map, get_or, min, ◌⊎◌}
use Rattle.std.proofs.lemmas.List.{drop_more}
use Rattle.std.proofs.lemmas.Nat.{mul-lt, mul-le}
use Rattle.std.proofs.Math.Logic.{inl, inr}
use Rattle.std.proofs.Math.Nat.{div-eq_of_lt, div-zero, min-eq_left, min-eq_right}
use Rattle.size_arith.specs.Ranges.{sizes_at}
use Rattle.lift_tree.specs.declared.length.Factor.{Factor}
use Rattle.lift_tree.specs.declared.program.Size.{Size}
use Rattle.lift_tree.specs.Lists.{pieces}
use Rattle.lift_tree.specs.Meaning.{factor_at, nth_size, product_at}
use Rattle.lift_tree.specs.Values.{Value}
use Rattle.lift_tree.specs.WorkedOut.{range_of}
use Rattle.pattern_value.specs.declared.evaluate.World as held
use Rattle.pattern_value.specs.World.{world_of}
use Rattle.pattern_value.proofs.Layouts.{length-values}

pub size-get : (ss : List Size) (ys : List ℕ) (n : ℕ) (s : Size) (y : ℕ) → n < length ss → n < length ys → (get_or ss n s).multiple * get_or ys n y ≡ nth_size (sizes_at (map range_of ss) ys) n
size-get [] ys n s y h k = absurd (omega arith)
size-get (t ∷ ss) [] n s y h k = absurd (omega arith)
size-get (t ∷ ss) (z ∷ ys) zero s y h k = refl
size-get (t ∷ ss) (z ∷ ys) (suc n) s y h k = size-get ss ys n s y (omega arith) (omega arith)

pub no_size : (ss : List Size) (ys : List ℕ) (n : ℕ) → length ss ≤ n → nth_size (sizes_at (map range_of ss) ys) n ≡ 0
no_size [] ys n h = refl
no_size (t ∷ ss) [] n h = refl
no_size (t ∷ ss) (z ∷ ys) zero h = absurd (omega arith)
no_size (t ∷ ss) (z ∷ ys) (suc n) h = no_size ss ys n (omega arith)

pub no_base : (ss : List Size) (ys : List ℕ) (n : ℕ) → length ys ≤ n → nth_size (sizes_at (map range_of ss) ys) n ≡ 0
no_base [] ys n h = refl
no_base (t ∷ ss) [] n h = refl
no_base (t ∷ ss) (z ∷ ys) zero h = absurd (omega arith)
no_base (t ∷ ss) (z ∷ ys) (suc n) h = no_base ss ys n (omega arith)

pub words_fit : (a b : ℕ) → a < 2 ^ 32 → b < 2 ^ 32 → a * b < 2 ^ 64
words_fit a b h k = mul-lt a b (2 ^ 32) (2 ^ 32) h k

pub ruleset size_numbers = (words_fit, size-get, no_size, no_base)

pub world_sizes : (w : held.World) → (world_of w).sizes ≡ sizes_at (map range_of w.sizes.now) w.bases.now
unfolding world_of
world_sizes w = refl

-- ---- a product that stands still
le_or : (a b : ℕ) → a ≤ b ⊎ b ≤ a
le_or zero b = inl (omega arith)
le_or (suc a) zero = inr (omega arith)
le_or (suc a) (suc b) = more (le_or a b)
  where
    more : a ≤ b ⊎ b ≤ a → suc a ≤ suc b ⊎ suc b ≤ suc a
    more (inl h) = inl (omega arith)
    more (inr h) = inr (omega arith)

pub min_mul : (a b m : ℕ) → min (a * min b m) m ≡ min (a * b) m
min_mul zero b m = ap (λ k. min k m) (omega arith)
min_mul (suc a) b m = cases (le_or b m)
  where
    above : (c : ℕ) → m ≤ c → m ≤ suc a * c
    above c h = omega (arith, mul-le 1 c (suc a) c (omega arith) (omega arith))

    cases : b ≤ m ⊎ m ≤ b → min (suc a * min b m) m ≡ min (suc a * b) m
    cases (inl h) = ap (λ k. min (suc a * k) m) (min-eq_left h)
    cases (inr h) = ap (λ k. min (suc a * k) m) (min-eq_right h) ∙ min-eq_right (above m (omega arith)) ∙ sym (min-eq_right (above b h))

-- one factor, and the product of those behind it
pub product_from : (sizes : List ℕ) (fs : List Factor) (i m : ℕ) (d : Factor) → i < length fs → min (factor_at sizes (get_or fs i d) * min (product_at sizes (drop (i + 1) fs)) m) m ≡ min (product_at sizes (drop i fs)) m
product_from sizes fs i m d h = min_mul _ _ _ ∙ ap (λ gs. min (product_at sizes gs) m) (sym (drop_more fs i d h))

-- ---- pieces of a length that may be too long
pub pieces_beyond : (n k m : ℕ) (xs : List Value) → n < m → pieces (n / min k m) (min k m) (min k m) xs ≡ pieces (n / k) k k xs
pieces_beyond n k m xs h = cases (le_or k m)
  where
    none : (c : ℕ) → n < c → pieces (n / c) c c xs ≡ []
    none c g = ap (λ i. pieces i c c xs) (div-eq_of_lt g)

    cases : k ≤ m ⊎ m ≤ k → pieces (n / min k m) (min k m) (min k m) xs ≡ pieces (n / k) k k xs
    cases (inl g) = ap (λ c. pieces (n / c) c c xs) (min-eq_left g)
    cases (inr g) = ap (λ c. pieces (n / c) c c xs) (min-eq_right g) ∙ none m h ∙ sym (none k (omega arith))

pub ruleset splits = (pieces_beyond, length-values, div-zero)
