-- Layouts, as functions on positions: for reading from the result to the
-- operand, for writing the other way.
use Rattle.std.specs.Prelude.{◌≡◌, ℕ, ◌+◌, ◌-◌, ◌*◌, ◌/◌, ◌%◌, ◌<◌, ◌≤◌, ◌^◌, min, max, List, ◌∷◌}
use Rattle.lift_ir.specs.Types.{Ty, ArrayOf}

-- a layout of an array, whose lengths are of A
pub data Layout (A : Type 0) : Type 0 where
  Split : (m : A) → Layout A
  Join : (m : A) → Layout A
  Transpose : Layout A
  Reverse : (n : A) → Layout A
  Slide : (size step : ℕ) → Layout A
  Pad : (left right : ℕ) → (n : A) → Layout A

-- the position in the operand of a position in the result, where the lengths are these numbers
abbrev pub operand_position : {A : Type 0} → (A → ℕ) → Layout A → List ℕ → List ℕ
operand_position num (Split m) (i ∷ j ∷ p) = (i * num m + j) ∷ p
operand_position num (Join m) (i ∷ p) = i / num m ∷ i % num m ∷ p
operand_position num Transpose (i ∷ j ∷ p) = j ∷ i ∷ p
operand_position num (Reverse n) (i ∷ p) = (num n - 1 - i) ∷ p
operand_position num (Slide s t) (i ∷ j ∷ p) = (i * t + j) ∷ p
operand_position num (Pad l r n) (i ∷ p) = min (max i l - l) (num n - 1) ∷ p
operand_position num _ p = p

-- the position in the result of a position in the operand, for join, split, transpose and reverse
abbrev pub result_position : {A : Type 0} → (A → ℕ) → Layout A → List ℕ → List ℕ
result_position num (Split m) p = operand_position num (Join m) p
result_position num (Join m) p = operand_position num (Split m) p
result_position num Transpose p = operand_position num Transpose p
result_position num (Reverse n) p = operand_position num (Reverse n) p
result_position num _ p = p

-- each position in the operand has one in the result
abbrev pub IsInvertible : {A : Type 0} → Layout A → Type 0
IsInvertible (Split m) = Unit {0}
IsInvertible (Join m) = Unit {0}
IsInvertible Transpose = Unit {0}
IsInvertible (Reverse n) = Unit {0}
IsInvertible _ = ⊥

-- the layout makes an array of the second type of one of the first
abbrev pub Reshapes : {A : Type 0} → (A → ℕ) → Layout A → Ty → Ty → Type 0
Reshapes num (Split m) (ArrayOf n t) u =
    (0 < num m) × (n / num m * num m ≡ n) × (u ≡ ArrayOf (n / num m) (ArrayOf (num m) t))
Reshapes num (Join m) (ArrayOf n (ArrayOf k t)) u =
    (0 < num m) × (k ≡ num m) × (u ≡ ArrayOf (n * num m) t)
Reshapes num Transpose (ArrayOf n (ArrayOf m t)) u = (0 < n) × (u ≡ ArrayOf m (ArrayOf n t))
Reshapes num (Reverse k) (ArrayOf n t) u = (num k ≡ n) × (u ≡ ArrayOf n t)
Reshapes num (Slide s k) (ArrayOf n t) u =
    (0 < k) × (s ≤ n) × ((n - s) / k * k ≡ n - s) × (u ≡ ArrayOf ((n - s) / k + 1) (ArrayOf s t))
Reshapes num (Pad l r k) (ArrayOf n t) u = (0 < n) × (num k ≡ n) × (u ≡ ArrayOf (l + n + r) t)
Reshapes num _ _ u = ⊥

-- a step is a word
abbrev pub HasWordStep : {A : Type 0} → Layout A → Type 0
HasWordStep (Slide s t) = t < 2 ^ 32
HasWordStep _ = Unit {0}
