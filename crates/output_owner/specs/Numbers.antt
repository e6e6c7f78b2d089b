-- Scalars of a layout that is written through, by their numbers in its operand.
use Rattle.std.specs.Prelude.{◌≡◌, ℕ, ◌+◌, ◌-◌, ◌*◌, ◌/◌, ◌%◌, ◌<◌, ◌^◌, List}
use Rattle.lift_tree.specs.declared.layout.Layout as layout
use Rattle.lift_tree.specs.declared.layout.Layout.TheVariants.{Join, Transpose, Split, Reverse, Stride, AsVector, AsScalar}
use Rattle.lift_tree.specs.Meaning.{product_at}
use Rattle.lift_tree.specs.Types.{PlainTy, U32, U32x4, PairOf, ArrayOf}
use Rattle.lift_ir.specs.AtLaunch.{length_at, ty_at}
use Rattle.lift_ir.specs.Types.{size}

-- the number in n rows of m elements, each of so many scalars, of the scalar
-- with this number in the m columns
abbrev pub moved : (n m scalar number : ℕ) → ℕ
moved n m s k = (k % (n * s) / s * m + k / (n * s)) * s + k % (n * s) % s

-- the number in n elements, each of so many scalars, of the scalar with this number
-- from the last element to the first
abbrev pub turned : (n scalar number : ℕ) → ℕ
turned n s k = (n - 1 - k / s) * s + k % s

-- ---- where the operand has this type

-- rows of arrays change places with columns; anything else has none
abbrev pub transposed : (bases : List ℕ) → (rows : PlainTy) → ℕ → ℕ
transposed bases U32 k = k
transposed bases U32x4 k = k
transposed bases (PairOf a b) k = k
transposed bases (ArrayOf U32 n) k = k
transposed bases (ArrayOf U32x4 n) k = k
transposed bases (ArrayOf (PairOf a b) n) k = k
transposed bases (ArrayOf (ArrayOf x m) n) k =
    moved (length_at bases n) (length_at bases m) (size (ty_at bases x)) k

-- elements go from the last to the first
abbrev pub reversed : (bases : List ℕ) → (elements : PlainTy) → ℕ → ℕ
reversed bases U32 k = k
reversed bases U32x4 k = k
reversed bases (PairOf a b) k = k
reversed bases (ArrayOf x n) k = turned (length_at bases n) (size (ty_at bases x)) k

-- elements this far from one another are the columns of rows of so many
abbrev pub strided : (bases : List ℕ) → (step : ℕ) → (elements : PlainTy) → ℕ → ℕ
strided bases step U32 k = k
strided bases step U32x4 k = k
strided bases step (PairOf a b) k = k
strided bases step (ArrayOf x n) k = moved (length_at bases n / step) step (size (ty_at bases x)) k

-- the number in the operand of the scalar with this number in the layout, at these sizes
abbrev pub operand_number : (sizes bases : List ℕ) → layout.Layout → (operand : PlainTy) → ℕ → ℕ
operand_number sizes bases Join b k = k
operand_number sizes bases Transpose b k = transposed bases b k
operand_number sizes bases (Split fs) b k = k
operand_number sizes bases Reverse b k = reversed bases b k
operand_number sizes bases (Stride fs) b k = strided bases (product_at sizes fs) b k
operand_number sizes bases AsVector b k = k
operand_number sizes bases AsScalar b k = k

-- ---- what is asked of the operand

-- one of the scalars of a component of this type, of which there are less than 2^31
pub record IsOfComponent (bases : List ℕ) (a : PlainTy) (number : ℕ) : Type 0 where
  pub few : size (ty_at bases a) < 2 ^ 31
  pub below : number < size (ty_at bases a)

-- an array of this type is whole rows of so many elements
abbrev pub IsStepOf : (bases : List ℕ) → (step : ℕ) → PlainTy → Type 0
IsStepOf bases step (ArrayOf x n) =
    (0 < step) × (length_at bases n / step * step ≡ length_at bases n)
IsStepOf bases step _ = Unit {0}

-- a stride's step is such
abbrev pub HasStep : (sizes bases : List ℕ) → layout.Layout → (operand : PlainTy) → Type 0
HasStep sizes bases (Stride fs) b = IsStepOf bases (product_at sizes fs) b
HasStep sizes bases _ b = Unit {0}
