-- Types whose lengths are of any kind: polynomials, or numbers at one launch; and
-- the positions of their scalars.
use Rattle.std.specs.Prelude.{◌≡◌, ℕ, ◌+◌, ◌*◌, ◌/◌, ◌%◌, ◌<◌, ◌^◌, Bool, true, false, List, [], ◌∷◌, ◌++◌, map}

-- a type whose lengths are of A
pub data Shape (A : Type 0) : Type 0 where
  Scalar : Shape A
  PairOf : (left right : Shape A) → Shape A
  ArrayOf : (n : A) → (element : Shape A) → Shape A

-- a type at one launch
abbrev pub Ty : Type 0
Ty = Shape ℕ

-- a type at a launch, where the lengths are these numbers
abbrev pub measured : {A : Type 0} → (A → ℕ) → Shape A → Ty
measured num Scalar = Scalar
measured num (PairOf a b) = PairOf (measured num a) (measured num b)
measured num (ArrayOf n t) = ArrayOf (num n) (measured num t)

-- how many components a type has: one for each scalar outside arrays, or array of scalars
abbrev pub width : {A : Type 0} → Shape A → ℕ
width Scalar = 1
width (PairOf a b) = width a + width b
width (ArrayOf n t) = width t

-- the number of a component, from left to right
abbrev pub component : {A : Type 0} → Shape A → List Bool → ℕ
component (PairOf a b) (false ∷ cs) = component a cs
component (PairOf a b) (true ∷ cs) = width a + component b cs
component (ArrayOf n t) cs = component t cs
component _ cs = 0

-- the pair choices of a type's components, from left to right; the
-- second is chosen where it is true
abbrev pub choices_of : {A : Type 0} → Shape A → List (List Bool)
choices_of Scalar = [] ∷ []
choices_of (PairOf a b) =
    map (λ cs. false ∷ cs) (choices_of a) ++ map (λ cs. true ∷ cs) (choices_of b)
choices_of (ArrayOf n t) = choices_of t

-- a type's scalars are at these pair choices and indices
abbrev pub IsPosition : Ty → List Bool → List ℕ → Type 0
IsPosition Scalar [] [] = Unit {0}
IsPosition Scalar [] (i ∷ q) = ⊥
IsPosition Scalar (c ∷ cs) q = ⊥
IsPosition (PairOf a b) [] q = ⊥
IsPosition (PairOf a b) (false ∷ cs) q = IsPosition a cs q
IsPosition (PairOf a b) (true ∷ cs) q = IsPosition b cs q
IsPosition (ArrayOf n t) cs [] = ⊥
IsPosition (ArrayOf n t) cs (i ∷ q) = (i < n) × IsPosition t cs q

-- how many scalars one component has
abbrev pub size : Ty → ℕ
size (ArrayOf n t) = n * size t
size _ = 1

-- the number of a scalar in row-major order
abbrev pub flat : Ty → List ℕ → ℕ
flat (ArrayOf n t) (i ∷ q) = i * size t + flat t q
flat _ q = 0

-- the position with this number in row-major order
abbrev pub unflat : Ty → ℕ → List ℕ
unflat (ArrayOf n t) x = x / size t ∷ unflat t (x % size t)
unflat _ x = []

-- numbers, and pairs of these
abbrev pub IsWords : Ty → Type 0
IsWords Scalar = Unit {0}
IsWords (PairOf a b) = IsWords a × IsWords b
IsWords (ArrayOf n t) = ⊥

-- a vector: an array of four numbers
abbrev pub four : Ty
four = ArrayOf 4 Scalar

abbrev pub IsFour : ℕ → Ty → Type 0
IsFour n t = (n ≡ 4) × (t ≡ Scalar)

-- numbers, vectors, and pairs of these
abbrev pub IsElement : Ty → Type 0
IsElement Scalar = Unit {0}
IsElement (PairOf a b) = IsElement a × IsElement b
IsElement (ArrayOf n t) = IsFour n t

-- the pair choices of an element's components
abbrev pub IsPart : Ty → List Bool → Type 0
IsPart Scalar [] = Unit {0}
IsPart Scalar (c ∷ cs) = ⊥
IsPart (PairOf a b) [] = ⊥
IsPart (PairOf a b) (false ∷ cs) = IsPart a cs
IsPart (PairOf a b) (true ∷ cs) = IsPart b cs
IsPart (ArrayOf n t) [] = Unit {0}
IsPart (ArrayOf n t) (c ∷ cs) = ⊥

-- its pairs hold numbers only
abbrev pub IsFlat : Ty → Type 0
IsFlat Scalar = Unit {0}
IsFlat (PairOf a b) = IsWords a × IsWords b
IsFlat (ArrayOf n t) = IsFlat t

-- its lengths are below 2^31
abbrev pub IsShort : Ty → Type 0
IsShort Scalar = Unit {0}
IsShort (PairOf a b) = IsShort a × IsShort b
IsShort (ArrayOf n t) = (n < 2 ^ 31) × IsShort t

-- a value of this shape can lie in arrays, at a launch where the lengths are these
pub record IsPlaced {A : Type 0} (num : A → ℕ) (t : Shape A) : Type 0 where
  pub flat : IsFlat (measured num t)
  pub short : IsShort (measured num t)
  pub small : size (measured num t) < 2 ^ 31
