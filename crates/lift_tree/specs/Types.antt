-- Types, wherever they lie in memory, and the values that have them.
use Rattle.std.specs.Prelude.{ℕ, ◌≡◌, ◌<◌, ◌^◌, Bool, true, false, ◌&&◌, List, length, pos, Some, slice_get}
use Rattle.size_arith.specs.declared.names.Name.{Name}
use Rattle.size_arith.specs.declared.poly.Monomial.{Monomial}
use Rattle.size_arith.specs.Polynomial.{value_at}
use Rattle.size_arith.specs.Shown.{ShownAtLeast}
use Rattle.lift_tree.specs.declared.ty.Ty as held
use Rattle.lift_tree.specs.declared.ty.Ty.{Ty}
use Rattle.lift_tree.specs.Lists.{Every}
use Rattle.lift_tree.specs.Values.{Value, Word, Both, array, nth}

-- u32, four of these, a pair, or an array with its length over the base names
pub data PlainTy : Type 0 where
  U32 : PlainTy
  U32x4 : PlainTy
  PairOf : PlainTy → PlainTy → PlainTy
  ArrayOf : PlainTy → List Monomial → PlainTy

-- the type that lies in memory
abbrev pub ty_of : Ty → PlainTy
ty_of held.Number = U32
ty_of held.Vector = U32x4
ty_of (held.Pair' p a q b) = PairOf (ty_of a) (ty_of b)
ty_of (held.Array' p a n) = ArrayOf (ty_of a) n

-- it is an array
abbrev pub is_array : PlainTy → Bool
is_array U32 = false
is_array U32x4 = false
is_array (PairOf a b) = false
is_array (ArrayOf a n) = true

-- an element type: u32, four of these, or a pair of element types
abbrev pub IsElement : PlainTy → Type 0
IsElement U32 = Unit {0}
IsElement U32x4 = Unit {0}
IsElement (PairOf a b) = IsElement a × IsElement b
IsElement (ArrayOf a n) = ⊥

-- u32, or a pair of such types
abbrev pub AreNumbers : PlainTy → Type 0
AreNumbers U32 = Unit {0}
AreNumbers U32x4 = ⊥
AreNumbers (PairOf a b) = AreNumbers a × AreNumbers b
AreNumbers (ArrayOf a n) = ⊥

-- its pairs hold numbers only
abbrev pub HoldsElements : PlainTy → Type 0
HoldsElements U32 = Unit {0}
HoldsElements U32x4 = Unit {0}
HoldsElements (PairOf a b) = AreNumbers a × AreNumbers b
HoldsElements (ArrayOf a n) = HoldsElements a

-- an element type, as a test
abbrev pub is_element : PlainTy → Bool
is_element U32 = true
is_element U32x4 = true
is_element (PairOf a b) = is_element a && is_element b
is_element (ArrayOf a n) = false

-- u32, or a pair of such types, as a test
abbrev pub are_numbers : PlainTy → Bool
are_numbers U32 = true
are_numbers U32x4 = false
are_numbers (PairOf a b) = are_numbers a && are_numbers b
are_numbers (ArrayOf a n) = false

-- its pairs hold numbers only, as a test
abbrev pub holds_elements : PlainTy → Bool
holds_elements U32 = true
holds_elements U32x4 = true
holds_elements (PairOf a b) = are_numbers a && are_numbers b
holds_elements (ArrayOf a n) = holds_elements a

-- the type of a program's output: an array, its pairs hold numbers only
abbrev pub IsOutput : PlainTy → Type 0
IsOutput U32 = ⊥
IsOutput U32x4 = ⊥
IsOutput (PairOf a b) = ⊥
IsOutput (ArrayOf a n) = HoldsElements a

-- the type of a program's input, as an output's
abbrev pub IsInput : PlainTy → Type 0
IsInput a = IsOutput a

-- each length is shown at least 1
abbrev pub IsFormed : List Name → PlainTy → Type 0
IsFormed names U32 = Unit {0}
IsFormed names U32x4 = Unit {0}
IsFormed names (PairOf a b) = IsFormed names a × IsFormed names b
IsFormed names (ArrayOf a n) = ShownAtLeast 1 names n × IsFormed names a

-- a number below 2^32
abbrev pub IsNumber : Value → Type 0
IsNumber v = (n : ℕ) × (v ≡ Word n) × (n < 2 ^ 32)

-- a list of four such numbers
abbrev pub IsVector : Value → Type 0
IsVector v = (xs : List Value) × (v ≡ array xs) × (length xs ≡ 4) × Every IsNumber xs

-- the value has the type, where the base names have these values
abbrev pub HasType : List ℕ → PlainTy → Value → Type 0
HasType ys U32 v = IsNumber v
HasType ys U32x4 v = IsVector v
HasType ys (PairOf a b) v = (x y : Value) × (v ≡ Both x y) × HasType ys a x × HasType ys b y
HasType ys (ArrayOf a n) v =
    (xs : List Value) × (v ≡ array xs) × (pos (length xs) ≡ value_at ys n) × Every (HasType ys a) xs

-- the values have these types one by one
abbrev pub HaveTypes : List ℕ → List PlainTy → List Value → Type 0
HaveTypes ys tys vs = (n : ℕ) (a : PlainTy) → slice_get tys n ≡ Some a → HasType ys a (nth vs n)
