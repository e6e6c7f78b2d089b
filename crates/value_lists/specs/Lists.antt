-- Values in lists, one list for each pair component, in row-major order.
use Rattle.std.specs.Prelude.{ℕ, zero, suc, ◌+◌, ◌*◌, ◌<◌, ◌≤◌, ◌^◌, Bool, true, false, List, [], ◌∷◌, ◌++◌, map, nat_abs, get_or}
use Rattle.size_arith.specs.declared.poly.Monomial.{Monomial}
use Rattle.size_arith.specs.Polynomial.{value_at}
use Rattle.lift_tree.specs.InputTypes.{Written, Number, Pair, Array}
use Rattle.lift_tree.specs.Limits.{components}
use Rattle.lift_tree.specs.Types.{PlainTy, U32, U32x4, PairOf, ArrayOf}
use Rattle.lift_tree.specs.Values.{Value, Word, Both, Side, Left, Right, array, list_of}

-- ---- ways through pairs, as code has them
abbrev pub side_of : Bool → Side
side_of false = Left
side_of true = Right

-- the ways to the components of a type as written
abbrev pub ways : Written → List (List Side)
ways Number = [] ∷ []
ways (Pair a b) = map (λ c. Left ∷ c) (ways a) ++ map (λ c. Right ∷ c) (ways b)
ways (Array a n) = ways a

-- the lists of a value below a way, one for each component of the type there
abbrev pub lists_below : List Side → Written → Value → List (List ℕ)
lists_below way a v = map (λ c. list_of v (way ++ c)) (ways a)

-- ---- lengths
abbrev pub length_at : List ℕ → List Monomial → ℕ
length_at ys n = nat_abs (value_at ys n)

-- how many scalars each component has, where pairs hold numbers only
abbrev pub scalars : List ℕ → PlainTy → ℕ
scalars ys U32 = 1
scalars ys U32x4 = 4
scalars ys (PairOf a b) = 1
scalars ys (ArrayOf a n) = length_at ys n * scalars ys a

-- how many scalars the component has to which this way leads
abbrev pub scalars_at : List ℕ → PlainTy → List Side → ℕ
scalars_at ys U32 cs = 1
scalars_at ys U32x4 cs = 4
scalars_at ys (PairOf a b) [] = 0
scalars_at ys (PairOf a b) (Left ∷ cs) = scalars_at ys a cs
scalars_at ys (PairOf a b) (Right ∷ cs) = scalars_at ys b cs
scalars_at ys (ArrayOf a n) cs = length_at ys n * scalars_at ys a cs

-- how many components
abbrev pub width : PlainTy → ℕ
width U32 = 1
width U32x4 = 1
width (PairOf a b) = width a + width b
width (ArrayOf a n) = width a

-- the lengths of the lists of a value of this type
abbrev pub list_lengths : List ℕ → PlainTy → List ℕ
list_lengths ys a = map (scalars_at ys a) (components a)

-- lengths are below 2^32, and so many values of the type have at most
-- 2^32 scalars in each component
abbrev pub IsSmall : List ℕ → (count : ℕ) → PlainTy → Type 0
IsSmall ys count U32 = count ≤ 2 ^ 32
IsSmall ys count U32x4 = count * 4 ≤ 2 ^ 32
IsSmall ys count (PairOf a b) = IsSmall ys count a × IsSmall ys count b
IsSmall ys count (ArrayOf a n) =
    (length_at ys n < 2 ^ 32) × (count * length_at ys n ≤ 2 ^ 32)
    × IsSmall ys (count * length_at ys n) a

-- ---- the value in lists
-- the list of a component
abbrev pub row : List (List ℕ) → ℕ → List ℕ
row lists c = get_or lists c []

-- so many members, the first of which has this number
abbrev pub members_from : (ℕ → Value) → (first count : ℕ) → List Value
members_from f i zero = []
members_from f i (suc n) = f i ∷ members_from f (suc i) n

-- the value of this number among values of the type, one after another in lists, the
-- first of which is this component's
abbrev pub value_in : List ℕ → PlainTy → List (List ℕ) → (component number : ℕ) → Value
value_in ys U32 lists c i = Word (get_or (row lists c) i 0)
value_in ys U32x4 lists c i =
    array (members_from (λ j. Word (get_or (row lists c) (i * 4 + j) 0)) 0 4)
value_in ys (PairOf a b) lists c i =
    Both (value_in ys a lists c i) (value_in ys b lists (c + width a) i)
value_in ys (ArrayOf a n) lists c i =
    array (members_from (λ j. value_in ys a lists c (i * length_at ys n + j)) 0 (length_at ys n))
