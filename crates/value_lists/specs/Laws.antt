-- What lists of values are.
use Rattle.std.specs.Prelude.{◌≡◌, ◌+◌, ◌*◌, ◌<◌, ℕ, List, length, map}
use Rattle.size_arith.specs.declared.names.Name.{Name}
use Rattle.size_arith.specs.Ranges.{AreNames, Admissible}
use Rattle.lift_tree.specs.InputTypes.{Written}
use Rattle.lift_tree.specs.Launches.{lists_of}
use Rattle.lift_tree.specs.Limits.{components, HasFewScalars}
use Rattle.lift_tree.specs.Types.{PlainTy, HasType, HoldsElements, IsFormed, IsOutput}
use Rattle.lift_tree.specs.Values.{Value}
use Rattle.lift_tree.specs.WorkedOut.{worked_out}
use Rattle.value_lists.specs.Lists.{list_lengths, IsSmall, value_in, ways, width}

-- the lists of a value are as long as its type says
abbrev pub ListsHaveLengths : Type 0
ListsHaveLengths =
    (ys : List ℕ) (a : PlainTy) (v : Value) → HoldsElements a → HasType ys a v
    → map length (lists_of a v) ≡ list_lengths ys a

-- the value of a type whose lists these are is the one that is read from them
abbrev pub ListsHoldOneValue : Type 0
ListsHoldOneValue =
    (ys : List ℕ) (a : PlainTy) (v : Value) → HoldsElements a → HasType ys a v
    → value_in ys a (lists_of a v) 0 0 ≡ v

-- values of one type with the same lists are the same
abbrev pub ListsTellValues : Type 0
ListsTellValues =
    (ys : List ℕ) (a : PlainTy) (v u : Value) → HoldsElements a → HasType ys a v → HasType ys a u
    → lists_of a v ≡ lists_of a u → v ≡ u

-- a type as written has the ways of the type that it is worked out to
abbrev pub WaysAreComponents : Type 0
WaysAreComponents = (names : List Name) (a : Written) → ways a ≡ components (worked_out names a)

-- a type has as many components as its width says
abbrev pub ComponentsAreCounted : Type 0
ComponentsAreCounted = (a : PlainTy) → length (components a) ≡ width a

-- an output's type that is formed within its limits has few scalars at all admissible sizes
abbrev pub TypedOutputsAreSmall : Type 0
TypedOutputsAreSmall =
    (names : List Name) (ys : List ℕ) (a : PlainTy) → AreNames names → Admissible names ys
    → IsOutput a → IsFormed names a → HasFewScalars names a → IsSmall ys 1 a

-- of few arrays the elements up to one of an array are few
abbrev pub ElementsAreSmall : Type 0
ElementsAreSmall =
    (ys : List ℕ) (a : PlainTy) (i j n : ℕ) → j < n → IsSmall ys ((i + 1) * n) a
    → IsSmall ys (i * n + j + 1) a
