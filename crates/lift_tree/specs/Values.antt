-- Values, wherever they lie in memory: numbers below 2^32, pairs and lists.
use Rattle.std.specs.Prelude.{ℕ, zero, suc, List, [], ◌∷◌, ◌++◌}
use Rattle.lift_tree.specs.declared.value.Val as held
use Rattle.lift_tree.specs.declared.value.Val.{Val, Row_of-Val, end_of-Val, more_of-Val}

-- a number, a pair, or a list: none, or a first value and the rest
pub data Value : Type 0 where
  Word : ℕ → Value
  Both : Value → Value → Value
  Nil : Value
  More : (first rest : Value) → Value

abbrev mutual
  pub value_of : Val → Value
  value_of (held.Number n) = Word n
  value_of (held.Pair' p v q w) = Both (value_of v) (value_of w)
  value_of (held.List' shape row) = row_value row

  pub row_value : {m : _} → Row_of-Val m → Value
  row_value end_of-Val = Nil
  row_value (more_of-Val v rest) = More (value_of v) (row_value rest)

-- the list of these values
abbrev pub array : List Value → Value
array [] = Nil
array (v ∷ vs) = More v (array vs)

-- the values of a list; none for any other value
abbrev pub members : Value → List Value
members (Word n) = []
members (Both v w) = []
members Nil = []
members (More v rest) = v ∷ members rest

-- the number; 0 for any other value
abbrev pub word : Value → ℕ
word (Word n) = n
word (Both v w) = 0
word Nil = 0
word (More v rest) = 0

-- the first of a pair; 0 for any other value
abbrev pub first : Value → Value
first (Both v w) = v
first v = Word 0

-- the second of a pair; 0 for any other value
abbrev pub second : Value → Value
second (Both v w) = w
second v = Word 0

-- the value at this number, or 0
abbrev pub nth : List Value → ℕ → Value
nth [] n = Word 0
nth (v ∷ vs) zero = v
nth (v ∷ vs) (suc n) = nth vs n

-- the way to a component through pairs
pub data Side : Type 0 where
  Left : Side
  Right : Side

-- the list of a value for one component: its numbers in row-major order
abbrev pub list_of : Value → List Side → List ℕ
list_of (Word n) sides = n ∷ []
list_of (Both v w) [] = []
list_of (Both v w) (Left ∷ sides) = list_of v sides
list_of (Both v w) (Right ∷ sides) = list_of w sides
list_of Nil sides = []
list_of (More v rest) sides = list_of v sides ++ list_of rest sides
