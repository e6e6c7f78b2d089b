-- What the patterns do with lists.
use Rattle.std.specs.Prelude.{ℕ, zero, suc, ◌+◌, ◌-◌, ◌/◌, List, [], ◌∷◌, ◌++◌, length, take, drop, map, replicate}
use Rattle.lift_tree.specs.Values.{Value, Word}

-- a start joined with each element in turn, from the left
abbrev pub fold_left : {A B : Type 0} → (A → B → A) → A → List B → A
fold_left f a [] = a
fold_left f a (x ∷ xs) = fold_left f (f a x) xs

-- the lists one after another
abbrev pub concat : {A : Type 0} → List (List A) → List A
concat [] = []
concat (xs ∷ xss) = xs ++ concat xss

-- the elements of two lists joined one by one, as far as both go
abbrev pub zip_with : {A B C : Type 0} → (A → B → C) → List A → List B → List C
zip_with f [] ys = []
zip_with f (x ∷ xs) [] = []
zip_with f (x ∷ xs) (y ∷ ys) = f x y ∷ zip_with f xs ys

-- so many pieces of one length, each so many elements further on
abbrev pub pieces : {A : Type 0} → (count size step : ℕ) → List A → List (List A)
pieces zero size step xs = []
pieces (suc count) size step xs = take size xs ∷ pieces count size step (drop step xs)

-- how many pieces fit
abbrev pub pieces_that_fit : (size step length : ℕ) → ℕ
pieces_that_fit size step length = (length + step - size) / step

-- the first value, or 0 where there is none
abbrev pub first_of : List Value → Value
first_of [] = Word 0
first_of (x ∷ xs) = x

-- all values but the first
abbrev pub rest_of : List Value → List Value
rest_of [] = []
rest_of (x ∷ xs) = xs

-- the last value, or 0 where there is none
abbrev pub last_of : List Value → Value
last_of [] = Word 0
last_of (x ∷ []) = x
last_of (x ∷ y ∷ xs) = last_of (y ∷ xs)

-- so many of the first before, and so many of the last after
abbrev pub padded : (before after : ℕ) → List Value → List Value
padded before after xs = replicate before (first_of xs) ++ xs ++ replicate after (last_of xs)

-- the length of a row
abbrev pub width : List (List Value) → ℕ
width [] = 0
width (row ∷ rows) = length row

-- the first so many columns
abbrev pub columns : ℕ → List (List Value) → List (List Value)
columns zero rows = []
columns (suc m) rows = map first_of rows ∷ columns m (map rest_of rows)

-- the columns one after another, where each row has so many elements
abbrev pub strided : (step : ℕ) → List Value → List Value
strided step xs = concat (columns step (pieces (length xs / step) step step xs))

-- each member meets the fact
abbrev pub Every : {A : Type 0} → (A → Type 0) → List A → Type 0
Every p [] = Unit {0}
Every p (x ∷ xs) = p x × Every p xs
