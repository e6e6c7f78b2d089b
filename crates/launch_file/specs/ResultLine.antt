-- The line that a run or an evaluation prints.
use Rattle.std.specs.Prelude.{ℕ, List, [], ◌∷◌, ◌++◌, codes, decimal, Option, Some, None}
use Rattle.std.specs.List.{join_with_byte}
use Rattle.lift_tree.specs.Values.{Value, Word, Both, Nil, More}

-- the texts of a list's members, with commas between
abbrev pub list_text : List (List ℕ) → List ℕ
list_text texts = codes "[" ++ join_with_byte 44 texts ++ codes "]"

-- a value as JSON: an array is a list, a pair a list of its two parts
abbrev mutual
  pub value_text : Value → List ℕ
  value_text (Word n) = decimal n
  value_text (Both v w) = list_text (value_text v ∷ value_text w ∷ [])
  value_text Nil = list_text []
  value_text (More v rest) = list_text (value_text v ∷ member_texts rest)

  pub member_texts : Value → List (List ℕ)
  member_texts (Word n) = []
  member_texts (Both v w) = []
  member_texts Nil = []
  member_texts (More v rest) = value_text v ∷ member_texts rest

-- the counts of events and of releases, where there are any
abbrev pub counts_text : Option (ℕ × ℕ) → List ℕ
counts_text None = []
counts_text (Some counts) =
    codes ",\"events\":" ++ decimal counts.0 ++ codes ",\"releases\":" ++ decimal counts.1

-- the value and the counts, as JSON on a line
abbrev pub result_line : Value → Option (ℕ × ℕ) → List ℕ
result_line v counts = codes "{\"value\":" ++ value_text v ++ counts_text counts ++ codes "}\n"
