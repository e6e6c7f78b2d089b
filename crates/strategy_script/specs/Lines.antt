-- Lines and their words.
use Rattle.std.specs.Prelude.{ℕ, List, [], ◌∷◌, Bool, true, ◌||◌, ◌==◌, not, take, drop}
use Rattle.std.specs.List.{prefix_len}

-- the end of a line, LF
abbrev pub is_line_end : ℕ → Bool
is_line_end b = b == 10

-- a space or a tab
abbrev pub is_blank : ℕ → Bool
is_blank b = (b == 32) || (b == 9)

-- a byte of a word
abbrev pub is_inner : ℕ → Bool
is_inner b = not (is_blank b)

-- a line from its first word on
abbrev pub from_word : List ℕ → List ℕ
from_word line = drop (prefix_len is_blank line) line

-- the first word of a line, which is empty where there is none
abbrev pub first_word : List ℕ → List ℕ
first_word line = take (prefix_len is_inner (from_word line)) (from_word line)

-- what stands behind the first word
abbrev pub behind_word : List ℕ → List ℕ
behind_word line = drop (prefix_len is_inner (from_word line)) (from_word line)

-- nothing follows, or a comment does
abbrev pub is_end_or_comment : List ℕ → Bool
is_end_or_comment [] = true
is_end_or_comment (b ∷ bs) = b == 35

-- the line is empty, of blanks alone, or a comment
abbrev pub is_no_step : List ℕ → Bool
is_no_step line = is_end_or_comment (from_word line)
