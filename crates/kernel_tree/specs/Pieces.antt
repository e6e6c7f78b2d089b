-- A text cut into pieces: longest runs of letters, digits and _, longest runs of spaces, and single
-- other bytes.
use Rattle.std.specs.Prelude.{◌≡◌, ℕ, suc, ◌<◌, List, [], ◌∷◌, ◌++◌, Bool, cond, length, take, drop, ◌||◌, ◌==◌}
use Rattle.std.specs.List.{prefix_len}
use Rattle.std.specs.Char.{is_ascii_digit, is_ascii_alphabetic}

-- a letter, a digit or _
abbrev pub is_word : ℕ → Bool
is_word b = is_ascii_alphabetic b || is_ascii_digit b || (b == 95)

-- a space
abbrev pub is_blank : ℕ → Bool
is_blank b = b == 32

-- how long the piece at the front is
abbrev pub piece_len : List ℕ → ℕ
piece_len [] = 0
piece_len (b ∷ bs) =
    suc (cond (is_word b) (prefix_len is_word bs) (cond (is_blank b) (prefix_len is_blank bs) 0))

-- the text is these pieces, one after another
abbrev pub ArePieces : List ℕ → List (List ℕ) → Type 0
ArePieces bytes [] = bytes ≡ []
ArePieces bytes (p ∷ ps) =
    (0 < length bytes) × (p ≡ take (piece_len bytes) bytes)
    × ArePieces (drop (piece_len bytes) bytes) ps

-- pieces one after another
abbrev pub joined : List (List ℕ) → List ℕ
joined [] = []
joined (p ∷ ps) = p ++ joined ps
