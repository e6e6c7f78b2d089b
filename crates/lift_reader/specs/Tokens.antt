-- A text's tokens: what stands between its gaps, each the longest run from its first byte on.
use Rattle.std.specs.Prelude.{◌≡◌, ℕ, suc, ◌+◌, ◌*◌, ◌-◌, ◌<◌, List, [], ◌∷◌, Bool, cond, length, take, drop, Option, Some, None, nat_le, ◌||◌, ◌==◌}
use Rattle.std.specs.List.{prefix_len}
use Rattle.std.specs.Option.{option_map_or}
use Rattle.std.specs.Char.{is_ascii_digit, is_ascii_alphabetic}
use Rattle.lift_reader.specs.declared.word.Word.{Word}
use Rattle.lift_reader.specs.Words.{word_of}

-- A token: a reserved word, another name, a number, a symbol, or what no program has.
pub data Lexeme : Type 0 where
  AWord : Word → Lexeme
  AName : List ℕ → Lexeme
  ANumber : ℕ → Lexeme
  ASymbol : ℕ → Lexeme
  Wrong : Lexeme

-- space, tab, CR, LF
abbrev pub is_space : ℕ → Bool
is_space b = (b == 32) || (b == 9) || (b == 13) || (b == 10)

-- what a name goes on with: a letter, a digit or _
abbrev pub is_inner : ℕ → Bool
is_inner b = is_ascii_alphabetic b || is_ascii_digit b || (b == 95)

-- ( ) [ ] , ; : = . \ + - *
abbrev pub is_symbol : ℕ → Bool
is_symbol b =
    (b == 40) || (b == 41) || (b == 91) || (b == 93) || (b == 44) || (b == 59) || (b == 58)
    || (b == 61) || (b == 46) || (b == 92) || (b == 43) || (b == 45) || (b == 42)

-- how long the spaces and comments at the front are; a comment begins with # and ends with its line
abbrev mutual
  pub gap_len : List ℕ → ℕ
  gap_len [] = 0
  gap_len (b ∷ bs) = cond (is_space b) (suc (gap_len bs)) (cond (b == 35) (suc (comment_len bs)) 0)

  pub comment_len : List ℕ → ℕ
  comment_len [] = 0
  comment_len (b ∷ bs) = suc (cond (b == 10) (gap_len bs) (comment_len bs))

-- how long the longest run at the front is: a letter with letters,
-- digits and _; digits; or one byte
abbrev pub run_len : List ℕ → ℕ
run_len [] = 0
run_len (b ∷ bs) =
    suc
    (cond (is_ascii_alphabetic b) (prefix_len is_inner bs)
    (cond (is_ascii_digit b) (prefix_len is_ascii_digit bs) 0))

-- the number that digits write after those of n
abbrev pub value_after : ℕ → List ℕ → ℕ
value_after n [] = n
value_after n (d ∷ ds) = value_after (10 * n + (d - 48)) ds

-- a number that is at most 4294967295
abbrev pub within : ℕ → Option ℕ
within n = cond (nat_le n 4294967295) (Some n) None

-- the number that digits write, without a leading zero
abbrev pub number_of : List ℕ → Option ℕ
number_of [] = None
number_of (d ∷ []) = within (value_after 0 (d ∷ []))
number_of (d ∷ e ∷ ds) = cond (d == 48) None (within (value_after 0 (d ∷ e ∷ ds)))

-- what a run is
abbrev pub lexeme_of : List ℕ → Lexeme
lexeme_of [] = Wrong
lexeme_of (b ∷ bs) =
    cond (is_ascii_alphabetic b)
    (cond (nat_le (length (b ∷ bs)) 32)
    (option_map_or AWord (word_of (b ∷ bs)) (AName (b ∷ bs))) Wrong)
    (cond (is_ascii_digit b) (option_map_or ANumber (number_of (b ∷ bs)) Wrong)
    (cond (is_symbol b) (ASymbol b) Wrong))

-- From the byte `at` on the text's tokens are these, each with the byte at which it begins: gaps
-- stand before and between them and behind the last.
abbrev pub AreTokens : ℕ → List ℕ → List (ℕ × Lexeme) → Type 0
AreTokens at text [] = length text ≡ gap_len text
AreTokens at text (token ∷ tokens) =
    let rest = drop (gap_len text) text in
    (0 < length rest) × (token.0 ≡ at + gap_len text)
    × (token.1 ≡ lexeme_of (take (run_len rest) rest))
    × AreTokens (token.0 + run_len rest) (drop (run_len rest) rest) tokens
