-- Numbers and places as a script writes them.
use Rattle.std.specs.Prelude.{ℕ, ◌+◌, ◌*◌, ◌-◌, List, [], ◌∷◌, Bool, ◌==◌, cond, if◌then◌else◌, nat_le, bytes_eq, codes, Option, Some, None, option_map, option_and_then}
use Rattle.std.specs.Borrow.{Bor}
use Rattle.std.specs.List.{slice_split, list_all}
use Rattle.std.specs.Char.{is_ascii_digit}

-- the number that digits write after those of n
abbrev pub value_after : ℕ → List ℕ → ℕ
value_after n [] = n
value_after n (d ∷ ds) = value_after (10 * n + (d - 48)) ds

-- a number that is at most 4294967295
abbrev pub within : ℕ → Option ℕ
within n = cond (nat_le n 4294967295) (Some n) None

-- a word of digits alone
abbrev pub are_digits : List ℕ → Bool
are_digits word = list_all is_ascii_digit word

-- the number that digits write, without a leading zero
abbrev pub number_of_digits : List ℕ → Option ℕ
number_of_digits [] = None
number_of_digits (d ∷ []) = within (value_after 0 (d ∷ []))
number_of_digits (d ∷ e ∷ ds) = cond (d == 48) None (within (value_after 0 (d ∷ e ∷ ds)))

-- the number that a word writes
abbrev pub number_of : List ℕ → Option ℕ
number_of word = if are_digits word then number_of_digits word else None

-- a dot
abbrev pub is_dot : ℕ → Bool
is_dot b = b == 46

-- the parts between dots of what stands behind the first dot, where there is one
abbrev pub parts_behind : Option (Bor (List ℕ)) → List (List ℕ)
parts_behind None = []
parts_behind (Some text) = slice_split is_dot text.now

-- the numbers that the words write, each of which writes one
abbrev pub numbers_of : List (List ℕ) → Option (List ℕ)
numbers_of [] = Some []
numbers_of (word ∷ words) =
    option_and_then (λ n. option_map (λ ns. n ∷ ns) (numbers_of words)) (number_of word)

-- the place that a word writes: a dot, or child numbers with dots between
abbrev pub place_of : List ℕ → Option (List ℕ)
place_of word = if bytes_eq word (codes ".") then Some [] else numbers_of (slice_split is_dot word)
