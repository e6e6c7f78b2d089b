-- The line that fixes the local size.
use Rattle.std.specs.Prelude.{ℕ, List, [], ◌∷◌, Option, None, if◌then◌else◌, bytes_eq, codes, option_and_then}
use Rattle.std.specs.Str.Lines.{lines}
use Rattle.lift_tree.specs.LocalSizes.{size_within}
use Rattle.strategy_script.specs.Lines.{first_word, behind_word, is_no_step}
use Rattle.strategy_script.specs.Numbers.{number_of}

-- the size that may be fixed, where no word follows
abbrev pub last_size : (across down : ℕ) → List ℕ → Option (ℕ × ℕ)
last_size across down behind =
    if bytes_eq (first_word behind) [] then size_within across down else None

-- the size of rows of so many work-items: one row where no word follows, else as many as the text's
-- first word writes, where it is the last word
abbrev pub rows_behind : (across : ℕ) → List ℕ → Option (ℕ × ℕ)
rows_behind across text =
    if bytes_eq (first_word text) [] then size_within across 1
    else
    (option_and_then (λ down. last_size across down (behind_word text))
    (number_of (first_word text)))

-- the size that the text's first words write, where they are the last
abbrev pub size_written : List ℕ → Option (ℕ × ℕ)
size_written text =
    option_and_then (λ across. rows_behind across (behind_word text)) (number_of (first_word text))

-- the size behind the word `local`
abbrev pub size_behind : List ℕ → Option (ℕ × ℕ)
size_behind text =
    if bytes_eq (first_word text) (codes "local") then size_written (behind_word text) else None

-- the local size that a line fixes
abbrev pub local_of : List ℕ → Option (ℕ × ℕ)
local_of line =
    if bytes_eq (first_word line) (codes "launch") then size_behind (behind_word line) else None

-- the local size that lines fix: the first that isn't of no step may
abbrev pub local_in : List (List ℕ) → Option (ℕ × ℕ)
local_in [] = None
local_in (line ∷ lines) = if is_no_step line then local_in lines else local_of line

-- the local size that a text fixes
abbrev pub local_fixed : List ℕ → Option (ℕ × ℕ)
local_fixed text = local_in (lines text)
