-- What reverse and stride do, position by position.
use Rattle.std.specs.Prelude.{ℕ, ◌≡◌, ◌<◌, ◌+◌, ◌-◌, ◌*◌, ◌/◌, ◌%◌, List, length, reverse}
use Rattle.lift_tree.specs.Values.{Value, nth}
use Rattle.lift_tree.specs.Lists.{strided}

-- position i of an array turned round is position n - 1 - i of the array
abbrev pub ReversesByPosition : Type 0
ReversesByPosition =
    (xs : List Value) (i : ℕ) → i < length xs → nth (reverse xs) i ≡ nth xs (length xs - 1 - i)

-- where a step m divides the length n, position i of a stride is position (i mod
-- n/m) * m + i / (n/m) of the array
abbrev pub StridesByPosition : Type 0
StridesByPosition =
    (m : ℕ) (xs : List Value) (i : ℕ) → 0 < m → length xs / m * m ≡ length xs → i < length xs
    → nth (strided m xs) i ≡ nth xs (i % (length xs / m) * m + i / (length xs / m))
