-- The turns of a loop that begins at some number and goes on by a stride.
use Rattle.std.specs.Prelude.{ℕ, ◌+◌, ◌-◌, ◌/◌}

-- how many of the numbers from, from + stride, from + 2 * stride .. are below the length, where from
-- is below the stride
abbrev pub turns_of : (length stride from : ℕ) → ℕ
turns_of n g k = (n + g - 1 - k) / g
