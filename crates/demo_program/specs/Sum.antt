-- The sum that the demo's line tells.
use Rattle.std.specs.Prelude.{ℕ, ◌%◌, ◌^◌, List, map, sum}

-- the sum of the words of all lists, modulo 2^32
abbrev pub wrapped_sum : List (List ℕ) → ℕ
wrapped_sum lists = sum (map sum lists) % 2 ^ 32
