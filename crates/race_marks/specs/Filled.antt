-- Lists that are written only as far as they were used.
use Rattle.std.specs.Prelude.{ℕ, ◌-◌, ◌++◌, List, length, replicate}

-- these items, and behind them the same item until there are so many
abbrev pub filled : {A : Type 0} → List A → (count : ℕ) → A → List A
filled xs n x = xs ++ replicate (n - length xs) x
