-- From a node into one of its parts.
use Rattle.std.specs.Prelude.{◌≡◌, ◌+◌, ◌-◌, ◌*◌, ◌^◌, ◌<◌, ◌≤◌, ℕ}
use Rattle.count_tree.specs.declared.nodes.Way.{Way}

-- into the left part, where it has enough flags, so many
abbrev pub IsLeft : Way → (left : ℕ) → (part : Way) → Type 0
IsLeft w left part = left ≤ 2 ^ 31 → w.rest < left
    → part ≡ record { node = 2 * w.node + 1; rest = w.rest }

-- into the right part, where the left one has not enough, only so many
abbrev pub IsRight : Way → (left : ℕ) → (part : Way) → Type 0
IsRight w left part = w.rest < 2 ^ 31 → left ≤ w.rest
    → part ≡ record { node = 2 * w.node; rest = w.rest - left }
