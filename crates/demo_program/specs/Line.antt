-- The demo's line.
use Rattle.std.specs.Prelude.{ℕ, List, ◌++◌, codes, decimal}

-- its seed, the counts of events and of releases, and the sum
abbrev pub demo_line : (seed : ℕ) → (counts : ℕ × ℕ) → (sum : ℕ) → List ℕ
demo_line seed counts sum =
    codes "demo " ++ decimal seed ++ codes ": events " ++ decimal counts.0 ++ codes ", releases "
    ++ decimal counts.1 ++ codes ", sum " ++ decimal sum ++ codes "\n"
