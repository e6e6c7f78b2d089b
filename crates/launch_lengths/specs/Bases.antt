-- The base names' values at a launch.
use Rattle.std.specs.Prelude.{ℕ, ◌/◌, min, List, [], ◌∷◌}
use Rattle.size_arith.specs.declared.names.Name.{Name}

-- each size divided by its name's divisor; an admissible size gives at most 2^20
abbrev pub bases_of : List Name → (sizes : List ℕ) → List ℕ
bases_of [] ss = []
bases_of (n ∷ ns) [] = []
bases_of (n ∷ ns) (s ∷ ss) = min (s / n.multiple) 1048576 ∷ bases_of ns ss
