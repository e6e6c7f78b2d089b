-- What is told of the base names' values at a launch.
use Rattle.std.specs.Prelude.{◌≡◌, ℕ, List}
use Rattle.size_arith.specs.declared.names.Name.{Name}
use Rattle.size_arith.specs.Ranges.{Admissible, AreNames, sizes_at}
use Rattle.launch_lengths.specs.Bases.{bases_of}

-- admissible values are those that are read off the sizes they give
abbrev pub BasesComeBack : Type 0
BasesComeBack =
    (names : List Name) (bases : List ℕ) → AreNames names → Admissible names bases
    → bases_of names (sizes_at names bases) ≡ bases
