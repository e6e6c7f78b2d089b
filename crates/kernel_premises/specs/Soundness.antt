-- Legal terms have sound parts.
use Rattle.std.specs.Prelude.{List}
use Rattle.size_arith.specs.declared.names.Name.{Name}
use Rattle.size_arith.specs.Ranges.{Admissible, AreNames, leasts}
use Rattle.lift_tree.specs.Tree.{Tree}
use Rattle.lift_tree.specs.Typing.{Declared}
use Rattle.lift_tree.specs.Annotations.{Annotation}
use Rattle.nest_premises.specs.Legal.{IsLegalTerm}
use Rattle.nest_premises.specs.Printable.{CanBeLowered}
use Rattle.kernel_premises.specs.Sound.{HasSoundParts}

-- a typed term of a program, within the limits on types, that can be lowered
abbrev pub LoweredTermsHaveSoundParts : Type 0
LoweredTermsHaveSoundParts =
    (d : Declared) (t : Tree) (n : Annotation)
    → IsLegalTerm d t n → CanBeLowered d t n
    → HasSoundParts d t n

-- the least size of each name is admissible
abbrev pub LeastSizesAreAdmissible : Type 0
LeastSizesAreAdmissible = (names : List Name) → AreNames names → Admissible names (leasts names)
