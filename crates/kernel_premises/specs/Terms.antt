-- What a typed term is printed as.
use Rattle.std.specs.Prelude.{ℕ, ◌≡◌, ◌≤◌, List, length, true, Option}
use Rattle.size_arith.specs.declared.names.Name.{Name}
use Rattle.size_arith.specs.Ranges.{AreNames, Admissible, sizes_at}
use Rattle.lift_tree.specs.Tree.{Tree, height}
use Rattle.lift_tree.specs.Typing.{Declared}
use Rattle.lift_tree.specs.Annotations.{Annotation}
use Rattle.lift_tree.specs.LocalSizes.{IsLocalSize}
use Rattle.kernel_tree.specs.Code.{Kernel}
use Rattle.kernel_tree.specs.Grammar.{is_kernel}
use Rattle.kernel_tree.specs.Launch.{Launch}
use Rattle.lowered_tree.specs.Kinds.{asks_of}
use Rattle.buffer_allocation.specs.Layouts.{layouts}
use Rattle.printed_form.specs.Programs.{IsLaunchOf, IsSpelling}
use Rattle.barrier_placement.specs.Fencing.{Fencing}
use Rattle.group_form.specs.Kernels.{AreNeededBy, Printer, PrintsBy, kernel_by}
use Rattle.nest_premises.specs.Legal.{IsLegalTerm}
use Rattle.nest_premises.specs.Printable.{IsPrintable}
use Rattle.length_spelling.specs.Formulas.{length_formula}
use Rattle.kernel_premises.specs.Sound.{HasSoundParts, HasSpelledParts}

-- the kernel that a typed term is printed as, where this local size is fixed, with these barriers
abbrev pub kernel_for : Printer → Declared → (local : Option (ℕ × ℕ)) → (fence : ℕ → Fencing) → Tree
    → Annotation → Kernel
kernel_for p d local fence t n = kernel_by p (length_formula d.names) fence d local t n

-- at each admissible launch the formulas of lengths spell them
abbrev pub FormulasSpellLengths : Type 0
FormulasSpellLengths =
    (names : List Name) (bases : List ℕ) (l : Launch)
    → AreNames names → Admissible names bases → l.sizes ≡ sizes_at names bases
    → IsSpelling (length_formula names) bases l

-- in every kernel that has the program's sizes, the parts of a term of sound parts are spelled
abbrev pub SoundPartsAreSpelled : Type 0
SoundPartsAreSpelled =
    (k : Kernel) (d : Declared) (t : Tree) (n : Annotation)
    → k.sizes ≡ length d.names → HasSoundParts d t n → HasSpelledParts k d t n

-- a legal term that can be printed, within the limits on layouts and height, is printed with its
-- needed barriers, for groups of a size that can be fixed, as a kernel of the kernel grammar
abbrev pub KernelsAreInTheGrammar : Type 0
KernelsAreInTheGrammar =
    (p : Printer) (d : Declared) (local : Option (ℕ × ℕ)) (fence : ℕ → Fencing) (t : Tree)
    (n : Annotation)
    → IsLocalSize local → IsLegalTerm d t n → IsPrintable p d t n → AreNeededBy p d local fence t n
    → layouts t n ≤ 24 → height t ≤ 512
    → is_kernel (kernel_for p d local fence t n) ≡ true

-- it is printed for the term, at each admissible launch
abbrev pub TermsArePrinted : Type 0
TermsArePrinted =
    (p : Printer) (d : Declared) (local : Option (ℕ × ℕ)) (bases : List ℕ) (fence : ℕ → Fencing)
    (t : Tree) (n : Annotation) (l : Launch)
    → IsPrintable p d t n → IsLaunchOf d (asks_of local t) bases t n l
    → AreNeededBy p d local fence t n
    → PrintsBy p d local bases t n l (kernel_for p d local fence t n)
