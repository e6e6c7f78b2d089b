-- Typed terms whose numbers, lengths and inputs a kernel can have.
use Rattle.std.specs.Prelude.{◌<◌, ◌≤◌, List, length}
use Rattle.size_arith.specs.declared.poly.Monomial.{Monomial}
use Rattle.size_arith.specs.Polynomial.{degree}
use Rattle.lift_tree.specs.Lists.{Every}
use Rattle.lift_tree.specs.Tree.{Tree}
use Rattle.lift_tree.specs.Types.{PlainTy}
use Rattle.lift_tree.specs.Typing.{Declared}
use Rattle.lift_tree.specs.Annotations.{Annotation, type_in}
use Rattle.kernel_tree.specs.Code.{Kernel}
use Rattle.lift_ir.specs.AtLaunch.{shape_of}
use Rattle.printed_form.specs.Programs.{lowered_root}
use Rattle.printed_form.specs.Sound.{IsSpelledIn, AllLengths, dimensions, IsSound}
use Rattle.printed_form.specs.KernelGrammar.{IsSoundIn}
use Rattle.length_spelling.specs.Formulas.{length_formula}
use Rattle.length_spelling.specs.Laws.{length_height}

-- a length within the limits of polynomials: at most 32 monomials, each a product of at most four
-- base names
pub record IsHeld (n : List Monomial) : Type 0 where
  pub terms : length n ≤ 32
  pub degree : degree n ≤ 4

-- a type of at most four arrays around a scalar or a vector, its lengths within their limits
pub record IsHeldType (a : PlainTy) : Type 0 where
  pub lengths : AllLengths IsHeld (shape_of a)
  pub few : dimensions (shape_of a) ≤ 5

-- the inputs, the output and all lengths in the term are within their limits; its numbers are
-- words, its inputs are declared, and its copies have arrays that can be declared
pub record HasSoundParts (d : Declared) (t : Tree) (n : Annotation) : Type 0 where
  pub inputs : Every IsHeldType d.inputs
  pub output : IsHeldType (type_in n)
  pub parts : IsSound IsHeld (λ s. s < length d.inputs) (lowered_root d.names t n)

-- the length's formula is of the kernel's grammar
abbrev pub IsLengthIn : Kernel → Declared → List Monomial → Type 0
IsLengthIn k d p = IsSpelledIn k length_height (length_formula d.names p)

-- the inputs, the output and all lengths in the term are of the kernel's grammar
pub record HasSpelledParts (k : Kernel) (d : Declared) (t : Tree) (n : Annotation) : Type 0 where
  pub parts : IsSoundIn k (length_formula d.names) length_height d (lowered_root d.names t n)
  pub output : AllLengths (IsLengthIn k d) (shape_of (type_in n))
  pub few : dimensions (shape_of (type_in n)) ≤ 5
