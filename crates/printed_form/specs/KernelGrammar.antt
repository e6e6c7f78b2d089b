-- The kernel that the printer makes is of the kernel grammar.
use Rattle.std.specs.Prelude.{◌≡◌, ℕ, ◌+◌, ◌*◌, ◌<◌, ◌≤◌, true, List, Option, length}
use Rattle.size_arith.specs.declared.poly.Monomial.{Monomial}
use Rattle.lift_tree.specs.Tree.{Tree}
use Rattle.lift_tree.specs.Annotations.{Annotation, type_in}
use Rattle.lift_tree.specs.LocalSizes.{IsLocalSize}
use Rattle.lift_tree.specs.Typing.{Declared}
use Rattle.kernel_tree.specs.Formula.{Formula}
use Rattle.kernel_tree.specs.Code.{Kernel}
use Rattle.kernel_tree.specs.Grammar.{is_kernel}
use Rattle.lift_ir.specs.Terms.{Term}
use Rattle.lift_ir.specs.AtLaunch.{shape_of}
use Rattle.lift_ir.specs.Fours.{KeepsFours}
use Rattle.printed_form.specs.Programs.{input_shape, lowered_root, printed_kernel}
use Rattle.printed_form.specs.Sound.{IsSpelledIn, AllLengths, IsSound, IsWrittenWithin, dimensions, loop_depth, AreLow, CanBeWritten}

-- an input that is declared, whose lengths are spelled in the grammar
pub record IsSourceIn (k : Kernel) (spell : List Monomial → Formula) (high : ℕ) (d : Declared)
    (s : ℕ) : Type 0 where
  pub declared : s < length d.inputs
  pub lengths : AllLengths (λ n. IsSpelledIn k high (spell n)) (input_shape d.inputs s)
  pub few : dimensions (input_shape d.inputs s) ≤ 5

-- a term's numbers are words, its lengths and inputs are spelled in the grammar, at most so high
abbrev pub IsSoundIn : Kernel → (spell : List Monomial → Formula) → (high : ℕ) → Declared
    → Term (List Monomial) → Type 0
IsSoundIn k spell high d t =
    IsSound (λ n. IsSpelledIn k high (spell n)) (IsSourceIn k spell high d) t

-- A typed term is printed within the grammar: something is stored wherever it is written; its
-- numbers are words, its lengths and inputs are spelled in the grammar, at most so high; at most so
-- many layouts stand one on another; element terms and loops don't nest too deep; its vectors lie
-- in no private array; groups may have the size that is fixed.
pub record IsPrintedWithin (spell : List Monomial → Formula) (high most : ℕ) (d : Declared)
    (local : Option (ℕ × ℕ)) (t : Tree) (a : Annotation) : Type 0 where
  pub size : IsLocalSize local
  pub some : 1 ≤ high
  pub fits : high + (10 + 3 * most) ≤ 1024
  pub written : CanBeWritten (lowered_root d.names t a)
  pub sound : IsSoundIn (printed_kernel spell d local t a) spell high d (lowered_root d.names t a)
  pub layouts : IsWrittenWithin most (λ v. 0) 0 (lowered_root d.names t a)
  pub low : AreLow 1023 (lowered_root d.names t a)
  pub fours : KeepsFours (lowered_root d.names t a)
  pub loops : loop_depth (lowered_root d.names t a) ≤ 1024
  pub lengths : AllLengths (λ n. IsSpelledIn (printed_kernel spell d local t a) high (spell n))
      (shape_of (type_in a))
  pub few : dimensions (shape_of (type_in a)) ≤ 5

-- the kernel printed for such a term is of the grammar
abbrev pub KernelsAreOfTheGrammar : Type 0
KernelsAreOfTheGrammar =
    (spell : List Monomial → Formula) (high most : ℕ) (d : Declared) (local : Option (ℕ × ℕ))
    (t : Tree) (a : Annotation)
    → IsPrintedWithin spell high most d local t a
    → is_kernel (printed_kernel spell d local t a) ≡ true
