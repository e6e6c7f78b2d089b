-- What the limits on a term give its kernel.
use Rattle.std.specs.Prelude.{ℕ, ◌*◌, ◌≤◌, []}
use Rattle.lift_tree.specs.Tree.{Tree, height}
use Rattle.lift_tree.specs.Types.{IsOutput}
use Rattle.lift_tree.specs.Annotations.{Annotation, Annotates, type_in}
use Rattle.lift_tree.specs.Typing.{Declared}
use Rattle.lift_ir.specs.Lowerable.{IsStaged}
use Rattle.lift_ir.specs.Lowering.{Lowered, Written}
use Rattle.printed_form.specs.Programs.{lowered_root}
use Rattle.printed_form.specs.Sound.{IsWrittenWithin, AreLow, loop_depth, CanBeWritten}
use Rattle.group_form.specs.Kernels.{Printer, StandsFor}
use Rattle.buffer_allocation.specs.Layouts.{layouts}

-- a term that a printer prints can be written
abbrev pub TermsCanBeWritten : Type 0
TermsCanBeWritten = (p : Printer) (t : Lowered) → StandsFor p t → CanBeWritten t

-- a typed term of at most so many layouts, whose height is at most 512, is lowered to one that
-- nests no deeper; a layout is lowered to at most three
abbrev pub TermsNestWithin : Type 0
TermsNestWithin =
    (d : Declared) (most : ℕ) (t : Tree) (n : Annotation) → Annotates d [] t n
    → IsOutput (type_in n) → IsStaged Written t n → CanBeWritten (lowered_root d.names t n)
    → most ≤ 256 → layouts t n ≤ most → height t ≤ 512
    → IsWrittenWithin (3 * most) (λ v. 0) 0 (lowered_root d.names t n)
    × AreLow 1023 (lowered_root d.names t n)
    × (loop_depth (lowered_root d.names t n) ≤ 1024)
