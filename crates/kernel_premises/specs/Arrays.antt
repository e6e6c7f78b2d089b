-- The arrays that a term's kernel declares.
use Rattle.std.specs.Prelude.{◌≡◌, ◌*◌, ◌≤◌, length, None}
use Rattle.std.specs.List.{sum}
use Rattle.lift_tree.specs.Tree.{Tree}
use Rattle.lift_tree.specs.Typing.{Declared}
use Rattle.lift_tree.specs.Annotations.{Annotation}
use Rattle.lift_ir.specs.Terms.{Space, LocalMemory, PrivateMemory}
use Rattle.lift_ir.specs.Lowering.{Written}
use Rattle.lift_ir.specs.Lowerable.{IsStaged}
use Rattle.buffer_allocation.specs.Copies.{copies}
use Rattle.buffer_allocation.specs.Limits.{passed_limit}
use Rattle.buffer_allocation.specs.declared.copies.Memory.{Memory}
use Rattle.buffer_allocation.specs.declared.copies.Memory.TheVariants.{Local, Private}
use Rattle.printed_form.specs.Counts.{copy_lengths}
use Rattle.printed_form.specs.Programs.{lowered_root}
use Rattle.kernel_premises.specs.Sound.{HasSoundParts}

-- a memory's name in lowered terms
abbrev pub space_of : Memory → Space
space_of Local = LocalMemory
space_of Private = PrivateMemory

-- a term of sound parts has the arrays that are allocated for it, in their order
abbrev pub AllocatedAreDeclared : Type 0
AllocatedAreDeclared =
    (d : Declared) (t : Tree) (n : Annotation) → IsStaged Written t n → HasSoundParts d t n
    → (m : Memory) → copies m t n ≡ copy_lengths (space_of m) (lowered_root d.names t n)

-- arrays in local memory take at most 32,768 bytes, four a cell, and those in private memory have
-- at most 256 cells; so there are at most 8,192 of the first, and 256 of the second
pub record AreFew (d : Declared) (t : Tree) (n : Annotation) : Type 0 where
  pub bytes : 4 * sum (copy_lengths LocalMemory (lowered_root d.names t n)) ≤ 32768
  pub cells : sum (copy_lengths PrivateMemory (lowered_root d.names t n)) ≤ 256
  pub locals : length (copy_lengths LocalMemory (lowered_root d.names t n)) ≤ 8192
  pub privates : length (copy_lengths PrivateMemory (lowered_root d.names t n)) ≤ 256

-- where no limit is passed
abbrev pub DeclaredAreFew : Type 0
DeclaredAreFew =
    (d : Declared) (t : Tree) (n : Annotation) → IsStaged Written t n → HasSoundParts d t n
    → passed_limit t n ≡ None → AreFew d t n
