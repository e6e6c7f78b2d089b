-- Legal terms with what their kernels are planned from.
use Rattle.std.specs.Prelude.{◌≡◌, ℕ, List, Option, Ok}
use Rattle.lift_tree.specs.Annotations.{annotation_of}
use Rattle.lift_tree.specs.Launches.{Asks}
use Rattle.lift_tree.specs.Programs.{PlainProgram}
use Rattle.lift_tree.specs.Tree.{tree_of}
use Rattle.lift_tree.specs.Typing.{Declared, declared_by}
use Rattle.lowered_tree.specs.Kinds.{asks_of}
use Rattle.lowered_tree.specs.Named.{declared_of}
use Rattle.lowered_tree.specs.declared.lowered.Lowered.{Lowered}
use Rattle.buffer_allocation.specs.Allocated.{AreAllocated}
use Rattle.strategy_script.specs.LocalSize.{local_fixed}
use Rattle.strategy_script.specs.Steps.{State}
use Rattle.program_source.specs.Program.{IsRead}
use Rattle.compilation.specs.Legal.{IsAccepted, LegalOf, lowered_state}
use Rattle.compilation.specs.declared.kernel.Placed.{Placed}

-- the arrays are those that the term's copies fill
abbrev pub HaveArrays : Placed → Type 0
HaveArrays x =
    AreAllocated x.buffers.local.items x.buffers.private.items
    (tree_of x.spaced.mapped.lowered.term) (annotation_of x.spaced.mapped.lowered.types)

-- this is the lowered term, with the local size that is fixed
pub record ArePlaced (l : Lowered) (local : Option (ℕ × ℕ)) (x : Placed) : Type 0 where
  pub lowered : x.spaced.mapped.lowered ≡ l
  pub fixed : x.spaced.mapped.local ≡ local
  pub arrays : HaveArrays x

-- this is the term, with what it may name and the local size that is fixed
pub record AreOfLast (d : Declared) (local : Option (ℕ × ℕ)) (last : State)
    (x : Placed) : Type 0 where
  pub declared : declared_of x.spaced.mapped.lowered ≡ d
  pub term : lowered_state x.spaced.mapped.lowered ≡ last
  pub fixed : x.spaced.mapped.local ≡ local
  pub arrays : HaveArrays x

-- The term is the last of a program along a script, a legal one within the limits, with the local
-- size that the script fixes, where it does.
pub record IsPlaced (program script : List ℕ) (p : PlainProgram) (asks : Asks)
    (x : Placed) : Type 0 where
  pub read : IsRead program p
  pub last : State
  pub legal : LegalOf p script (Ok last)
  pub accepted : IsAccepted p last.tree last.types
  pub asked : asks_of (local_fixed script) last.tree ≡ asks
  pub term : AreOfLast (declared_by p) (local_fixed script) last x
