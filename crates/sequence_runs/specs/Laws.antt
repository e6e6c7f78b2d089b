-- What kernels in order owe.
use Rattle.std.specs.Prelude.{◌≡◌, ℕ, List, [], ◌∷◌, Option}
use Rattle.kernel_tree.specs.Code.{Kernel}
use Rattle.lift_tree.specs.Annotations.{Annotates, Annotation, annotation_of, type_in}
use Rattle.lift_tree.specs.Programs.{PlainProgram}
use Rattle.lift_tree.specs.Tree.{Tree, tree_of}
use Rattle.lift_tree.specs.Types.{IsOutput}
use Rattle.lift_tree.specs.Typing.{HasOutput, IsDeclared, declared_by}
use Rattle.lowered_tree.specs.Named.{declared_of}
use Rattle.lowered_tree.specs.declared.lowered.Lowered.{Lowered}
use Rattle.rewriting.specs.Keeps.{Keeps}
use Rattle.kernel_emit.specs.Kernels.{KeepsTerm, StartsTerm}
use Rattle.kernel_sequence.specs.Cut.{cut_off}
use Rattle.kernel_sequence.specs.Sequence.{AreKernelsOf}
use Rattle.sequence_runs.specs.Runs.{SequenceKeeps, Stage}
use Rattle.sequence_runs.specs.Stages.{AreKernelsOfEach, stages_of}

-- where a term keeps a program's value and is cut into the terms of kernels, and each kernel is its
-- term's, then run in order they keep the program's value
abbrev pub SequencesKeep : Type 0
SequencesKeep =
    (p : PlainProgram) (l : Lowered) (local : Option (ℕ × ℕ)) (ls : List Lowered) (ks : List Kernel)
    → declared_of l ≡ declared_by p → HasOutput p p.body (type_in (annotation_of l.types))
    → Keeps (declared_by p) [] p.body (tree_of l.term)
    → AreKernelsOf l ls → AreKernelsOfEach local ls ks
    → SequenceKeeps (declared_by p) local p.body (type_in (annotation_of l.types)) (stages_of ls ks)

-- of a sequence of one kernel this is what a kernel owes that is run alone: it may be started, and
-- every run keeps the headline with its term's value
abbrev pub OneKernelKeepsTheHeadline : Type 0
OneKernelKeepsTheHeadline =
    (local : Option (ℕ × ℕ)) (k : Stage)
    → IsDeclared k.declared → Annotates k.declared [] k.tree k.types → IsOutput (type_in k.types)
    → SequenceKeeps k.declared local k.tree (type_in k.types) (k ∷ [])
    → StartsTerm k.declared local k.tree k.types k.kernel
    × KeepsTerm k.declared local k.tree k.types k.kernel

-- the last kernel makes what the whole term does
abbrev pub LastKernelsMakeTheOutput : Type 0
LastKernelsMakeTheOutput =
    (i : ℕ) (t : Tree) (n : Annotation) → type_in (cut_off i [] t n).left.types ≡ type_in n
