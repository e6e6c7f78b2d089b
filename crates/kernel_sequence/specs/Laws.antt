-- Laws of the cut.
use Rattle.std.specs.Prelude.{ℕ, ◌≡◌, ◌+◌, false, List, [], length, Some, slice_get}
use Rattle.lift_tree.specs.Tree.{Tree, tree_of}
use Rattle.lift_tree.specs.Annotations.{Annotation, annotation_of}
use Rattle.lift_tree.specs.Belonging.{Belongs}
use Rattle.lift_tree.specs.Values.{Value}
use Rattle.lift_tree.specs.Meaning.{World, meaning}
use Rattle.lowered_tree.specs.declared.lowered.Lowered.{Lowered}
use Rattle.lowered_tree.specs.Forms.{has_then}
use Rattle.lowered_tree.specs.Named.{declared_of}
use Rattle.lowered_tree.specs.Whole.{IsSoundTerm}
use Rattle.kernel_sequence.specs.Cut.{Part, cut_off, cuts, kernel_parts}
use Rattle.kernel_sequence.specs.Sequence.{AreKernelsOf}
use Rattle.kernel_sequence.specs.Values.{with_more, Hold, HoldInTurn}

-- where each scratch array holds its kernel's value, what is left of the term has the term's
abbrev pub CutsKeepTheValue : Type 0
CutsKeepTheValue =
    (w : World) (us : List Value) (sizes i : ℕ) (t : Tree) (n : Annotation)
    → length w.inputs ≡ i → Belongs sizes i 0 t
    → Hold (with_more w us) us 0 (cut_off i [] t n).made
    → meaning (with_more w us) [] (cut_off i [] t n).left.tree ≡ meaning w [] t

-- each kernel's term names the program's inputs and the scratch arrays
-- of the kernels before it alone
abbrev pub KernelsNameEarlierArrays : Type 0
KernelsNameEarlierArrays =
    (sizes i k : ℕ) (t : Tree) (n : Annotation) (p : Part)
    → Belongs sizes i 0 t → slice_get (kernel_parts i t n) k ≡ Some p
    → Belongs sizes (i + k) 0 p.tree

-- a term has one value, whatever inputs stand behind those that it names
abbrev pub MoreInputsKeepTheValue : Type 0
MoreInputsKeepTheValue =
    (w : World) (us vs : List Value) (sizes i b : ℕ) (t : Tree)
    → length w.inputs ≡ i → Belongs sizes i b t
    → meaning (with_more w us) vs t ≡ meaning w vs t

-- so where the kernels are run in turn, each after those before it,
-- the last leaves the term's value
abbrev pub SequencesLeaveTheValue : Type 0
SequencesLeaveTheValue =
    (w : World) (us : List Value) (sizes i : ℕ) (t : Tree) (n : Annotation)
    → length w.inputs ≡ i → Belongs sizes i 0 t
    → length us ≡ length (cut_off i [] t n).made
    → HoldInTurn w us 0 (cut_off i [] t n).made
    → meaning (with_more w us) [] (cut_off i [] t n).left.tree ≡ meaning w [] t

-- there is a kernel for each `then` that no binder is around, and one for the whole
abbrev pub KernelsAreCounted : Type 0
KernelsAreCounted =
    (i : ℕ) (t : Tree) (n : Annotation) → length (kernel_parts i t n) ≡ cuts t n + 1

-- no `then` is left in a kernel's term
abbrev pub KernelsHaveNoCut : Type 0
KernelsHaveNoCut =
    (l : Lowered) (ls : List Lowered) → AreKernelsOf l ls
    → (k : ℕ) (x : Lowered) → slice_get ls k ≡ Some x
    → has_then (tree_of x.term) ≡ false

-- the kernels' terms of a sound term are sound, each over what its kernel may name
abbrev pub KernelsAreSound : Type 0
KernelsAreSound =
    (l : Lowered) (ls : List Lowered)
    → IsSoundTerm (declared_of l) (tree_of l.term) (annotation_of l.types)
    → AreKernelsOf l ls
    → (k : ℕ) (x : Lowered) → slice_get ls k ≡ Some x
    → IsSoundTerm (declared_of x) (tree_of x.term) (annotation_of x.types)
