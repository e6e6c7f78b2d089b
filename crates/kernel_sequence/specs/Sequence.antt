-- The kernels of a lowered term, each with what it may name.
use Rattle.std.specs.Prelude.{ℕ, ◌≤◌, ◌≡◌, false, List, ◌++◌, length, map, take, Some, None, slice_get}
use Rattle.lift_tree.specs.Tree.{tree_of}
use Rattle.lift_tree.specs.Types.{PlainTy, ty_of}
use Rattle.lift_tree.specs.Annotations.{annotation_of, type_in}
use Rattle.lift_tree.specs.Typing.{Declared}
use Rattle.lowered_tree.specs.declared.lowered.Lowered.{Lowered}
use Rattle.lowered_tree.specs.Whole.{IsSoundTerm}
use Rattle.kernel_sequence.specs.Cut.{Part, kernel_parts}
use Rattle.kernel_sequence.specs.Bound.{first_bound}
use Rattle.kernel_sequence.specs.Parts.{term_part}

-- the terms of a lowered term's kernels, in order
abbrev pub parts_of : Lowered → List Part
parts_of l = kernel_parts (length l.inputs.items) (tree_of l.term) (annotation_of l.types)

-- the arrays that kernels make for those after them, by their types
abbrev pub scratch_of : List Part → List PlainTy
scratch_of = map (λ (p : Part). type_in p.types)

-- the inputs of a kernel behind those of these parts: the program's, then their scratch arrays
abbrev pub inputs_behind : Lowered → List Part → List PlainTy
inputs_behind l ps = map ty_of l.inputs.items ++ scratch_of ps

-- what a kernel behind those of these parts may name
abbrev pub declared_behind : Lowered → List Part → Declared
declared_behind l ps = record { names = l.names; inputs = inputs_behind l ps }

-- each part is sound over what its kernel may name
abbrev pub AreSoundParts : Lowered → List Part → Type 0
AreSoundParts l ps = (k : ℕ) (p : Part) → slice_get ps k ≡ Some p
    → ∥ IsSoundTerm (declared_behind l (take k ps)) p.tree p.types ∥₁

-- kernels of these parts, each with the inputs of those before it
pub record AreKernels (l : Lowered) (ps : List Part) (ks : List Lowered) : Type 0 where
  pub terms : map term_part ks ≡ ps
  pub names : (k : ℕ) (x : Lowered) → slice_get ks k ≡ Some x → x.names ≡ l.names
  pub inputs : (k : ℕ) (x : Lowered) → slice_get ks k ≡ Some x
      → map ty_of x.inputs.items ≡ inputs_behind l (take k ps)

-- the kernels of a lowered term
pub record AreKernelsOf (l : Lowered) (ks : List Lowered) : Type 0 where
  pub kernels : AreKernels l (parts_of l) ks
  -- no `then` has a binder around, and there are at most sixteen kernels
  pub unbound : first_bound false (tree_of l.term) ≡ None
  pub few : length ks ≤ 16
