-- The kernels of a lowered term that is cut, as they are run in order.
use Rattle.std.specs.Prelude.{ℕ, ◌≡◌, ◌⊎◌, true, false, List, [], ◌∷◌, Option}
use Rattle.kernel_tree.specs.Code.{Kernel}
use Rattle.kernel_tree.specs.Grammar.{is_kernel}
use Rattle.lift_ir.specs.Owner.{is_in_rows}
use Rattle.lift_tree.specs.Annotations.{Annotation, annotation_of}
use Rattle.lift_tree.specs.Tree.{Tree, tree_of}
use Rattle.lift_tree.specs.Typing.{Declared}
use Rattle.lowered_tree.specs.Kinds.{asks_of}
use Rattle.lowered_tree.specs.Named.{declared_of}
use Rattle.lowered_tree.specs.Whole.{IsSoundTerm}
use Rattle.lowered_tree.specs.declared.lowered.Lowered.{Lowered}
use Rattle.printed_form.specs.Programs.{lowered_root}
use Rattle.kernel_emit.specs.Kernels.{IsKernelFor}
use Rattle.sequence_runs.specs.Runs.{Stage}

-- a term in which no map is of rows asks for one work-item, or for one row
abbrev pub AsksForRow : (local : Option (ℕ × ℕ)) → Declared → Tree → Annotation → Type 0
AsksForRow local d t n =
    is_in_rows (lowered_root d.names t n) ≡ false
    → ((asks_of local t).alone ≡ true) ⊎ ((asks_of local t).flat ≡ true)

-- a kernel of the grammar that is a sound term's, as one that is run alone
pub record IsKernelOf (local : Option (ℕ × ℕ)) (l : Lowered) (k : Kernel) : Type 0 where
  pub sound : IsSoundTerm (declared_of l) (tree_of l.term) (annotation_of l.types)
  pub asked : AsksForRow local (declared_of l) (tree_of l.term) (annotation_of l.types)
  pub grammar : is_kernel k ≡ true
  pub kernel : IsKernelFor (declared_of l) local (tree_of l.term) (annotation_of l.types) k

-- each is its term's, one by one
abbrev pub AreKernelsOfEach : (local : Option (ℕ × ℕ)) → List Lowered → List Kernel → Type 0
AreKernelsOfEach local [] [] = Unit {0}
AreKernelsOfEach local [] (k ∷ ks) = ⊥
AreKernelsOfEach local (l ∷ ls) [] = ⊥
AreKernelsOfEach local (l ∷ ls) (k ∷ ks) = IsKernelOf local l k × AreKernelsOfEach local ls ks

-- a term and its kernel, as they are run
abbrev pub stage_of : Lowered → Kernel → Stage
stage_of l k = record {
  declared = declared_of l;
  tree = tree_of l.term;
  types = annotation_of l.types;
  kernel = k;
}

-- terms and their kernels as they are run in order
abbrev pub stages_of : List Lowered → List Kernel → List Stage
stages_of [] ks = []
stages_of (l ∷ ls) [] = []
stages_of (l ∷ ls) (k ∷ ks) = stage_of l k ∷ stages_of ls ks
