-- Which last terms are compiled.
use Rattle.std.specs.Prelude.{◌≡◌, ◌≤◌, ℕ, List, Option, Some, None, Result, Ok, Err}
use Rattle.lift_tree.specs.Annotations.{Annotation, annotation_of}
use Rattle.lift_tree.specs.Programs.{PlainProgram, program_of}
use Rattle.lift_tree.specs.Typing.{declared_by}
use Rattle.lift_tree.specs.Tree.{Tree, height, tree_of}
use Rattle.lift_tree.specs.declared.typed.Typed.{Typed}
use Rattle.lowered_tree.specs.Copies.{CopiesArrays}
use Rattle.lowered_tree.specs.Named.{declared_of}
use Rattle.lowered_tree.specs.Whole.{IsSoundTerm, IsTypedWithin}
use Rattle.lowered_tree.specs.declared.lowered.Lowered.{Lowered}
use Rattle.kernel_tree.specs.Code.{Kernel}
use Rattle.nest_premises.specs.Legal.{IsLegalTerm}
use Rattle.kernel_emit.specs.Kernels.{IsKernelFor}
use Rattle.strategy_script.specs.LocalSize.{local_fixed}
use Rattle.strategy_script.specs.Steps.{State}
use Rattle.lowered_tree.specs.Nest.{IsLegalWith, nest_fault}
use Rattle.thread_mapping.specs.declared.judging.NestNo.{NestNo}
use Rattle.thread_mapping.specs.declared.judging.NestNo.TheVariants as nests
use Rattle.buffer_allocation.specs.Limits.{passed_limit}
use Rattle.buffer_allocation.specs.declared.buffers.AllocNo.{AllocNo}
use Rattle.buffer_allocation.specs.declared.buffers.AllocNo.TheVariants as allocations
use Rattle.fault_lines.specs.declared.refusal.Refusal.{Refusal}
use Rattle.fault_lines.specs.declared.refusal.Refusal.TheVariants as told
use Rattle.stages.specs.Stages.{As, Gives, Then}
use Rattle.program_source.specs.Terms.{LastOf, TermsOf}

-- a typed term of a proper program with few inputs, within the limits on types,
-- which copies nothing but arrays
abbrev pub IsTypedLast : Typed → Type 0
IsTypedLast t = IsTypedWithin (program_of t.program) (tree_of t.term) (annotation_of t.types)

-- a lowered term that is sound over what it may name
abbrev pub IsSoundLowered : Lowered → Type 0
IsSoundLowered l = IsSoundTerm (declared_of l) (tree_of l.term) (annotation_of l.types)

-- a kernel printed for a lowered term, where the local size is fixed so
abbrev pub IsKernelOf : Lowered → Option (ℕ × ℕ) → Kernel → Type 0
IsKernelOf l local k = IsKernelFor (declared_of l) local (tree_of l.term) (annotation_of l.types) k

-- a lowered term, as a script's terms are
abbrev pub lowered_state : Lowered → State
lowered_state l = record { tree = tree_of l.term; types = annotation_of l.types }

-- a legal term within the limits, which copies nothing but arrays
pub record IsAccepted (p : PlainProgram) (t : Tree) (n : Annotation) : Type 0 where
  pub legal : IsLegalTerm (declared_by p) t n
  pub copies : CopiesArrays t n
  pub within : passed_limit t n ≡ None
  pub low : height t ≤ 512

-- the nest is legal with the local size that is fixed, where one is; or this is the first node in
-- preorder at which a rule is broken, and the lowest such rule
abbrev pub NestOf : Option (ℕ × ℕ) → State → Result (Unit {0}) NestNo → Type 0
NestOf local s (Ok legal) = IsLegalWith local s.tree s.types
NestOf local s (Err (nests.Nest place rule)) = nest_fault local s.tree s.types ≡ Some (place, rule)
NestOf local s (Err nests.Memory) = ⊥

-- layouts and memory are within their limits, or this is the first
-- limit that is passed, and the count
abbrev pub BuffersOf : State → Result (Unit {0}) AllocNo → Type 0
BuffersOf s (Ok within) = passed_limit s.tree s.types ≡ None
BuffersOf s (Err (allocations.Limit which count)) =
    passed_limit s.tree s.types ≡ Some (which, count)
BuffersOf s (Err allocations.Memory) = ⊥

-- the term is compiled, or the first stage that stops: its nest, its buffers
abbrev pub CompilesTerm : Option (ℕ × ℕ) → State → Result State Refusal → Type 0
CompilesTerm local last =
    Then (As told.Nest (NestOf local last))
    (λ _. Then (As told.Alloc (BuffersOf last)) (λ _. Gives last))

-- the last term of a program along a script, where it is compiled; or the first stage that stops
abbrev pub LegalOf : PlainProgram → (script : List ℕ) → Result State Refusal → Type 0
LegalOf p script =
    Then (TermsOf p script) (λ terms. Then (LastOf terms) (CompilesTerm (local_fixed script)))
