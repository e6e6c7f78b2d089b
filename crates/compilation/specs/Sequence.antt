-- A program and a script, compiled to kernels in order.
use Rattle.std.specs.Prelude.{◌≡◌, ℕ, List, [], ◌∷◌, ◌++◌, map, length, false, Option, Some, None, Result, Ok, Err}
use Rattle.kernel_spelling.specs.SequenceText.{IsSequenceText}
use Rattle.kernel_tree.specs.Code.{Kernel}
use Rattle.lift_tree.specs.Annotations.{annotation_of, type_in}
use Rattle.lift_tree.specs.FixedSizes.{asked}
use Rattle.lift_tree.specs.Launches.{Asks}
use Rattle.lift_tree.specs.Lists.{Every}
use Rattle.lift_tree.specs.Programs.{PlainProgram, program_of}
use Rattle.lift_tree.specs.Types.{PlainTy, ty_of}
use Rattle.lift_tree.specs.Typing.{Declared, HasOutput, declared_by}
use Rattle.lift_tree.specs.declared.typed.Typed.{Typed}
use Rattle.lowered_tree.specs.Copies.{CopiesArrays}
use Rattle.lowered_tree.specs.Kinds.{asks_of}
use Rattle.lowered_tree.specs.Named.{declared_of}
use Rattle.lowered_tree.specs.declared.lowered.Lowered.{Lowered}
use Rattle.lowered_tree.specs.declared.rule.NestRule.TheVariants.{N13}
use Rattle.kernel_sequence.specs.Bound.{first_bound}
use Rattle.kernel_sequence.specs.Cut.{Part, kernel_parts, part}
use Rattle.kernel_sequence.specs.Parts.{term_part}
use Rattle.kernel_sequence.specs.Refused.{passed_count}
use Rattle.kernel_sequence.specs.Sequence.{AreKernelsOf}
use Rattle.kernel_sequence.specs.declared.no.CutNo.{CutNo}
use Rattle.kernel_sequence.specs.declared.no.CutNo.TheVariants as cuts
use Rattle.nest_premises.specs.Legal.{IsLegalTerm}
use Rattle.kernel_emit.specs.Kernels.{IsKernelFor}
use Rattle.sequence_runs.specs.Runs.{SequenceKeeps, Stage}
use Rattle.strategy_script.specs.LocalSize.{local_fixed}
use Rattle.sequence_runs.specs.Stages.{AreKernelsOfEach}
use Rattle.strategy_script.specs.Steps.{State, state_of}
use Rattle.fault_lines.specs.declared.refusal.Refusal.{Refusal}
use Rattle.fault_lines.specs.declared.refusal.Refusal.TheVariants as told
use Rattle.stages.specs.Stages.{As, Gives, Then}
use Rattle.program_source.specs.Program.{IsRead}
use Rattle.program_source.specs.Terms.{LastOf, TermsOf}
use Rattle.compilation.specs.Legal.{CompilesTerm, lowered_state}
use Rattle.compilation.specs.Meets.{CanBeLaidOut}
use Rattle.compilation.specs.declared.sequence.KernelOutline.{KernelOutline}

-- ---- which programs are compiled

-- a term with the types of its nodes, as a script's terms are
abbrev pub state_in : Part → State
state_in x = record { tree = x.tree; types = x.types }

-- the terms of the kernels that a term over so many inputs is cut into; or the first
-- `then` in preorder that a binder is around, or where there is none how many kernels
-- there are, if more than sixteen
abbrev pub CutOf : (inputs : ℕ) → State → Result (List Part) CutNo → Type 0
CutOf i s (Ok parts) =
    (first_bound false s.tree ≡ None) × (passed_count s.tree s.types ≡ None)
    × (parts ≡ kernel_parts i s.tree s.types)
CutOf i s (Err (cuts.Nest place rule)) = (first_bound false s.tree ≡ Some place) × (rule ≡ N13)
CutOf i s (Err (cuts.Limit count)) =
    (first_bound false s.tree ≡ None) × (passed_count s.tree s.types ≡ Some count)
CutOf i s (Err cuts.Memory) = ⊥

-- each kernel's own stages in turn: its nest, then its buffers; only then the next kernel's
abbrev pub CompilesInTurn : Option (ℕ × ℕ) → List Part → Result (Unit {0}) Refusal → Type 0
CompilesInTurn local [] = Gives tt
CompilesInTurn local (x ∷ xs) =
    Then (CompilesTerm local (state_in x)) (λ _. CompilesInTurn local xs)

-- the terms of a last term's kernels, where all are compiled; or the first stage that
-- stops: the cut, then each kernel's
abbrev pub CompilesParts : (inputs : ℕ) → Option (ℕ × ℕ) → State → Result (List Part) Refusal
    → Type 0
CompilesParts i local last =
    Then (As told.Cut (CutOf i last))
    (λ parts. Then (CompilesInTurn local parts) (λ _. Gives parts))

-- the terms of the kernels of a program along a script, where all are
-- compiled; or the first stage that stops
abbrev pub SequenceOf : PlainProgram → (script : List ℕ) → Result (List Part) Refusal → Type 0
SequenceOf p script =
    Then (TermsOf p script)
    (λ terms. Then (LastOf terms) (CompilesParts (length p.inputs) (local_fixed script)))

-- ---- what is compiled

-- what is to be known of a kernel before it is run: what it asks of its launches, and the type of
-- what it makes
pub record Outline : Type 0 where
  pub asks : Asks
  pub output : PlainTy

-- the outline of a term and its types, with the local size that is fixed
abbrev pub outline_in : (local : Option (ℕ × ℕ)) → Part → Outline
outline_in local x = record { asks = asks_of local x.tree; output = type_in x.types }

-- the outline of a kernel, as code holds it
abbrev pub outline_of : KernelOutline → Outline
outline_of k = record { asks = asked k.asks; output = ty_of k.output }

-- the term of a kernel of a sequence
abbrev pub part_of : Stage → Part
part_of k = part k.tree k.types

-- the same with one input more
abbrev pub with_input : Declared → PlainTy → Declared
with_input d a = record d { inputs = d.inputs ++ a ∷ [] }

-- each kernel may name the sizes and inputs of the first, and behind these
-- what each kernel before it makes
abbrev pub HaveInputsBehind : (first : Declared) → List Stage → Type 0
HaveInputsBehind d [] = Unit {0}
HaveInputsBehind d (k ∷ ks) =
    (k.declared ≡ d) × HaveInputsBehind (with_input d (type_in k.types)) ks

-- a kernel's term is legal over what it may name, and copies nothing but arrays
pub record HasLegalTerm (k : Stage) : Type 0 where
  pub legal : IsLegalTerm k.declared k.tree k.types
  pub copies : CopiesArrays k.tree k.types

-- a kernel is its own term's, with groups of the local size that is fixed
abbrev pub IsOwnKernel : Option (ℕ × ℕ) → Stage → Type 0
IsOwnKernel local k = IsKernelFor k.declared local k.tree k.types k.kernel

-- and so is each
abbrev pub AreKernelsFor : Option (ℕ × ℕ) → List Stage → Type 0
AreKernelsFor local = Every (IsOwnKernel local)

-- the output of a term's kernel can be laid out
abbrev pub IsLaidOut : Lowered → Type 0
IsLaidOut l = CanBeLaidOut l.names (type_in (annotation_of l.types))

-- The kernels of these terms in order, each of which is compiled, with an outline of each.
pub record AreMadeOf (local : Option (ℕ × ℕ)) (terms : List Lowered) (kernels : List Kernel)
    (outlines : List Outline) : Type 0 where
  pub each : AreKernelsOfEach local terms kernels
  pub outlined : outlines ≡ map (outline_in local) (map term_part terms)
  pub laid_out : Every IsLaidOut terms
  pub compiled : CompilesInTurn local (map term_part terms) (Ok tt)

-- The kernels in order of a typed last term: of the terms that it is cut into.
pub record AreKernelsOfLast (last : Typed) (local : Option (ℕ × ℕ)) (kernels : List Kernel)
    (outlines : List Outline) : Type 0 where
  pub whole : Lowered
  pub declared : declared_of whole ≡ declared_by (program_of last.program)
  pub state : lowered_state whole ≡ state_of last
  pub terms : List Lowered
  pub cut : AreKernelsOf whole terms
  pub made : AreMadeOf local terms kernels outlines

-- The text is that of kernels in order, of the terms that the script's last term is cut into. Each
-- is printed for its term, a legal one, and has a buffer for each component of the program's
-- inputs, of what each kernel before it makes and of what it makes itself, as one that is compiled
-- alone. And at every list of admissible launches with one valuation, on all inputs, whatever
-- scratch and other memory hold, when the kernels are run in order, each from the buffers that the
-- one before left after it stopped: every run has no fault and at most its bound's events, and
-- writes each cell of its kernel's output at most once, by its owner; and the last kernel's can
-- stop only with the program's value, which is of the output's type.
pub record IsCompiledSequence (program script : List ℕ) (p : PlainProgram) (output : PlainTy)
    (outlines : List Outline) (text : List ℕ) : Type 0 where
  pub read : IsRead program p
  pub typed : HasOutput p p.body output
  pub parts : List Part
  pub compiled : SequenceOf p script (Ok parts)
  pub outlined : map (outline_in (local_fixed script)) parts ≡ outlines
  pub kernels : List Stage
  pub terms : map part_of kernels ≡ parts
  pub inputs : HaveInputsBehind (declared_by p) kernels
  pub legal : Every HasLegalTerm kernels
  pub each : AreKernelsFor (local_fixed script) kernels
  pub written : IsSequenceText text (map (λ (k : Stage). k.kernel) kernels)
  pub keep : SequenceKeeps (declared_by p) (local_fixed script) p.body output kernels

-- this is the last of them
abbrev pub EndsWith : List Outline → PlainTy → Type 0
EndsWith outlines a =
    (front : List Outline) × (last : Outline) × (outlines ≡ front ++ last ∷ []) × (last.output ≡ a)

-- The text is of kernels for the program in order: over its sizes, and run in order they keep the
-- program's value, which is of the output's type, the last kernel's.
pub record IsSequenceFor (p : PlainProgram) (output : PlainTy) (outlines : List Outline)
    (text : List ℕ) : Type 0 where
  pub typed : HasOutput p p.body output
  pub laid_out : Every (λ (o : Outline). CanBeLaidOut (declared_by p).names o.output) outlines
  pub last : EndsWith outlines output
  pub local : Option (ℕ × ℕ)
  pub kernels : List Stage
  pub outlined : map (λ (k : Stage). outline_in local (part_of k)) kernels ≡ outlines
  pub names : Every (λ (k : Stage). k.declared.names ≡ (declared_by p).names) kernels
  pub written : IsSequenceText text (map (λ (k : Stage). k.kernel) kernels)
  pub keep : SequenceKeeps (declared_by p) local p.body output kernels
