-- A kernel printed for a whole program's typed term.
use Rattle.std.specs.Prelude.{◌≡◌, ℕ, zero, suc, ◌+◌, ◌<◌, ◌^◌, ◌⊎◌, true, false, List, [], ◌∷◌, length, map, Option}
use Rattle.size_arith.specs.declared.names.Name.{Name}
use Rattle.size_arith.specs.declared.poly.Monomial.{Monomial}
use Rattle.size_arith.specs.Ranges.{sizes_at}
use Rattle.lift_tree.specs.Lists.{Every}
use Rattle.lift_tree.specs.Tree.{Tree}
use Rattle.lift_tree.specs.Types.{PlainTy, IsOutput}
use Rattle.lift_tree.specs.Typing.{Declared, IsDeclared, IsAdmissible}
use Rattle.lift_tree.specs.Annotations.{Annotation, type_in, Annotates}
use Rattle.lift_tree.specs.Meaning.{World, meaning}
use Rattle.lift_tree.specs.Launches.{Asks, IsAdmissibleLaunch, buffers_of, lists_of}
use Rattle.kernel_tree.specs.Formula.{Formula}
use Rattle.kernel_tree.specs.Code.{Code, Kernel}
use Rattle.kernel_tree.specs.Launch.{Launch, Cells, MayStart, item_count}
use Rattle.kernel_tree.specs.Device.{State, device_of, IsStart}
use Rattle.kernel_tree.specs.Alike.{GoesAlike}
use Rattle.lift_ir.specs.Types.{Shape, ArrayOf, Scalar, width, unflat, IsPlaced}
use Rattle.lift_ir.specs.Terms.{LocalMemory, PrivateMemory}
use Rattle.lift_ir.specs.AtLaunch.{length_at, ty_at, shape_of}
use Rattle.lift_ir.specs.Lowering.{Written, Lowered, lower}
use Rattle.lift_ir.specs.Lowerable.{IsLowerable, IsStaged}
use Rattle.lift_ir.specs.Forms.{Stands, StandsOverLaunch}
use Rattle.lift_ir.specs.Fours.{KeepsFours}
use Rattle.printed_form.specs.Means.{IsSpelled}
use Rattle.lift_ir.specs.Owner.{owner, is_in_rows}
use Rattle.printed_form.specs.Headline.{EveryRunKeeps}
use Rattle.printed_form.specs.Counts.{variable_count, copy_lengths}
use Rattle.printed_form.specs.Whole.{IsCode}
use Rattle.printed_form.specs.Printer.{input_marks, kernel_code}

-- the shape of an input, and of one that isn't there
abbrev pub input_shape : List PlainTy → ℕ → Shape (List Monomial)
input_shape [] v = ArrayOf [] Scalar
input_shape (a ∷ tys) zero = shape_of a
input_shape (a ∷ tys) (suc v) = input_shape tys v

-- the number of an input's first buffer: inputs lie one after another, each by component
abbrev pub first_buffer : List PlainTy → ℕ → ℕ
first_buffer [] v = 0
first_buffer (a ∷ tys) zero = 0
first_buffer (a ∷ tys) (suc v) = width (shape_of a) + first_buffer tys v

-- how many buffers the inputs have
abbrev pub buffer_count : List PlainTy → ℕ
buffer_count [] = 0
buffer_count (a ∷ tys) = width (shape_of a) + buffer_count tys

-- a typed term, whose root is written, in the intermediate representation
abbrev pub lowered_root : List Name → Tree → Annotation → Lowered
lowered_root names t a = lower names Written t a

-- The kernel declares what the typed term needs, whatever its code: a parameter for each component
-- of each input, then of the output, then for each size; local and private arrays; and private
-- variables, of a word and of four. And it asks for the size of groups that the script fixes.
pub record DeclaresFor (d : Declared) (size : Option (ℕ × ℕ)) (t : Tree) (a : Annotation)
    (k : Kernel) : Type 0 where
  pub inputs : k.inputs ≡ buffer_count d.inputs
  pub outputs : k.outputs ≡ width (shape_of (type_in a))
  pub sizes : k.sizes ≡ length d.names
  pub locals : k.locals ≡ copy_lengths LocalMemory (lowered_root d.names t a)
  pub privates : k.privates ≡ copy_lengths PrivateMemory (lowered_root d.names t a)
  pub variables : k.variables ≡ (variable_count (lowered_root d.names t a)).words
  pub vectors : k.vectors ≡ (variable_count (lowered_root d.names t a)).fours
  pub local : k.local ≡ size

-- such a kernel with this code
abbrev pub declared_kernel : Declared → (size : Option (ℕ × ℕ)) → Tree → Annotation → Code → Kernel
declared_kernel d size t a code = record {
  inputs = buffer_count d.inputs;
  outputs = width (shape_of (type_in a));
  sizes = length d.names;
  locals = copy_lengths LocalMemory (lowered_root d.names t a);
  privates = copy_lengths PrivateMemory (lowered_root d.names t a);
  variables = (variable_count (lowered_root d.names t a)).words;
  vectors = (variable_count (lowered_root d.names t a)).fours;
  local = size;
  code = code;
}

-- the kernel is printed for the typed term at a launch, where the base names have these values
pub record Prints (d : Declared) (size : Option (ℕ × ℕ)) (bases : List ℕ) (t : Tree) (a : Annotation)
    (l : Launch) (k : Kernel) : Type 0 where
  pub declares : DeclaresFor d size t a k
  pub code : IsCode l (input_marks (length_at bases) (first_buffer d.inputs) (input_shape d.inputs))
      (length_at bases) (lowered_root d.names t a) (ty_at bases (type_in a)) k.code

-- the kernel that the printer makes of a typed term, where lengths are spelled so
abbrev pub printed_kernel :
    (List Monomial → Formula) → Declared → (size : Option (ℕ × ℕ)) → Tree → Annotation → Kernel
printed_kernel spell d local t a =
    declared_kernel d local t a
    (kernel_code spell (first_buffer d.inputs) (input_shape d.inputs) (lowered_root d.names t a)
    (shape_of (type_in a)))

-- whose a cell of the output is: the owner of its scalar
abbrev pub cell_owner :
    List Name → (bases : List ℕ) → Launch → Tree → Annotation → (array index : ℕ) → ℕ
cell_owner names bases l t a array index =
    owner (length_at bases) l (lowered_root names t a) (unflat (ty_at bases (type_in a)) index)

-- the launch has these sizes, and is as it is asked for: a term in which no map is of rows asks for
-- one row, or for one item
pub record IsLaunchOf (d : Declared) (asks : Asks) (bases : List ℕ) (t : Tree) (a : Annotation)
    (l : Launch) : Type 0 where
  pub admissible : IsAdmissibleLaunch d.names asks bases l.global l.local
  pub sizes : l.sizes ≡ sizes_at d.names bases
  pub asked : is_in_rows (lowered_root d.names t a) ≡ false
      → (asks.alone ≡ true) ⊎ (asks.flat ≡ true)

-- the buffers hold the inputs, and the output's are as long as the value's lists
pub record AreBuffersOf (d : Declared) (w : World) (t : Tree) (a : Annotation)
    (c : Cells) : Type 0 where
  pub inputs : c.ins ≡ buffers_of d.inputs w.inputs
  pub outputs : map length c.outs ≡ map length (lists_of (type_in a) (meaning w [] t))

-- a typed term of a program, which can be lowered where the base names have these values
pub record IsLowerableProgram (d : Declared) (bases : List ℕ) (t : Tree)
    (a : Annotation) : Type 0 where
  pub declared : IsDeclared d
  pub nodes : Annotates d [] t a
  pub output : IsOutput (type_in a)
  pub lowerable : IsLowerable bases Written t a

-- every run of a kernel that is printed for a typed term keeps what the kernel owes, with the
-- source value
abbrev pub PrintedProgramsKeep : Type 0
PrintedProgramsKeep =
    (d : Declared) (asks : Asks) (w : World) (t : Tree) (a : Annotation) (l : Launch)
    (k : Kernel) (c : Cells)
    → IsLowerableProgram d w.bases t a → IsAdmissible d w → IsLaunchOf d asks w.bases t a l
    → AreBuffersOf d w t a c → Prints d asks.local w.bases t a l k
    → EveryRunKeeps k l c (cell_owner d.names w.bases l t a) (lists_of (type_in a) (meaning w [] t))

-- and it may be started there
abbrev pub PrintedProgramsStart : Type 0
PrintedProgramsStart =
    (d : Declared) (asks : Asks) (w : World) (t : Tree) (a : Annotation) (l : Launch)
    (k : Kernel) (c : Cells)
    → IsLowerableProgram d w.bases t a → IsAdmissible d w → IsLaunchOf d asks w.bases t a l
    → AreBuffersOf d w t a c → Prints d asks.local w.bases t a l k → MayStart k l c

-- lengths are spelled with their values at the launch
abbrev pub IsSpelling : (List Monomial → Formula) → (bases : List ℕ) → Launch → Type 0
IsSpelling spell bases l =
    (n : List Monomial) → length_at bases n < 2 ^ 31 → IsSpelled l (spell n) (length_at bases n)

-- a term that one work-item runs, where there is but one, or a map over the launch
abbrev pub StandsAt : Launch → Lowered → Type 0
StandsAt l t = ((item_count l ≡ 1) × Stands true t) ⊎ StandsOverLaunch t

-- what lies in buffers has lengths and sizes below 2^31
abbrev pub FitsBuffers : Declared → (bases : List ℕ) → Annotation → Type 0
FitsBuffers d bases a = Every (λ b. IsPlaced (length_at bases) (shape_of b)) (type_in a ∷ d.inputs)

-- what the printer makes of a typed term is printed for it, at each admissible launch
abbrev pub ProgramsArePrinted : Type 0
ProgramsArePrinted =
    (d : Declared) (asks : Asks) (bases : List ℕ) (t : Tree) (a : Annotation) (l : Launch)
    (spell : List Monomial → Formula)
    → IsLowerableProgram d bases t a → IsLaunchOf d asks bases t a l → IsStaged Written t a
    → StandsAt l (lowered_root d.names t a) → KeepsFours (lowered_root d.names t a)
    → FitsBuffers d bases a → IsSpelling spell bases l
    → Prints d asks.local bases t a l (printed_kernel spell d asks.local t a)

-- states that hold the same contents: the items' variables, and memory
pub record SameContents (l : Launch) (s r : State) : Type 0 where
  pub variables : (j : ℕ) → j < item_count l → (s.items j).vars ≡ (r.items j).vars
  pub memory : s.memory ≡ r.memory

-- any two kernels that are printed for one typed term go alike at one launch and from the same
-- contents: the same events can come, with the same accesses, and each schedule makes the same run
-- of both
abbrev pub PrintedProgramsGoAlike : Type 0
PrintedProgramsGoAlike =
    (d : Declared) (asks : Asks) (w : World) (t : Tree) (a : Annotation) (l : Launch)
    (k m : Kernel) (c : Cells) (s r : State)
    → IsLowerableProgram d w.bases t a → IsAdmissible d w → IsLaunchOf d asks w.bases t a l
    → AreBuffersOf d w t a c
    → Prints d asks.local w.bases t a l k → Prints d asks.local w.bases t a l m
    → IsStart k l c s → IsStart m l c r → SameContents l s r
    → GoesAlike (device_of k l c) s (device_of m l c) r
