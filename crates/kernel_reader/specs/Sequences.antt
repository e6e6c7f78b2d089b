-- What reading kernels in order answers.
use Rattle.std.specs.Prelude.{◌≡◌, ℕ, ◌≤◌, List, [], length, map, take, Result, Ok, Err, Vec}
use Rattle.std.specs.Global.{Global}
use Rattle.readings.specs.Readings.{Reads}
use Rattle.readings.specs.Exactly.{StopsAt}
use Rattle.readings.specs.declared.error.ReadError.{ReadError}
use Rattle.readings.specs.declared.error.ReadError.TheVariants as reading
use Rattle.kernel_tree.specs.declared.tree.Kernel as held
use Rattle.kernel_tree.specs.Code.{Kernel}
use Rattle.kernel_tree.specs.Kernels.{kernel_of}
use Rattle.kernel_tree.specs.Pieces.{ArePieces, joined}
use Rattle.kernel_tree.specs.KernelText.{Piece, all_of, kernels, nothing, start}
use Rattle.kernel_spelling.specs.SequenceText.{StopsAfter}
use Rattle.kernel_reader.specs.declared.error.KernelNo.{KernelNo}
use Rattle.kernel_reader.specs.declared.error.KernelNo.TheVariants.{Syntax, Memory}
use Rattle.kernel_reader.specs.declared.sequence.Front.{Front}

-- the first so many pieces are all of this kernel's
pub record IsFront (name : Piece) (pieces : List Piece) (own : ℕ) (k : Kernel) : Type 0 where
  pub inside : own ≤ length pieces
  pub reads : Reads kernels (start name) nothing (take own pieces) [] (all_of k)

-- this kernel with so many pieces, unless memory ran out
abbrev pub FrontIs : ℕ → Kernel → Result Front ReadError → Type 0
FrontIs own k (Ok f) = (f.own ≡ own) × (kernel_of f.kernel ≡ k)
FrontIs own k (Err reading.Memory) = Unit {0}
FrontIs own k (Err (reading.Refused i)) = ⊥

-- the piece at which the text doesn't go on, where no kernel is at its front
abbrev pub StopsIn : (name : Piece) → List Piece → ReadError → Type 0
StopsIn name pieces reading.Memory = Unit {0}
StopsIn name pieces (reading.Refused i) =
    StopsAt kernels (start name) nothing pieces i
    × ((own : ℕ) (k : Kernel) → IsFront name pieces own k → ⊥)

-- these kernels, unless memory ran out
abbrev pub AnswersAll : List Kernel → Result (Vec held.Kernel Global) KernelNo → Type 0
AnswersAll ks (Ok xs) = map kernel_of xs.items ≡ ks
AnswersAll ks (Err Memory) = Unit {0}
AnswersAll ks (Err (Syntax offset)) = ⊥

-- an error: want of memory, or where the first piece begins at which the text doesn't go on
abbrev pub RefusesSequence : List ℕ → KernelNo → Type 0
RefusesSequence bytes Memory = Unit {0}
RefusesSequence bytes (Syntax offset) =
    (pieces : List Piece) × (whole i : ℕ) × ArePieces bytes pieces
    × StopsAfter whole 0 pieces i × (offset ≡ length (joined (take i pieces)))
