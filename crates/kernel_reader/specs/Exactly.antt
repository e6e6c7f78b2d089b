-- What reading a kernel answers.
use Rattle.std.specs.Prelude.{◌≡◌, ℕ, List, length, take, Result, Ok, Err}
use Rattle.kernel_tree.specs.declared.tree.Kernel as held
use Rattle.kernel_tree.specs.Code.{Kernel}
use Rattle.kernel_tree.specs.Kernels.{kernel_of}
use Rattle.kernel_tree.specs.Pieces.{ArePieces, joined}
use Rattle.kernel_tree.specs.KernelText.{Piece, kernels, start, nothing}
use Rattle.readings.specs.Exactly.{StopsAt}
use Rattle.kernel_reader.specs.declared.error.KernelNo.{KernelNo}
use Rattle.kernel_reader.specs.declared.error.KernelNo.TheVariants.{Syntax, Memory}

-- this kernel, unless memory ran out
abbrev pub Answers : Kernel → Result held.Kernel KernelNo → Type 0
Answers k (Ok x) = kernel_of x ≡ k
Answers k (Err Memory) = Unit {0}
Answers k (Err (Syntax offset)) = ⊥

-- an error: want of memory, or where the first piece begins at which the text doesn't go on
-- in the text of a kernel of this name
abbrev pub Refuses : (name : Piece) → List ℕ → KernelNo → Type 0
Refuses name bytes Memory = Unit {0}
Refuses name bytes (Syntax offset) =
    (pieces : List Piece) × (i : ℕ) × ArePieces bytes pieces
    × StopsAt kernels (start name) nothing pieces i × (offset ≡ length (joined (take i pieces)))
