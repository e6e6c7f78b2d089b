-- Where a tidied kernel is of the kernel grammar.
use Rattle.std.specs.Prelude.{◌≡◌, true}
use Rattle.kernel_tree.specs.Code.{Kernel}
use Rattle.kernel_tree.specs.Grammar.{is_kernel}
use Rattle.tidy_indices.specs.Laws.{Change, KeepsSmall}
use Rattle.tidy_kernels.specs.Pass.{tidied_kernel}

-- a kernel of the grammar stays one, where no expression grows or leaves the grammar
abbrev pub TidiedKernelsAreKernels : Type 0
TidiedKernelsAreKernels =
    (tidy : Change) (k : Kernel) → KeepsSmall tidy → is_kernel k ≡ true
    → is_kernel (tidied_kernel tidy k) ≡ true
