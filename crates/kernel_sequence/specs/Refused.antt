-- Why a term isn't cut into kernels.
use Rattle.std.specs.Prelude.{◌≡◌, ℕ, ◌+◌, false, min, Option, Some, None, if◌then◌else◌, nat_lt}
use Rattle.lift_tree.specs.Annotations.{Annotation}
use Rattle.lift_tree.specs.Tree.{Tree}
use Rattle.lowered_tree.specs.declared.rule.NestRule.TheVariants.{N13}
use Rattle.kernel_sequence.specs.Bound.{first_bound}
use Rattle.kernel_sequence.specs.Cut.{cuts}
use Rattle.kernel_sequence.specs.declared.no.CutNo.{CutNo}
use Rattle.kernel_sequence.specs.declared.no.CutNo.TheVariants.{Nest, Limit, Memory}

-- how many kernels a term is cut into; the count stands still at 2^64 - 1
abbrev pub kernel_count : Tree → Annotation → ℕ
kernel_count t n = min (cuts t n + 1) 18446744073709551615

-- the number of a term's kernels, where it is above sixteen
abbrev pub passed_count : Tree → Annotation → Option ℕ
passed_count t n = if nat_lt 16 (kernel_count t n) then Some (kernel_count t n) else None

-- why a term isn't cut into kernels; want of memory is free
abbrev pub Refuses : CutNo → Tree → Annotation → Type 0
Refuses (Nest place rule) t n = (first_bound false t ≡ Some place) × (rule ≡ N13)
Refuses (Limit count) t n = (first_bound false t ≡ None) × (passed_count t n ≡ Some count)
Refuses Memory t n = Unit {0}
