-- The limits on layouts and on buffers.
use Rattle.std.specs.Prelude.{◌≡◌, ℕ, Option, Some, None, if◌then◌else◌, nat_lt}
use Rattle.lift_tree.specs.Tree.{Tree}
use Rattle.lift_tree.specs.Annotations.{Annotation}
use Rattle.buffer_allocation.specs.Layouts.{layouts}
use Rattle.buffer_allocation.specs.Copies.{local_bytes, private_cells}
use Rattle.buffer_allocation.specs.declared.buffers.AllocLimit.{AllocLimit}
use Rattle.buffer_allocation.specs.declared.buffers.AllocLimit.TheVariants.{Layouts, Local, Private}
use Rattle.buffer_allocation.specs.declared.buffers.AllocNo.{AllocNo}
use Rattle.buffer_allocation.specs.declared.buffers.AllocNo.TheVariants as no

-- the greatest count that a limit lets pass
abbrev pub greatest : AllocLimit → ℕ
greatest Layouts = 24
greatest Local = 32768
greatest Private = 256

-- the quantity that a limit counts
abbrev pub counted : AllocLimit → Tree → Annotation → ℕ
counted Layouts t n = layouts t n
counted Local t n = local_bytes t n
counted Private t n = private_cells t n

-- the limit with its count, where that is above it, else what follows
abbrev pub unless_above : AllocLimit → Tree → Annotation → Option (AllocLimit × ℕ)
    → Option (AllocLimit × ℕ)
unless_above l t n rest =
    if nat_lt (greatest l) (counted l t n) then Some (l, counted l t n) else rest

-- the first limit that is passed, and its count
abbrev pub passed_limit : Tree → Annotation → Option (AllocLimit × ℕ)
passed_limit t n = unless_above Layouts t n (unless_above Local t n (unless_above Private t n None))

-- why a term has no buffers; want of memory is free
abbrev pub Refuses : AllocNo → Tree → Annotation → Type 0
Refuses (no.Limit which count) t n = passed_limit t n ≡ Some (which, count)
Refuses no.Memory t n = Unit {0}
