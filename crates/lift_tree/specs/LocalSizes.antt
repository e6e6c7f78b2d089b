-- The local sizes that may be fixed.
use Rattle.std.specs.Prelude.{ℕ, ◌≤◌, ◌*◌, ◌&&◌, nat_le, if◌then◌else◌, Option, None, Some, IfSome}

-- a local size that is fixed has a row at least, in each row a work-item at least, and at most 256
-- in all
abbrev pub IsLocalSize : Option (ℕ × ℕ) → Type 0
IsLocalSize local = IfSome local (λ size. (1 ≤ size.0) × (1 ≤ size.1) × (size.0 * size.1 ≤ 256))

-- rows of so many work-items, and so many rows, where that may be a local size
abbrev pub size_within : (across down : ℕ) → Option (ℕ × ℕ)
size_within across down =
    if nat_le 1 across && nat_le 1 down && nat_le (across * down) 256 then Some (across, down)
    else None
