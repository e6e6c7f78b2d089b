-- What a walk through a body meets.
use Rattle.std.specs.Prelude.{◌≡◌, ℕ, ◌+◌, ◌++◌, List, [], length}
use Rattle.lift_tree.specs.Types.{ty_of}
use Rattle.lift_ir.specs.AtLaunch.{ty_at}
use Rattle.lift_ir.specs.Types.{width}
use Rattle.group_form.specs.Origins as origins
use Rattle.group_form.specs.Uses as uses
use Rattle.group_form.specs.Uses.{Use, numbered}
use Rattle.phase_plan.specs.declared.walk.Destination.{Destination}
use Rattle.phase_plan.specs.declared.walk.Destination.TheVariants as destination
use Rattle.phase_plan.specs.declared.walk.Walk.{Walk}

-- where a value goes, if the first of its local arrays is this
abbrev pub destination_from : ℕ → Destination → uses.Destination
destination_from first (destination.Locals ty) = uses.Locals first (ty_at [] (ty_of ty.now))
destination_from first destination.Outputs = uses.Outputs

-- where the value lies then
abbrev pub origin_from : ℕ → Destination → origins.Origin
origin_from first (destination.Locals ty) = origins.laid_from first (ty_at [] (ty_of ty.now))
origin_from first destination.Outputs = origins.Elsewhere

-- how many local arrays it takes
abbrev pub width_of : Destination → ℕ
width_of (destination.Locals ty) = width (ty_at [] (ty_of ty.now))
width_of destination.Outputs = 0

-- a walk goes on by phases with these uses, and by so many local arrays
pub record GoesOn (old new : Walk) (used : List (List Use)) (laid : ℕ) : Type 0 where
  pub touches : new.touches.items ≡ old.touches.items ++ numbered old.phases used
  pub phases : new.phases ≡ old.phases + length used
  pub arrays : new.arrays ≡ old.arrays + laid
