-- Where arguments lie, as the Rust code holds it.
use Rattle.std.specs.Prelude.{ℕ}
use Rattle.lift_ir.specs.Terms.{push}
use Rattle.group_form.specs.Origins as origins
use Rattle.phase_plan.specs.declared.origin.Origin.{Origin}
use Rattle.phase_plan.specs.declared.origin.Origin as origin
use Rattle.phase_plan.specs.declared.scope.Scope.{Scope}
use Rattle.phase_plan.specs.declared.scope.Scope as scope

-- in which local array each component of an argument lies
abbrev pub origin_in : Origin → origins.Origin
origin_in origin.Elsewhere = origins.Elsewhere
origin_in (origin.Within a plainly) = origins.Within a plainly
origin_in (origin.BySide' p a q b) = origins.BySide (origin_in a) (origin_in b)

-- where what each binder stands for lies, counted from the nearest
abbrev pub origins_in : Scope → ℕ → origins.Origin
origins_in scope.Empty = λ v. origins.Elsewhere
origins_in (scope.Bound' o p outer) = push (origin_in o.now) (origins_in outer)
