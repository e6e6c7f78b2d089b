use Rattle.std.proofs.Common.{[], ap, ◌∙◌}
use Rattle.std.proofs.lemmas.Result.{IfOk-weaker}
use Rattle.lift_tree.specs.Types.{ty_of}
use Rattle.lift_ir.specs.AtLaunch.{ty_at}
use Rattle.index_expr.specs.Expression.{Literal}
use Rattle.array_views.specs.Arrays.{array_with}
use Rattle.array_views.specs.Views.{Placed, view_of}
use Rattle.array_views.proofs.Shapes.{placed_spelled}
use Rattle.array_views.proofs.view.View.laid.Goals as goal

pub returns-clause-view : goal.returns-clause-view
returns-clause-view c =
    IfOk-weaker c.new.result _ _ (λ v e. ap view_of (e ∙ ap (Placed c.args.kind c.args.first) c.in_ok-extent.ensures) ∙ placed_spelled (λ n. Literal n) (array_with c.args.kind) c.args.first (ty_at [] (ty_of c.args.ty.now))) c.new.ensures
