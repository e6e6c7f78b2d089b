-- What a legal nest stands as.
use Rattle.std.specs.Prelude.{true}
use Rattle.lift_ir.specs.Forms.{Stands, StandsOverLaunch}
use Rattle.lift_ir.specs.Lowering.{Lowered}
use Rattle.group_form.specs.Forms.{StandsOverGroups}
use Rattle.group_form.specs.GridTerms.{StandsOverGrid}
use Rattle.lowered_tree.specs.declared.kind.NestKind.{NestKind}
use Rattle.lowered_tree.specs.declared.kind.NestKind.TheVariants.{Task, OverLaunch, OverGroups, OverGrid}

-- for one work-item, over all of them, over work-groups, or over rows of these
abbrev pub StandsAs : NestKind → Lowered → Type 0
StandsAs Task t = Stands true t
StandsAs OverLaunch t = StandsOverLaunch t
StandsAs OverGroups t = StandsOverGroups t
StandsAs OverGrid t = StandsOverGrid t
