-- Who runs a term.
use Rattle.std.specs.Prelude.{if◌then◌else◌}
use Rattle.lift_tree.specs.declared.term.MapKind.{MapKind}
use Rattle.lift_tree.specs.declared.term.MapKind.TheVariants.{Plain, Over, Sequential}
use Rattle.lift_tree.specs.declared.term.Level.TheVariants.{Launch, Groups, Items}
use Rattle.lift_tree.specs.declared.term.Dimension.TheVariants.{X, Y}
use Rattle.lift_tree.specs.declared.term.UnaryForm.TheVariants.{Layout}
use Rattle.lift_tree.specs.Tree.{Tree, Unary, Let, Map}
use Rattle.lowered_tree.specs.Forms.{is_written_through}
use Rattle.lowered_tree.specs.declared.kind.NestKind.{NestKind}
use Rattle.lowered_tree.specs.declared.kind.NestKind.TheVariants.{Task, OverLaunch, OverGroups, OverGrid}

-- whom a map of this kind spreads its turns over
abbrev pub spread_over : MapKind → NestKind
spread_over Plain = Task
spread_over (Over Launch d) = OverLaunch
spread_over (Over Groups X) = OverGroups
spread_over (Over Groups Y) = OverGrid
spread_over (Over Items d) = Task
spread_over Sequential = Task

-- and the map on top, seen through layouts that are written through and the bodies of lets
abbrev pub nest_kind : Tree → NestKind
nest_kind (Unary (Layout l) t) = if is_written_through l then nest_kind t else Task
nest_kind (Let v b) = nest_kind b
nest_kind (Map k xs b) = spread_over k
nest_kind _ = Task
