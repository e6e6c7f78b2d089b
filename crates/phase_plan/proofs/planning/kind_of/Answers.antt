use Rattle.std.proofs.Math.Logic.{∥∥₁_elim}
use Rattle.std.proofs.Common.{sym}
use Rattle.lift_tree.specs.Annotations.{annotation_of}
use Rattle.lift_tree.specs.Tree.{tree_of}
use Rattle.lowering.specs.Terms.{term_of}
use Rattle.lowered_tree.specs.Named.{declared_of}
use Rattle.lowered_tree.specs.declared.kind.NestKind.TheVariants.{OverGrid, OverGroups}
use Rattle.phase_plan.proofs.Forms.{over_grid_once, over_groups_once}
use Rattle.phase_plan.proofs.Standing.{stands}
use Rattle.phase_plan.proofs.planning.kind_of.Goals as goal

pub of-requires : goal.of-requires
of-requires c =
    let l = c.args.spaced.now.mapped.lowered in
    let t = tree_of l.term in
    let n = annotation_of l.types in
    let root = term_of c.args.root.now in
    ∥∥₁_elim l.sound (over_groups_once root) (λ is.
    stands c.legal_nests_stand.ensures (declared_of l) t n root is
    ((c.legal_without_fault.ensures c.args.spaced.now.mapped.local t n).0 c.args.spaced.now.mapped.legal).nest OverGroups (sym c.in-OverGroups.ensures) c.requires)

pub of_grid-requires : goal.of_grid-requires
of_grid-requires c =
    let l = c.args.spaced.now.mapped.lowered in
    let t = tree_of l.term in
    let n = annotation_of l.types in
    let root = term_of c.args.root.now in
    ∥∥₁_elim l.sound (over_grid_once root) (λ is.
    stands c.legal_nests_stand.ensures (declared_of l) t n root is
    ((c.legal_without_fault.ensures c.args.spaced.now.mapped.local t n).0 c.args.spaced.now.mapped.legal).nest OverGrid (sym c.in-OverGrid.ensures) c.requires)
