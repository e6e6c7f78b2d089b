use Rattle.std.proofs.Common.{ap, ◌∙◌}
use Rattle.lift_tree.specs.Tree.{tree_of}
use Rattle.pattern_value.specs.Held.{values_in}
use Rattle.pattern_value.specs.World.{world_of}
use Rattle.pattern_value.proofs.Under.{Map_is, Fold_is}
use Rattle.pattern_value.proofs.evaluate.World.+valuing.Goals as goal

pub value-returns-in_ok-map-in-Map : goal.value-returns-in_ok-map-in-Map
value-returns-in_ok-map-in-Map t c =
    c.in_ok-map-in-Map.ensures ∙ Map_is (world_of c.args.self.now) (values_in c.args.scope.now) c.in-Map.field-0 (tree_of c.in-Map.array.value) (tree_of c.in-Map.body.value) (tree_of c.deref-in-Map.result.now) (tree_of c.deref-in-Map-2.result.now) (tree_of c.args.term.now) (ap tree_of c.in-Map.is) (ap tree_of c.deref-in-Map.ensures) (ap tree_of c.deref-in-Map-2.ensures)

pub value-returns-in_ok-fold-in-Fold : goal.value-returns-in_ok-fold-in-Fold
value-returns-in_ok-fold-in-Fold t c =
    c.in_ok-fold-in-Fold.ensures ∙ Fold_is (world_of c.args.self.now) (values_in c.args.scope.now) c.in-Fold.field-0 (tree_of c.in-Fold.array.value) (tree_of c.in-Fold.start.value) (tree_of c.in-Fold.body.value) (tree_of c.deref-in-Fold.result.now) (tree_of c.deref-in-Fold-2.result.now) (tree_of c.deref-in-Fold-3.result.now) (tree_of c.args.term.now) (ap tree_of c.in-Fold.is) (ap tree_of c.deref-in-Fold.ensures) (ap tree_of c.deref-in-Fold-2.ensures) (ap tree_of c.deref-in-Fold-3.ensures)
