use Rattle.std.proofs.Common.{◌≡◌, ◌++◌, map, max, take, ◌+◌, ◌*◌}
use Rattle.lift_tree.specs.Tree.{tree_of}
use Rattle.lift_tree.specs.Values.{value_of}
use Rattle.lift_tree.specs.declared.term.Term.{size-Term}
use Rattle.pattern_value.specs.Held.{values_in}
use Rattle.pattern_value.specs.Pieces.{pieces_in}
use Rattle.pattern_value.specs.Shut.{map_under, fold_under}
use Rattle.pattern_value.specs.World.{world_of}
use Rattle.pattern_value.proofs.evaluate.World.+valuing.Given as goal

abbrev pub decreases-folded : goal.decreases-folded
decreases-folded l = 8 * size-Term l.body.now + 3

abbrev pub decreases-fold : goal.decreases-fold
decreases-fold l = 8 * max (size-Term l.xs.now) (max (size-Term l.start.now) (size-Term l.body.now)) + 4

abbrev pub decreases-binary : goal.decreases-binary
decreases-binary l = 8 * max (size-Term l.a.now) (size-Term l.b.now) + 4

abbrev pub decreases-select : goal.decreases-select
decreases-select l = 8 * max (size-Term l.condition.now) (max (size-Term l.yes.now) (size-Term l.no.now)) + 4

abbrev pub decreases-map : goal.decreases-map
decreases-map l = 8 * max (size-Term l.xs.now) (size-Term l.body.now) + 5

abbrev pub decreases-mapped_array : goal.decreases-mapped_array
decreases-mapped_array l = 8 * max (size-Term l.xs.now) (size-Term l.body.now) + 4

abbrev pub decreases-mapped : goal.decreases-mapped
decreases-mapped l = 8 * size-Term l.body.now + 3

abbrev pub decreases-mapped_pieces : goal.decreases-mapped_pieces
decreases-mapped_pieces l = 8 * size-Term l.body.now + 3

abbrev pub decreases-under : goal.decreases-under
decreases-under l = 8 * size-Term l.body.now + 1

abbrev pub decreases-value : goal.decreases-value
decreases-value l = 8 * size-Term l.term.now

abbrev pub invariant-folded-loop-x : goal.invariant-folded-loop-x
invariant-folded-loop-x l = value_of l.end ≡ fold_under (world_of l.self) (values_in l.scope) (tree_of l.body) (value_of l.fn.start) (map value_of (take l.x-index l.xs))

abbrev pub invariant-mapped-loop-x : goal.invariant-mapped-loop-x
invariant-mapped-loop-x l = map value_of l.all.items ≡ map_under (world_of l.self) (values_in l.scope) (tree_of l.body) (map value_of (take l.x-index l.xs))

abbrev pub invariant-mapped_pieces-loop-left : goal.invariant-mapped_pieces-loop-left
invariant-mapped_pieces-loop-left l = map value_of l.all.items ++ map_under (world_of l.self) (values_in l.scope) (tree_of l.body) (pieces_in l.left) ≡ map_under (world_of l.self) (values_in l.scope) (tree_of l.body) (pieces_in l.pieces)

abbrev pub decreases-mapped_pieces-loop-left : goal.decreases-mapped_pieces-loop-left
decreases-mapped_pieces-loop-left l = l.left.count
