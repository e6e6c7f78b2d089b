use Rattle.std.proofs.Common.{◌≡◌, ◌++◌}
use Rattle.std.specs.Prelude.{drop, map}
use Rattle.lift_tree.specs.Values.{array, list_of, value_of}
use Rattle.value_lists.specs.Lists.{side_of}
use Rattle.value_lists.proofs.lists.+numbers.Given as goal

abbrev pub invariant-add_numbers-loop-member : goal.invariant-add_numbers-loop-member
invariant-add_numbers-loop-member l = l.list.items ++ list_of (array (map value_of (drop l.member-index l.member-items))) (map side_of l.way) ≡ l.fn.list.items ++ list_of (value_of l.fn.value) (map side_of l.fn.way)
