use Rattle.std.proofs.Common.{◌+◌, ◌*◌, length}
use Rattle.lift_tree.proofs.place.+putting.Given as goal

-- the numbers that are left, before which a child's is chosen
abbrev pub decreases-put_at : goal.decreases-put_at
decreases-put_at l = 3 * length l.numbers.now

abbrev pub decreases-put_in_child : goal.decreases-put_in_child
decreases-put_in_child l = 3 * length l.rest.now + 2

abbrev pub decreases-put_in_two : goal.decreases-put_in_two
decreases-put_in_two l = 3 * length l.rest.now + 1

abbrev pub decreases-put_in_three : goal.decreases-put_in_three
decreases-put_in_three l = 3 * length l.rest.now + 1
