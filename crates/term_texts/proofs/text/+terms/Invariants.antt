use Rattle.std.proofs.Common.{◌+◌, ◌*◌, max}
use Rattle.lift_tree.specs.Tree.{height, tree_of}
use Rattle.term_texts.proofs.text.+terms.Given as goal

abbrev pub decreases-push_term : goal.decreases-push_term
decreases-push_term l = 3 * height (tree_of l.term.now)

abbrev pub decreases-push_first : goal.decreases-push_first
decreases-push_first l = 3 * height (tree_of l.term.now) + 1

abbrev pub decreases-push_last : goal.decreases-push_last
decreases-push_last l = 3 * height (tree_of l.term.now) + 1

abbrev pub decreases-push_two : goal.decreases-push_two
decreases-push_two l = 3 * max (height (tree_of l.first.now)) (height (tree_of l.last.now)) + 2
