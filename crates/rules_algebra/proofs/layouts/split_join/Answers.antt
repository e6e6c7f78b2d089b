use Rattle.std.proofs.Common.{◌≡◌, true}
use Rattle.lift_tree.specs.Tree.{tree_of}
use Rattle.lift_tree.specs.Annotations.{type_in}
use Rattle.rewriting.specs.Around.{context_of}
use Rattle.rules_algebra.specs.Layouts.{row_length, same_lengths, child}
use Rattle.rules_algebra.proofs.Ruled.{split_join_rule}
use Rattle.rules_algebra.proofs.layouts.split_join.Goals as goal

pub returns-clause-keeps : goal.returns-clause-keeps
returns-clause-keeps c =
    let a = context_of c.args.context.now in
    let long : same_lengths (row_length (type_in (child (child a.types)))) (row_length (type_in a.types)) ≡ true = cc (c.are_as_long.ensures, c.if-not-are_as_long.false) in
    split_join_rule a (tree_of c.args.term) (tree_of c.unjoined.result) (c.unjoined.ensures a long) c.has_polynomial_below.ensures
