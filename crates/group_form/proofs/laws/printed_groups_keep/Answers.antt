use Rattle.std.specs.Prelude.{List}
use Rattle.size_arith.specs.declared.poly.Monomial.{Monomial}
use Rattle.group_form.proofs.Theorem.{needed_keep_apart, separated_groups_keep, separated_groups_serve, needed_groups_keep}
use Rattle.group_form.proofs.laws.printed_groups_keep.Goals as goal

pub returns-clause-needed : goal.returns-clause-needed
returns-clause-needed c = needed_groups_keep (List Monomial) (separated_groups_keep (List Monomial) c.phases_keep.ensures.keep) (needed_keep_apart c.needed_barriers_separate.ensures (List Monomial))

pub returns-clause-separated : goal.returns-clause-separated
returns-clause-separated c = separated_groups_keep (List Monomial) c.phases_keep.ensures.keep

pub returns-clause-serve : goal.returns-clause-serve
returns-clause-serve c = separated_groups_serve (List Monomial) c.phases_keep.ensures.serve

pub returns-clause-apart : goal.returns-clause-apart
returns-clause-apart c = needed_keep_apart c.needed_barriers_separate.ensures (List Monomial)
