use Rattle.std.specs.Prelude.{List}
use Rattle.size_arith.specs.declared.poly.Monomial.{Monomial}
use Rattle.group_form.proofs.Placed.{group_uses_can_be_placed}
use Rattle.group_form.proofs.Needed.{needed_too, aligned_need_none}
use Rattle.group_form.proofs.laws.uses_tell_barriers.Goals as goal

pub returns-clause-told : goal.returns-clause-told
returns-clause-told c = needed_too

pub returns-clause-aligned : goal.returns-clause-aligned
returns-clause-aligned c = aligned_need_none

pub returns-clause-placed : goal.returns-clause-placed
returns-clause-placed c = group_uses_can_be_placed (List Monomial)
