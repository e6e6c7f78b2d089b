use Rattle.std.specs.Prelude.{ℕ}
use Rattle.group_form.proofs.Theorem.{needed_keep_apart, separated_groups_keep}
use Rattle.group_form.proofs.laws.numbered_groups_keep.Goals as goal

pub returns-clause-separated : goal.returns-clause-separated
returns-clause-separated c = separated_groups_keep ℕ c.numbered_phases_keep.ensures.keep

pub returns-clause-apart : goal.returns-clause-apart
returns-clause-apart c = needed_keep_apart c.needed_barriers_separate.ensures ℕ
