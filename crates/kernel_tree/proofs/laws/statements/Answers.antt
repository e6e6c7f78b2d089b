-- The law of `statements`, by the lemmas beside.
use Rattle.std.proofs.Common.{refl}
use Rattle.kernel_tree.proofs.Deeds.{goes_assign, goes_load, goes_store, goes_assign_four, goes_load_four, goes_store_four, goes_in, goes_past}
use Rattle.kernel_tree.proofs.Rounds.{by_turns}
use Rattle.kernel_tree.proofs.laws.statements.Goals as goal

pub returns-clause-assignment : goal.returns-clause-assignment
returns-clause-assignment c = λ d k fs vars m v e rest x h. goes_assign d k fs vars m v e rest x h

pub returns-clause-load : goal.returns-clause-load
returns-clause-load c = λ d k fs vars m v a i rest n h within. goes_load d k fs vars m v a i rest _ n _ h refl within refl

pub returns-clause-store : goal.returns-clause-store
returns-clause-store c = λ d k fs vars m a i e rest n x h j within. goes_store d k fs vars m a i e rest _ n x h j refl within

pub returns-clause-four_assignment : goal.returns-clause-four_assignment
returns-clause-four_assignment c = λ d k fs vars m v e rest u h. goes_assign_four d k fs vars m v e rest u h

pub returns-clause-four_load : goal.returns-clause-four_load
returns-clause-four_load c = λ d k fs vars m v a i rest n h within. goes_load_four d k fs vars m v a i rest _ n _ h refl within refl

pub returns-clause-four_store : goal.returns-clause-four_store
returns-clause-four_store c = λ d k fs vars m a i e rest n u h j within. goes_store_four d k fs vars m a i e rest _ n u h j refl within

pub returns-clause-enters : goal.returns-clause-enters
returns-clause-enters c = λ d k fs vars m s b body rest n h low. goes_in d k fs vars m s b body rest n h low

pub returns-clause-passes : goal.returns-clause-passes
returns-clause-passes c = λ d k fs vars m s b body rest n h high. goes_past d k fs vars m s b body rest n h high

pub returns-clause-loops : goal.returns-clause-loops
returns-clause-loops c = λ d k fs p n vs m ds h. by_turns d k fs p n vs m ds h
