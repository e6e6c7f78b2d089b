use Rattle.worked_kernels.proofs.LoweredTerms.{four_increments_are_lowered, increments_are_lowered, row_increments_are_lowered, sums_are_lowered}
use Rattle.worked_kernels.proofs.terms.worked_terms_are_lowered.Goals as goal

pub returns-clause-increments : goal.returns-clause-increments
returns-clause-increments c = increments_are_lowered

pub returns-clause-sums : goal.returns-clause-sums
returns-clause-sums c = sums_are_lowered

pub returns-clause-rows : goal.returns-clause-rows
returns-clause-rows c = row_increments_are_lowered

pub returns-clause-fours : goal.returns-clause-fours
returns-clause-fours c = four_increments_are_lowered
