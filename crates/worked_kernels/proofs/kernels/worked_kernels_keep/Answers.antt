use Rattle.worked_kernels.proofs.KernelRuns.{sums_keep, swaps_keep}
use Rattle.worked_kernels.proofs.Increments.{increments_keep}
use Rattle.worked_kernels.proofs.FourIncrements.{four_increments_keep}
use Rattle.worked_kernels.proofs.RowIncrements.{row_increments_keep}
use Rattle.worked_kernels.proofs.kernels.worked_kernels_keep.Goals as goal

pub returns-clause-sums : goal.returns-clause-sums
returns-clause-sums c = sums_keep

pub returns-clause-swaps : goal.returns-clause-swaps
returns-clause-swaps c = swaps_keep

pub returns-clause-increments : goal.returns-clause-increments
returns-clause-increments c = increments_keep

pub returns-clause-rows : goal.returns-clause-rows
returns-clause-rows c = row_increments_keep

pub returns-clause-fours : goal.returns-clause-fours
returns-clause-fours c = four_increments_keep
