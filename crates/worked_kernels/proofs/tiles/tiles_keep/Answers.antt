use Rattle.worked_kernels.proofs.TileRuns.{tiles_keep, tiles_serve, aligned_keep, exchanged_keep, four_keep, four_exchanged_keep}
use Rattle.worked_kernels.proofs.TileBarriers.{open_end_fails, wrong_flag_fails}
use Rattle.worked_kernels.proofs.tiles.tiles_keep.Goals as goal

pub returns-clause-separated : goal.returns-clause-separated
returns-clause-separated c = tiles_keep c.numbered_phases_keep.ensures.keep

pub returns-clause-serve : goal.returns-clause-serve
returns-clause-serve c = tiles_serve c.numbered_phases_keep.ensures.serve

pub returns-clause-aligned : goal.returns-clause-aligned
returns-clause-aligned c = aligned_keep c.numbered_phases_keep.ensures.needed

pub returns-clause-exchanged : goal.returns-clause-exchanged
returns-clause-exchanged c = exchanged_keep c.numbered_phases_keep.ensures.needed

pub returns-clause-four : goal.returns-clause-four
returns-clause-four c = four_keep c.numbered_phases_keep.ensures.needed

pub returns-clause-four_exchanged : goal.returns-clause-four_exchanged
returns-clause-four_exchanged c = four_exchanged_keep c.numbered_phases_keep.ensures.needed

pub returns-clause-open_end : goal.returns-clause-open_end
returns-clause-open_end c = open_end_fails

pub returns-clause-wrong_flag : goal.returns-clause-wrong_flag
returns-clause-wrong_flag c = wrong_flag_fails
