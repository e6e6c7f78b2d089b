-- The clauses of `worked_text`, by the lemmas beside.
use Rattle.worked_kernels.proofs.DeviceText.{worked}
use Rattle.worked_kernels.proofs.device.worked_text.Goals as goal

pub returns-clause-text : goal.returns-clause-text
returns-clause-text c = worked
