use Rattle.kernel_spelling.proofs.One.{whole_kernel}
use Rattle.kernel_spelling.proofs.Whole.{made_whole}
use Rattle.kernel_spelling.proofs.laws.whole_readings.Goals as goal

pub returns : goal.returns
returns c = record { made = whole_kernel; has_text = λ name ps k r. (made_whole name ps k r).0 }
