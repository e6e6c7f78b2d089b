-- The law of `a_release`, by the lemmas beside.
use Rattle.kernel_tree.proofs.Releases.{released}
use Rattle.kernel_tree.proofs.laws.a_release.Goals as goal

pub returns : goal.returns
returns c = λ d s g on_local on_global rest frames vars whole h. released d whole s g on_local on_global rest frames vars h
