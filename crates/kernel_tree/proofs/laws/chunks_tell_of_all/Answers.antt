-- The law of `chunks_tell_of_all`, by the lemmas beside.
use Rattle.kernel_tree.proofs.Chunks.{as_chunked}
use Rattle.kernel_tree.proofs.laws.chunks_tell_of_all.Goals as goal

pub returns : goal.returns
returns c = λ p d s t cs whole h over. as_chunked p d s t cs whole h over
