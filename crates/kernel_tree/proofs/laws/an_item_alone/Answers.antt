-- The law of `an_item_alone`, by the lemmas beside.
use Rattle.kernel_tree.proofs.Deeds.{alone_run}
use Rattle.kernel_tree.proofs.laws.an_item_alone.Goals as goal

pub returns : goal.returns
returns c = λ d k s ds y here h. alone_run d k here s ds y h
