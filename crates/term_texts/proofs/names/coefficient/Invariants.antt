use Rattle.std.proofs.Common.{◌≡◌, drop}
use Rattle.term_texts.specs.Names.{coefficient}
use Rattle.term_texts.proofs.names.coefficient.Given as goal

abbrev pub invariant-loop-index : goal.invariant-loop-index
invariant-loop-index l = l.product ≡ coefficient (drop l.index l.factors)
