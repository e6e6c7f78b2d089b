-- Chains of first and second, as the Rust code holds them.
use Rattle.std.specs.Prelude.{Bool, true, false, List, [], ◌∷◌}
use Rattle.lowering.specs.declared.loads.Chain as chain
use Rattle.lowering.specs.declared.loads.Chain.{Chain}

-- the pair choices of a chain, first false and second true
abbrev pub choices_of : Chain → List Bool
choices_of chain.End = []
choices_of (chain.First' p rest) = false ∷ choices_of rest
choices_of (chain.Second' p rest) = true ∷ choices_of rest
