use Rattle.std.proofs.Common.{◌≡◌}
use Rattle.std.specs.Prelude.{map, take}
use Rattle.tidy_indices.proofs.places.multiples_of.Given as goal

abbrev pub invariant-loop-name : goal.invariant-loop-name
invariant-loop-name l = l.multiples.items ≡ map (λ n. n.multiple) (take l.name-index l.names)
