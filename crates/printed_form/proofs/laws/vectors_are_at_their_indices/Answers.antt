use Rattle.std.specs.Prelude.{List}
use Rattle.size_arith.specs.declared.poly.Monomial.{Monomial}
use Rattle.printed_form.proofs.VectorIndices.{at_their_indices}
use Rattle.printed_form.proofs.laws.vectors_are_at_their_indices.Goals as goal

pub returns : goal.returns
returns c = at_their_indices (List Monomial)
