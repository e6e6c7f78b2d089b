use Rattle.std.specs.Prelude.{List}
use Rattle.size_arith.specs.declared.poly.Monomial.{Monomial}
use Rattle.printed_form.proofs.Theorem.{printed_kernels_keep}
use Rattle.printed_form.proofs.laws.printed_kernels_keep.Goals as goal

pub returns : goal.returns
returns c = printed_kernels_keep (List Monomial)
