use Rattle.std.specs.Prelude.{List}
use Rattle.size_arith.specs.declared.poly.Monomial.{Monomial}
use Rattle.printed_form.proofs.SameRuns.{printed_kernels_are_alike}
use Rattle.printed_form.proofs.laws.printed_kernels_are_alike.Goals as goal

pub returns : goal.returns
returns c = printed_kernels_are_alike (List Monomial)
