use Rattle.std.specs.Prelude.{List}
use Rattle.size_arith.specs.declared.poly.Monomial.{Monomial}
use Rattle.printed_form.proofs.Printed.{code_is}
use Rattle.printed_form.proofs.laws.the_printer_prints.Goals as goal

pub returns : goal.returns
returns c = code_is (List Monomial)
