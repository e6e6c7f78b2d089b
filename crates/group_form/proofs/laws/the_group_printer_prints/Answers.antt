use Rattle.std.specs.Prelude.{List}
use Rattle.size_arith.specs.declared.poly.Monomial.{Monomial}
use Rattle.group_form.proofs.Printer.{group_code_is}
use Rattle.group_form.proofs.laws.the_group_printer_prints.Goals as goal

pub returns : goal.returns
returns c = group_code_is (List Monomial)
