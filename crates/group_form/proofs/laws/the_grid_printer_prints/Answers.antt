use Rattle.std.specs.Prelude.{List}
use Rattle.size_arith.specs.declared.poly.Monomial.{Monomial}
use Rattle.group_form.proofs.GridChosen.{grid_forms_make_turns}
use Rattle.group_form.proofs.GridPrinter.{grid_code_is}
use Rattle.group_form.proofs.laws.the_grid_printer_prints.Goals as goal

pub returns-clause-prints : goal.returns-clause-prints
returns-clause-prints c = grid_code_is (List Monomial)

pub returns-clause-forms : goal.returns-clause-forms
returns-clause-forms c = grid_forms_make_turns
