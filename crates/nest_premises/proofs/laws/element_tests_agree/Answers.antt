use Rattle.lift_ir.proofs.Elements.{same_test, told_element}
use Rattle.nest_premises.proofs.laws.element_tests_agree.Goals as goal

pub returns-clause-alike : goal.returns-clause-alike
returns-clause-alike c = same_test

pub returns-clause-passed : goal.returns-clause-passed
returns-clause-passed c = told_element
