use Rattle.group_phases.proofs.Strides.{statement_takes}
use Rattle.group_phases.proofs.TurnForms.{loop_takes, test_takes, guard_tests, nest_takes}
use Rattle.group_phases.proofs.laws.forms_of_turns.Goals as goal

pub returns-clause-loops : goal.returns-clause-loops
returns-clause-loops c = λ d k fs p count h. loop_takes d k fs p count h

pub returns-clause-tests : goal.returns-clause-tests
returns-clause-tests c = λ d k fs code inner rest count h. test_takes d k fs code inner rest count h

pub returns-clause-guards : goal.returns-clause-guards
returns-clause-guards c = guard_tests

pub returns-clause-nests : goal.returns-clause-nests
returns-clause-nests c = λ d k fs code rest f width first last inner outer takes. nest_takes d k fs code rest f outer width first last inner takes

pub returns-clause-statements : goal.returns-clause-statements
returns-clause-statements c = λ d k f s c2 len id size fs b body begins steps inside small is makes. statement_takes d k s c2 len id size begins steps inside fs b body small is f makes
