use Rattle.std.proofs.Common.{◌≡◌, subst}
use Rattle.std.specs.Prelude.{Err}
use Rattle.rewriting.specs.Around.{context_of}
use Rattle.strategy_script.specs.RuleAnswers.{answer}
use Rattle.strategy_script.specs.Steps.{answered}
use Rattle.strategy_script.proofs.steps.applied.Goals as goal

pub returns-in-Err-clause-refused : goal.returns-in-Err-clause-refused
returns-in-Err-clause-refused c = λ m.
    subst (λ t. answered (answer c.args.rule (context_of c.args.around.now) t) ≡ Err c.fault_of.result) c.in_ok-node.ensures
    (c.fault_of.ensures _ _ c.in-Err.ensures.answer m)
