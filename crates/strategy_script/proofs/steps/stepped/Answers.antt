use Rattle.strategy_script.proofs.Stepping.{all_ready}
use Rattle.strategy_script.proofs.steps.stepped.Goals as goal

pub returns-clause-ready : goal.returns-clause-ready
returns-clause-ready c =
    all_ready c.args.typed.now c.in_ok-program.program c.in_ok-term.term c.with_types.result c.in_ok-program.ensures c.requires.ready c.in_ok-term.ensures.within c.in_ok-term.ensures.belongs c.with_types.ensures.same
    c.with_types.ensures.typed
