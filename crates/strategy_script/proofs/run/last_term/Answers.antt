use Rattle.std.proofs.Common.{rules, ◌≡◌, [], ◌∷◌, ◌++◌}
use Rattle.strategy_script.specs.Steps.{state_of}
use Rattle.strategy_script.proofs.Listed.{begins, goes_on, known_from}
use Rattle.strategy_script.proofs.run.last_term.Goals as goal

pub steps-init : goal.steps-init
steps-init c = record { known = tt; running = ([], begins c.args.script.now.steps c.steps-rest.result.now c.args.source c.steps-rest.ensures c.requires.ready) }

pub steps-preserved : goal.steps-preserved
steps-preserved c =
    let is : c.steps.rest.now ≡ c.in-Some.step.now ∷ c.in-Some.further.now = search rules in record {
      known = known_from c.args.source c.steps.current _ c.steps.invariant.running.1.after c.term_in_place.ensures.known;
      running = (
        c.steps.invariant.running.0 ++ state_of c.steps.current ∷ [],
        goes_on c.args.source c.steps.current c.in_ok-current.current c.args.script.now.steps c.steps.rest.now c.in-Some.further.now c.in-Some.step.now c.steps.made c.steps.invariant.running.0 is c.steps.invariant.running.1 c.in_ok-current.ensures.made c.in_ok-current.ensures.after c.in_ok-current.ensures.ready,
      );
    }
