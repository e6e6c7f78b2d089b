use Rattle.std.proofs.Common.{rules, ◌≡◌, ◌∷◌}
use Rattle.strategy_script.proofs.Listed.{known_from, more_terms}
use Rattle.strategy_script.proofs.run.run_script.Goals as goal

pub steps-preserved : goal.steps-preserved
steps-preserved c =
    let is : c.steps.rest.now ≡ c.in-Some.step.now ∷ c.in-Some.further.now = search rules in
    record {
      known = known_from c.args.source c.steps.current _ c.steps.invariant.made.running.after c.term_after.ensures.known;
      made = more_terms c.args.source c.steps.current c.in_ok-next.next c.args.script.now.steps c.steps.rest.now c.in-Some.further.now c.in-Some.step.now c.steps.made c.steps.terms.items _ c.in_ok-push.ensures.items is c.steps.invariant.made c.in_ok-next.ensures.made c.in_ok-next.ensures.after c.in_ok-next.ensures.ready;
    }
