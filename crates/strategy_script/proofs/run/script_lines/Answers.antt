use Rattle.std.proofs.Common.{rules, ◌≡◌, ◌∷◌}
use Rattle.strategy_script.proofs.Listed.{known_from}
use Rattle.strategy_script.proofs.Written.{all_lines, lines_go_on, none_left}
use Rattle.strategy_script.proofs.run.script_lines.Goals as goal

pub steps-preserved : goal.steps-preserved
steps-preserved c =
    let is : c.steps.rest.now ≡ c.in-Some.step.now ∷ c.in-Some.further.now = search rules in
    record {
      known = known_from c.args.source c.steps.current _ c.steps.invariant.written.running.after c.term_in_place.ensures.known;
      written = lines_go_on c.args.source c.steps.current c.in_ok-current.current c.args.script.now.steps c.steps.rest.now c.in-Some.further.now c.in-Some.step.now c.steps.made c.steps.text.items _ c.in_ok-push_line.ensures is c.steps.invariant.written c.in_ok-current.ensures.made c.in_ok-current.ensures.after c.in_ok-current.ensures.ready;
    }

pub returns-clause-lines : goal.returns-clause-lines
returns-clause-lines c =
    all_lines c.args.source c.steps.current c.args.script.now.steps c.steps.rest.now c.steps.made c.steps.text.items c.push_line-2.new.text.items c.in_ok-push_line-2.ensures (none_left c.steps.rest.now c.in_default.ensures.cases)
    c.steps.invariant.written
