use Rattle.strategy_script.proofs.Listed.{after_both, refused}
use Rattle.strategy_script.proofs.run.term_in_place.Goals as goal

pub returns-in-Ok-clause-after : goal.returns-in-Ok-clause-after
returns-in-Ok-clause-after c = λ source f. after_both c.keeping_goes_on.ensures source c.args.typed c.in-Ok.next f c.in-Ok.ensures.after

pub returns-in-Err-clause-refused : goal.returns-in-Err-clause-refused
returns-in-Err-clause-refused c = λ m. refused c.args.number _ c.in-Err.fault c.at.result c.in-Err.ensures.refused c.at.ensures m
