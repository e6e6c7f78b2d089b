use Rattle.std.proofs.Common.{◌∙◌, sym, ap, ◌∷◌}
use Rattle.strategy_script.specs.Numbers.{parts_behind}
use Rattle.strategy_script.proofs.Parts.{none_here, one_more, last_one}
use Rattle.strategy_script.proofs.numbers.numbers_of.Goals as goal

pub returns-in-None : goal.returns-in-None
returns-in-None c = none_here c.parts.numbers.items _ _ _ _ c.split_part.ensures.parts (sym c.in-None.is ∙ c.number_of.ensures) c.parts.invariant

pub returns-in-None-behind : goal.returns-in-None-behind
returns-in-None-behind c =
    last_one c.parts.numbers.items c.push.new.self.items c.in-Some.number _ _ _ (c.split_part.ensures.parts ∙ ap (λ o. c.split_part.result.0.now ∷ parts_behind o) c.in-None-behind.is) (sym c.in-Some.is ∙ c.number_of.ensures) c.in_ok-push.ensures.items c.parts.invariant

pub parts-preserved : goal.parts-preserved
parts-preserved c =
    one_more c.parts.numbers.items c.push.new.self.items c.in-Some.number _ _ _ _ (c.split_part.ensures.parts ∙ ap (λ o. c.split_part.result.0.now ∷ parts_behind o) c.in-Some-behind.is) (sym c.in-Some.is ∙ c.number_of.ensures) c.in_ok-push.ensures.items c.parts.invariant
