use Rattle.std.proofs.Common.{◌∙◌}
use Rattle.compilation.proofs.sequence.outline.Goals as goal

pub returns : goal.returns
returns c = λ i. record { asks = c.asks_of.ensures i; output = (c.in_ok-output.ensures ∙ c.own_type.ensures) i }
