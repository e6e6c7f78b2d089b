use Rattle.std.proofs.Common.{◌∙◌, sym}
use Rattle.strategy_script.proofs.Parts.{one_part, first_part}
use Rattle.strategy_script.proofs.numbers.split_part.Goals as goal

pub returns-then-length-text-clause-parts : goal.returns-then-length-text-clause-parts
returns-then-length-text-clause-parts c = one_part _ (sym c.part_len-length.ensures.is ∙ c.if-length-text.true)

pub returns-else-length-text-clause-parts : goal.returns-else-length-text-clause-parts
returns-else-length-text-clause-parts c = first_part _ _ c.part_len-length.ensures.is c.if-length-text.false c.part_len-length.ensures.within
