use Rattle.strategy_script.proofs.TextLines.{cut_first, cut_last}
use Rattle.strategy_script.proofs.lines.split_line.Goals as goal

pub returns-then-length-text-clause-lines : goal.returns-then-length-text-clause-lines
returns-then-length-text-clause-lines c = cut_last _ _ _ _ c.line_len-length.ensures.is c.if-length-text.true c.requires c.split_at.ensures.front c.split_at.ensures.back

pub returns-else-length-text-clause-lines : goal.returns-else-length-text-clause-lines
returns-else-length-text-clause-lines c = cut_first _ _ _ c.line_len-length.ensures.is c.if-length-text.false c.line_len-length.ensures.within c.without_carriage_return.ensures
