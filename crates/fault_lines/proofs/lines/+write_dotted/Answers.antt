use Rattle.fault_lines.specs.Lines.{dotted}
use Rattle.fault_lines.proofs.Taken.{of_first, prefix_of_both}
use Rattle.fault_lines.proofs.lines.+write_dotted.Goals as goal

pub returns-in_ok-write_behind_dot-in-len1-up-clause-prefix : goal.returns-in_ok-write_behind_dot-in-len1-up-clause-prefix
returns-in_ok-write_behind_dot-in-len1-up-clause-prefix g t c =
    of_first dotted _ _ c.args.numbers.now 0 c.in-len1-up.len_at_least (prefix_of_both _ _ _ _ _ c.in_ok-write_behind_dot-in-len1-up.ensures.all c.write_dotted.ensures.prefix)
