use Rattle.fault_lines.specs.Lines.{place_text}
use Rattle.fault_lines.proofs.Taken.{of_first, prefix_of_both}
use Rattle.fault_lines.proofs.lines.write_place.Goals as goal

pub returns-in_ok-write_number-in-len1-up-clause-prefix : goal.returns-in_ok-write_number-in-len1-up-clause-prefix
returns-in_ok-write_number-in-len1-up-clause-prefix g c =
    of_first place_text _ _ c.args.numbers.now 0 c.in-len1-up.len_at_least (prefix_of_both _ _ _ _ _ c.in_ok-write_number-in-len1-up.ensures.all c.write_dotted.ensures.prefix)
