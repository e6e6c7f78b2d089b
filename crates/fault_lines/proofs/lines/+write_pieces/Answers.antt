use Rattle.fault_lines.specs.Lines.{line_in_pieces}
use Rattle.fault_lines.proofs.Taken.{of_first, prefix_of_both}
use Rattle.fault_lines.proofs.lines.+write_pieces.Goals as goal

pub returns-in_ok-write_piece-in-len1-up-clause-prefix : goal.returns-in_ok-write_piece-in-len1-up-clause-prefix
returns-in_ok-write_piece-in-len1-up-clause-prefix g t c =
    of_first line_in_pieces _ _ c.args.pieces.now _ c.in-len1-up.len_at_least (prefix_of_both _ _ _ _ _ c.in_ok-write_piece-in-len1-up.ensures.all c.write_pieces.ensures.prefix)
