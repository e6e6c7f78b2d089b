-- How many variables are in use before a part of a term, and after it.
use Rattle.std.proofs.Common.{arith}
use Rattle.printed_form.specs.Counts.{Count, more, AtMost}
use Rattle.printed_form.proofs.Runs.{at_most}

-- what has room for two has it for the first
pub most_first : (n a b m : Count) → AtMost (more n (more a b)) m → AtMost (more n a) m
most_first n a b m h = let words = h.words in let fours = h.fours in at_most (omega arith) (omega arith)

-- and behind it for the second
pub most_rest : (n a b m : Count) → AtMost (more n (more a b)) m → AtMost (more (more n a) b) m
most_rest n a b m h = let words = h.words in let fours = h.fours in at_most (omega arith) (omega arith)

-- what was in use before is in use later
pub most_later : (k n a : Count) → AtMost k n → AtMost k (more n a)
most_later k n a h = let words = h.words in let fours = h.fours in at_most (omega arith) (omega arith)

-- what has room for two has it for the second alone
pub most_second : (a b m : Count) → AtMost (more a b) m → AtMost b m
most_second a b m h = let words = h.words in let fours = h.fours in at_most (omega arith) (omega arith)

-- and for the rest without the first
pub most_without : (n a b m : Count) → AtMost (more n (more a b)) m → AtMost (more n b) m
most_without n a b m h = let words = h.words in let fours = h.fours in at_most (omega arith) (omega arith)
