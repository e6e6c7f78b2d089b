-- The law of `blocks`, by the lemmas beside.
use Rattle.kernel_tree.proofs.Rows.{before-Loop, before-If, code_then-rest, then-end, then-then, code_then-append}
use Rattle.kernel_tree.proofs.laws.blocks.Goals as goal

pub returns : goal.returns
returns c = record { loops = before-Loop; ifs = before-If; rest = code_then-rest; join = λ a b c. (then-end a, then-then a b c); behind = code_then-append }
