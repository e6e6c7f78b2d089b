-- The law of `layout`, by the lemmas beside.
use Rattle.kernel_tree.proofs.Grouping.{laid_out, laid_in_a_row, whole_in_a_row, flat_in_a_row}
use Rattle.kernel_tree.proofs.laws.layout.Goals as goal

pub returns-clause-whole : goal.returns-clause-whole
returns-clause-whole c = laid_out

pub returns-clause-one_row : goal.returns-clause-one_row
returns-clause-one_row c = laid_in_a_row

pub returns-clause-in_row : goal.returns-clause-in_row
returns-clause-in_row c = λ global local sizes whole. (whole_in_a_row global local sizes whole, flat_in_a_row global local sizes)
