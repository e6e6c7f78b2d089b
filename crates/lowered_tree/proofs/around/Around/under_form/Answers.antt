use Rattle.std.proofs.Common.{rules}
use Rattle.lowered_tree.proofs.around.Around.under_form.Goals as goal

pub returns-in-ToLocal : goal.returns-in-ToLocal
returns-in-ToLocal c = λ g. let e = c.copied.ensures g in search rules

pub returns-in-ToPrivate : goal.returns-in-ToPrivate
returns-in-ToPrivate c = λ g. let e = c.copied-in-ToPrivate.ensures g in search rules

pub returns-in-Div : goal.returns-in-Div
returns-in-Div c = λ g. let e = c.operand.ensures g in search rules
