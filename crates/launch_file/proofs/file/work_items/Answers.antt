use Rattle.std.proofs.Common.{◌∙◌, arith, sym}
use Rattle.launch_file.proofs.AtKeys.{are_few}
use Rattle.launch_file.proofs.file.work_items.Goals as goal

pub overflow_cast-result : goal.overflow_cast-result
overflow_cast-result c =
    let few = (are_few c.args.global c.args.local (sym c.is_grouped.ensures ∙ c.if-not-is_grouped.false)).0.0 in
    omega arith

pub overflow_cast-result-2 : goal.overflow_cast-result-2
overflow_cast-result-2 c =
    let few = (are_few c.args.global c.args.local (sym c.is_grouped.ensures ∙ c.if-not-is_grouped.false)).0.1 in
    omega arith

pub overflow_cast-result-3 : goal.overflow_cast-result-3
overflow_cast-result-3 c =
    let few = (are_few c.args.global c.args.local (sym c.is_grouped.ensures ∙ c.if-not-is_grouped.false)).1.0 in
    omega arith
