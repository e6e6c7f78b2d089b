use Rattle.std.proofs.Common.{rules, ap, ◌∙◌}
use Rattle.std.proofs.lemmas.Grind.{common_steps}
use Rattle.kernel_tree.specs.Code.{End, Guards}
use Rattle.kernel_tree.specs.Tree.{formula_of, start_of, code_then}
use Rattle.kernel_reader.proofs.made.Made.close_if.Goals as goal

pub returns : goal.returns
returns c =
    let b = c.in-Some.bound in
    let s = c.args.start in
    let after = code_then c.in-Some-pop_front.after.items End in
    let w = c.blocks-2.ensures.ifs s b c.in_ok-body.body after ∙ ap (λ z. Guards (start_of s) (formula_of b) (code_then z End) after) c.in_ok-body.ensures in
    first_of (search (rules, w), grind (w, common_steps))
