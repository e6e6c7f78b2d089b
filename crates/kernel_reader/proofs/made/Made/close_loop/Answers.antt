use Rattle.std.proofs.Common.{rules, ap, ◌∙◌}
use Rattle.std.proofs.lemmas.Grind.{common_steps}
use Rattle.kernel_tree.specs.Code.{End, Loops}
use Rattle.kernel_tree.specs.Tree.{formula_of, start_of, stride_of, code_then}
use Rattle.kernel_reader.proofs.made.Made.close_loop.Goals as goal

pub returns : goal.returns
returns c =
    let b = c.in-Some.bound in
    let s = c.args.start in
    let step = c.args.stride in
    let after = code_then c.in-Some-pop_front.after.items End in
    let w = c.blocks-2.ensures.loops s b step c.in_ok-body.body after ∙ ap (λ z. Loops (start_of s) (formula_of b) (stride_of step) (code_then z End) after) c.in_ok-body.ensures in
    first_of (search (rules, w), grind (w, common_steps))
