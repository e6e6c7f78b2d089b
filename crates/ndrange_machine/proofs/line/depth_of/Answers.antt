use Rattle.std.proofs.Common.{◌+◌, max, drop, ap, sym, ◌∙◌, arith}
use Rattle.std.proofs.lemmas.List.{drop_all}
use Rattle.std.specs.Prelude.{map}
use Rattle.ndrange_machine.specs.Lines.{past_line}
use Rattle.ndrange_machine.specs.Wants.{text_of}
use Rattle.ndrange_machine.proofs.Depth.{deepest, deepest_on, deepest_is, past_low}
use Rattle.ndrange_machine.proofs.line.depth_of.Goals as goal

pub loop-line-preserved : goal.loop-line-preserved
loop-line-preserved c =
    let ls = c.args.lines.now in
    let i = c.loop-line.line-index in
    let l = c.line-item.result in
    let on = deepest_on c.loop-line.inside c.loop-line.most ls i l c.loop-line-test.true c.line-item.is in
    let low = past_low (text_of l) c.loop-line.inside in
    let few = c.loop-line.invariant.few in
    let is = c.loops_past-inside.ensures in
    record {
      steps =
          ap (λ n. deepest n c.max-most.result (map text_of (drop (i + 1) ls))) is
          ∙ ap (λ n. deepest (past_line (text_of l) c.loop-line.inside) n (map text_of (drop (i + 1) ls))) (c.max-most.ensures ∙ ap (max c.loop-line.most) is)
          ∙ sym on
          ∙ c.loop-line.invariant.steps;
      few = omega arith;
    }

pub returns : goal.returns
returns c = λ code text.
    ap (λ z. deepest c.loop-line.inside c.loop-line.most (map text_of z)) (sym (drop_all c.loop-line.line-index c.args.lines.now c.loop-line-test.false))
    ∙ c.loop-line.invariant.steps
    ∙ ap (deepest 0 0) text
    ∙ deepest_is 0 code
