use Rattle.std.proofs.Common.{◌++◌, ap, sym, ◌∙◌, arith}
use Rattle.kernel_printer.proofs.InOrder.{all_put, one_more}
use Rattle.kernel_printer.proofs.text.print_sequence.Goals as goal

pub loop-number-preserved : goal.loop-number-preserved
loop-number-preserved c =
    let text = c.loop-number.text.items in
    one_more c.args.kernels.now text c.in_ok-own.own.items _ c.deref.result.now c.loop-number.number c.index-kernels-number.result c.loop-number-test.true c.index-kernels-number.is
    (c.in_ok-extend_from_slice.ensures.items ∙ ap (λ z. text ++ z) c.deref-in-loop-number.ensures.value)
    (c.deref.ensures.value ∙ c.in_ok-name.ensures.is)
    c.in_ok-own.ensures.text
    c.loop-number.invariant

pub returns-clause-text : goal.returns-clause-text
returns-clause-text c = all_put c.args.kernels.now c.loop-number.text.items c.loop-number.number (omega arith) c.loop-number.invariant

pub returns-clause-only : goal.returns-clause-only
returns-clause-only c =
    λ bytes h. c.sequences_have_one_text.ensures bytes _ h ∙ sym (c.sequences_have_one_text.ensures _ _ (returns-clause-text c))
