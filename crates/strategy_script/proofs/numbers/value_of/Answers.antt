use Rattle.std.proofs.Common.{arith, ◌∙◌, sym}
use Rattle.strategy_script.proofs.Digits.{stops, stands}
use Rattle.strategy_script.proofs.numbers.value_of.Goals as goal

pub returns-in_err-checked_mul : goal.returns-in_err-checked_mul
returns-in_err-checked_mul c =
    c.from_residual.ensures
    ∙ sym (stops c.loop-digit.value c.loop-digit.digit-index c.from-last.result c.args.digits.now c.loop-digit-test.true (c.from-last.ensures ∙ c.saturating_sub.ensures) (omega (arith, c.in_err-checked_mul.ensures)) c.loop-digit.invariant.so_far)

pub returns-in_err-value : goal.returns-in_err-value
returns-in_err-value c =
    c.from_residual-in_err-value.ensures
    ∙ sym (stops c.loop-digit.value c.loop-digit.digit-index c.from-last.result c.args.digits.now c.loop-digit-test.true (c.from-last.ensures ∙ c.saturating_sub.ensures) (omega (arith, c.in_err-value.ensures, c.in_ok-checked_mul.ensures)) c.loop-digit.invariant.so_far)

pub returns : goal.returns
returns c = stands c.loop-digit.value c.loop-digit.digit-index c.args.digits.now c.loop-digit-test.false c.loop-digit.invariant.small c.loop-digit.invariant.so_far
