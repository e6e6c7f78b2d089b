use Rattle.std.proofs.Common.{◌∙◌, ◌<◌, ◌^◌, List, ℕ, ap, refl, subst, sym, length}
use Rattle.kernel_tree.specs.Grammar.{is_kernel}
use Rattle.kernel_emit.specs.Plans.{printed_for}
use Rattle.kernel_emit.proofs.Made.{kernel_is}
use Rattle.kernel_emit.proofs.printed.printed.Goals as goal

pub invariant_of-result : goal.invariant_of-result
invariant_of-result c =
    let plan = c.args.plan.now in
    let counts = c.in_ok-counts.ensures in
    let locals = c.in_ok-locals.ensures ∙ c.deref.ensures.value in
    let privates = c.in_ok-privates.ensures ∙ c.deref-2.ensures.value in
    record {
      in_grammar = ap is_kernel (kernel_is (printed_for plan) _ _ _ _ _ _ _ _ _ counts.inputs counts.outputs counts.sizes locals privates counts.variables c.in_ok-body.ensures counts.vectors refl) ∙ c.requires.grammar;
      few_arrays = (subst (λ (xs : List ℕ). length xs < 2 ^ 32) (sym locals) c.requires.locals, subst (λ (xs : List ℕ). length xs < 2 ^ 32) (sym privates) c.requires.privates);
    }

pub returns : goal.returns
returns c =
    let plan = c.args.plan.now in
    let counts = c.in_ok-counts.ensures in
    let locals = c.in_ok-locals.ensures ∙ c.deref.ensures.value in
    let privates = c.in_ok-privates.ensures ∙ c.deref-2.ensures.value in
    kernel_is (printed_for plan) _ _ _ _ _ _ _ _ _ counts.inputs counts.outputs counts.sizes locals privates counts.variables c.in_ok-body.ensures counts.vectors refl
