use Rattle.std.proofs.Common.{[], ap, ◌∙◌}
use Rattle.kernel_tree.specs.Formula as formula
use Rattle.kernel_tree.specs.Tree.{formula_of}
use Rattle.ndrange_machine.proofs.value.any_bound_of.Goals as goal

pub returns : goal.returns
returns c = c.value_of.ensures ∙ ap (λ z. formula.value z [] formula.no_vars (formula_of c.args.bound.now)) (c.unasked.ensures c.args.sizes.now)
