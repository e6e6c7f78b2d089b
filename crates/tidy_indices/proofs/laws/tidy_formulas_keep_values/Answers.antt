use Rattle.tidy_indices.proofs.Kept.{keep_values}
use Rattle.tidy_indices.proofs.Known.{Known}
use Rattle.tidy_indices.proofs.laws.tidy_formulas_keep_values.Goals as goal

pub returns : goal.returns
returns c =
    let known : Known = record {
      simplified = c.expressions_are_simplified.ensures;
      tabled = c.tabled_expressions_are_simplified.ensures;
      found = c.found_laws_apply.ensures;
      operations = c.same_operations_are_equal.ensures;
      ranged = c.ranged_formulas_have_the_values.ensures;
      simple = c.simple_formulas_have_the_values.ensures;
    } in
    keep_values known
