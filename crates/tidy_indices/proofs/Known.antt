-- What is known of simplified expressions and of their spellings.
use Rattle.index_simplify.specs.Promises.{ExpressionsAreSimplified, TabledExpressionsAreSimplified, FoundLawsApply, SameOperationsAreEqual}
use Rattle.tidy_indices.specs.Spelling.{RangedFormulasHaveTheValues, SimpleFormulasHaveTheValues}

pub record Known : Type 0 where
  pub simplified : ExpressionsAreSimplified
  pub tabled : TabledExpressionsAreSimplified
  pub found : FoundLawsApply
  pub operations : SameOperationsAreEqual
  pub ranged : RangedFormulasHaveTheValues
  pub simple : SimpleFormulasHaveTheValues
