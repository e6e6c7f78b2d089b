-- What a script's rules say of a term: each by its crate's row.
use Rattle.lift_tree.specs.Tree.{Tree}
use Rattle.rewriting.specs.Around.{Around}
use Rattle.rewriting.specs.Answers.{Answer}
use Rattle.rules_algebra.specs.Rows as algebra
use Rattle.rules_split.specs.Rules as split
use Rattle.rules_lower.specs.Rules as lower
use Rattle.strategy_script.specs.declared.rule.Rule.{Rule}
use Rattle.strategy_script.specs.declared.rule.Rule.TheVariants.{Algebra, Split, Lower}

-- the row of the rule's own crate
abbrev pub answer : Rule → Around → Tree → Answer
answer (Algebra rule) a t = algebra.answer rule a t
answer (Split rule) a t = split.answer rule a t
answer (Lower rule) a t = lower.answer rule a t
