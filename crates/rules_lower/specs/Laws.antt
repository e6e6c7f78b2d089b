-- Laws of the rules.
use Rattle.std.specs.Prelude.{◌≡◌}
use Rattle.lift_tree.specs.Tree.{Tree}
use Rattle.rewriting.specs.Around.{Around}
use Rattle.rewriting.specs.Answers.{Becomes}
use Rattle.rewriting.specs.Keeps.{KeepsIn}
use Rattle.rules_lower.specs.declared.rule.Rule.{Rule}
use Rattle.rules_lower.specs.Rules.{answer}
use Rattle.rules_lower.specs.Vectors.{HasPolynomials}

-- what a rule makes of a term keeps the term's type, copies and value
abbrev pub LoweringKeeps : Type 0
LoweringKeeps =
    (rule : Rule) (a : Around) (t u : Tree) → HasPolynomials a → answer rule a t ≡ Becomes u
    → KeepsIn a t u
