-- What the steps of a script are written as.
use Rattle.std.specs.Prelude.{◌≡◌, ℕ, List, [], ◌∷◌, Ok}
use Rattle.lift_tree.specs.Annotations.{Annotation}
use Rattle.lift_tree.specs.Lists.{Every}
use Rattle.lift_tree.specs.Programs.{PlainProgram}
use Rattle.lift_tree.specs.Typing.{declared_by}
use Rattle.rewriting.specs.Keeps.{Keeps}
use Rattle.strategy_script.specs.ScriptLines.{term_lines}
use Rattle.strategy_script.specs.Steps.{State}
use Rattle.program_source.specs.Program.{IsRead}
use Rattle.program_source.specs.Terms.{TermsOf, source_of}

-- The text is a line for each term that the steps make of the program: the first is the program's
-- own, and each has its type, and its value at all admissible sizes and inputs.
pub record IsStepsText (program script text : List ℕ) : Type 0 where
  pub source : PlainProgram
  pub terms : List State
  pub read : IsRead program source
  pub made : TermsOf source script (Ok terms)
  pub types : Annotation
  pub rest : List State
  pub first : terms ≡ source_of source types ∷ rest
  pub keep : Every (λ (s : State). Keeps (declared_by source) [] source.body s.tree) terms
  pub written : text ≡ term_lines source terms
