-- That the stages of a program's text end in one way, and what is known of what they make.
use Rattle.std.specs.Prelude.{◌≡◌, ℕ, List, Ok}
use Rattle.lift_tree.specs.Annotations.{Annotation}
use Rattle.lift_tree.specs.Limits.{HasProperInputs}
use Rattle.lift_tree.specs.Programs.{PlainProgram}
use Rattle.pattern_types.specs.Judged.{program_judged}
use Rattle.stages.specs.Stages.{IsOne}
use Rattle.strategy_script.specs.Steps.{State}
use Rattle.program_source.specs.Program.{IsRead, ReadsProgram, TypesOf}
use Rattle.program_source.specs.Terms.{LastOf, TermsOf}

-- a text is one program, or refused for one cause; so are its types, its terms along
-- a script, and the last of these
pub record SourcesEndOnce : Type 0 where
  pub read : (text : List ℕ) → IsOne (ReadsProgram text)
  pub types : (p : PlainProgram) → IsOne (TypesOf p)
  pub terms : (p : PlainProgram) (script : List ℕ) → IsOne (TermsOf p script)
  pub last : (terms : List State) → IsOne (LastOf terms)

-- a program that is read and typed has proper inputs
abbrev pub TypedProgramsAreProper : Type 0
TypedProgramsAreProper =
    (text : List ℕ) (p : PlainProgram) (types : Annotation) → IsRead text p
    → program_judged p p.body ≡ Ok types → HasProperInputs p
