-- The terms that a script makes of a program.
use Rattle.std.specs.Prelude.{◌≡◌, ◌++◌, ◌∷◌, ℕ, List, [], Result, Ok, Err}
use Rattle.lift_tree.specs.Annotations.{Annotation}
use Rattle.lift_tree.specs.Programs.{PlainProgram}
use Rattle.strategy_script.specs.ScriptText.{ReadsScript}
use Rattle.strategy_script.specs.Steps.{State, terms_of}
use Rattle.strategy_script.specs.declared.script.Step.{Step}
use Rattle.fault_lines.specs.declared.refusal.Refusal.{Refusal}
use Rattle.fault_lines.specs.declared.refusal.Refusal.TheVariants as told
use Rattle.program_source.specs.Program.{TypesOf}
use Rattle.stages.specs.Stages.{As, Then}

-- the source's term, with the types of its nodes
abbrev pub source_of : PlainProgram → Annotation → State
source_of p types = record { tree = p.body; types = types }

-- the source's term, and the term after each step; or the first step that isn't made
abbrev pub StepsOf : PlainProgram → Annotation → List Step → Result (List State) Refusal → Type 0
StepsOf p types steps = As told.Step (λ r. terms_of p steps (source_of p types) ≡ r)

-- the terms that a script makes of a program, or the first stage that stops: its types, the
-- script's text, the steps
abbrev pub TermsOf : PlainProgram → (script : List ℕ) → Result (List State) Refusal → Type 0
TermsOf p script =
    Then (TypesOf p)
    (λ types. Then (As told.Script (ReadsScript script)) (λ read. StepsOf p types read.steps))

-- this is the last of the terms
pub record IsLast (last : State) (terms : List State) : Type 0 where
  pub front : List State
  pub is : terms ≡ front ++ last ∷ []

-- the answer is the last of the terms, and no refusal
abbrev pub LastOf : List State → Result State Refusal → Type 0
LastOf terms (Ok last) = IsLast last terms
LastOf terms (Err why) = ⊥
