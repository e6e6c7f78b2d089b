-- The terms of a program and a script as the code has them.
use Rattle.std.specs.Prelude.{◌≡◌, ◌≤◌, ℕ, List, [], length, map, Ok}
use Rattle.lift_tree.specs.Annotations.{IsTyped, annotation_of, type_in}
use Rattle.lift_tree.specs.Belonging.{IsProper}
use Rattle.lift_tree.specs.Limits.{IsWithinLimits}
use Rattle.lift_tree.specs.Lists.{Every}
use Rattle.lift_tree.specs.Programs.{PlainProgram, program_of}
use Rattle.lift_tree.specs.Tree.{height, tree_of}
use Rattle.lift_tree.specs.Typing.{HasOutput, declared_by}
use Rattle.lift_tree.specs.declared.typed.Typed.{Typed}
use Rattle.pattern_types.specs.Judged.{program_judged}
use Rattle.rewriting.specs.Keeps.{Keeps}
use Rattle.strategy_script.specs.ScriptText.{IsScript}
use Rattle.strategy_script.specs.Steps.{IsReady, State, state_of}
use Rattle.strategy_script.specs.Scripts.{PlainScript}
use Rattle.program_source.specs.Program.{IsRead}
use Rattle.program_source.specs.Terms.{IsLast, TermsOf}

-- a program's typed source, and what the text of a script says
pub record IsBegun (program script : List ℕ) (t : Typed) (read_script : PlainScript) : Type 0 where
  pub read : IsRead program (program_of t.program)
  pub whole : tree_of t.term ≡ tree_of t.program.body
  pub judged : program_judged (program_of t.program) (tree_of t.program.body)
      ≡ Ok (annotation_of t.types)
  pub ready : IsReady t
  pub is : IsScript script read_script
  pub few : length read_script.steps ≤ 256

-- a typed term of the program, with the source's type and value; it copies nothing but arrays where
-- the source does
pub record IsSourceTerm (p : PlainProgram) (t : Typed) : Type 0 where
  pub program : program_of t.program ≡ p
  pub typed : IsTyped t
  pub keeps : Keeps (declared_by p) [] p.body (tree_of t.term)

-- these are the terms of the program and the script
pub record AreSourceTerms (program script : List ℕ) (terms : List Typed) : Type 0 where
  pub source : PlainProgram
  pub read : IsRead program source
  pub made : TermsOf source script (Ok (map state_of terms))
  pub each : Every (IsSourceTerm source) terms

-- this is the last of them, whose type is the program's, and which is within
-- the limits on types and on height
pub record IsLastTerm (program script : List ℕ) (t : Typed) : Type 0 where
  pub read : IsRead program (program_of t.program)
  pub proper : IsProper (program_of t.program)
  pub few : length (program_of t.program).inputs ≤ 8
  pub terms : List State
  pub made : TermsOf (program_of t.program) script (Ok terms)
  pub is_last : IsLast (state_of t) terms
  pub term : IsSourceTerm (program_of t.program) t
  pub output : HasOutput (program_of t.program) (program_of t.program).body
      (type_in (annotation_of t.types))
  pub within : IsWithinLimits (program_of t.program) (tree_of t.term) (annotation_of t.types)
  pub low : height (tree_of t.term) ≤ 256
