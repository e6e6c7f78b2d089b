-- That compilation ends in one way.
use Rattle.std.specs.Prelude.{ℕ, List}
use Rattle.lift_tree.specs.Programs.{PlainProgram}
use Rattle.stages.specs.Stages.{IsOne}
use Rattle.compilation.specs.Legal.{LegalOf}
use Rattle.compilation.specs.Sequence.{SequenceOf}

-- along a script a program comes to one last term that is compiled, or it is refused for one cause
abbrev pub CompilationEndsOnce : Type 0
CompilationEndsOnce = (p : PlainProgram) (script : List ℕ) → IsOne (LegalOf p script)

-- and to one list of kernels' terms that are compiled, or it is refused for one cause
abbrev pub SequencesEndOnce : Type 0
SequencesEndOnce = (p : PlainProgram) (script : List ℕ) → IsOne (SequenceOf p script)
