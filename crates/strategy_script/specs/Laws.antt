-- Which terms a script may be run from, and that a text is one script.
use Rattle.std.specs.Prelude.{◌≡◌, ◌≤◌, ℕ, List, Result}
use Rattle.lift_tree.specs.declared.typed.Typed.{Typed}
use Rattle.lift_tree.specs.Tree.{nodes, tree_of}
use Rattle.lift_tree.specs.Annotations.{IsTyped}
use Rattle.lift_tree.specs.Belonging.{IsProper}
use Rattle.lift_tree.specs.Programs.{program_of}
use Rattle.strategy_script.specs.ScriptText.{ReadsScript}
use Rattle.strategy_script.specs.Steps.{IsReady}
use Rattle.strategy_script.specs.declared.script.ScriptNo.{ScriptNo}
use Rattle.strategy_script.specs.Scripts.{PlainScript}

-- a typed term of a proper program, with no more nodes than a program's term may have
abbrev pub FewNodesAreReady : Type 0
FewNodesAreReady =
    (t : Typed) → IsProper (program_of t.program) → IsTyped t → nodes (tree_of t.term) ≤ 4096
    → IsReady t

-- a text is one script, or refused for one cause
abbrev pub ScriptsEndOnce : Type 0
ScriptsEndOnce =
    (text : List ℕ) (r s : Result PlainScript ScriptNo) → ReadsScript text r → ReadsScript text s
    → r ≡ s
