-- What each stage makes of the demo's texts: none refuses them.
use Rattle.std.specs.Prelude.{◌≡◌, ◌≤◌, ◌++◌, List, [], ◌∷◌, codes, false, true, length, None, Ok}
use Rattle.lift_tree.specs.declared.layout.Layout.TheVariants as layouts
use Rattle.lift_tree.specs.declared.length.Factor.TheVariants as factor
use Rattle.lift_tree.specs.declared.length.Sign.TheVariants as sign
use Rattle.lift_tree.specs.declared.term.BinaryForm.TheVariants as binary
use Rattle.lift_tree.specs.declared.term.MapKind.TheVariants as map_kind
use Rattle.lift_tree.specs.declared.term.UnaryForm.TheVariants as unary
use Rattle.scalar_ops.specs.declared.op.Reducer.TheVariants as reducer
use Rattle.lift_tree.specs.Annotations.{Annotation}
use Rattle.lift_tree.specs.InputTypes as written
use Rattle.lift_tree.specs.Launches.{Asks}
use Rattle.lift_tree.specs.Programs.{PlainProgram}
use Rattle.lift_tree.specs.Tree as trees
use Rattle.lift_tree.specs.Tree.{Tree}
use Rattle.lift_reader.specs.ProgramText.{IsProgramText, first_limit}
use Rattle.pattern_types.specs.Judged.{program_judged}
use Rattle.strategy_script.specs.ScriptText.{IsScript}
use Rattle.strategy_script.specs.Steps.{State, terms_of}
use Rattle.strategy_script.specs.declared.script.Step.{Step}
use Rattle.lowered_tree.specs.Kinds.{asks_of}
use Rattle.lowered_tree.specs.Nest.{nest_fault}
use Rattle.buffer_allocation.specs.Limits.{passed_limit}
use Rattle.demo_program.specs.Texts.{program_text, script_text}

-- join(map(\w. reduce(add, 0, w), slide(3, 1, pad(1, 1, xs))))
abbrev pub sums : Tree
sums =
    trees.Unary (unary.Layout layouts.Join)
    (trees.Map map_kind.Plain
    (trees.Unary (unary.Slide 3 1) (trees.Unary (unary.Pad 1 1) (trees.Input 0)))
    (trees.Binary (binary.Reduce reducer.Add) (trees.Variable 0) (trees.Number 0)))

-- the program that the demo's text is
abbrev pub demo_program : PlainProgram
demo_program = record {
  sizes = record { name = codes "N"; multiple = 64; from = 64; to = 65536 } ∷ [];
  inputs =
      record {
        name = codes "xs";
        ty = written.Array written.Number
            (record { sign = sign.Plus; product = factor.Size 0 ∷ [] } ∷ []);
      }
      ∷ [];
  body = sums;
}

-- what its last term asks of each launch: one row
abbrev pub demo_asks : Asks
demo_asks = record { alone = false; flat = true; local = None }

-- the texts are read, typed and rewritten within their limits, no local size is fixed, and the last
-- term is a legal nest within its limits, which asks for one row
pub record DemoIsAccepted : Type 0 where
  pub read : IsProgramText program_text demo_program
  pub within : first_limit demo_program ≡ None
  pub types : Annotation
  pub typed : program_judged demo_program demo_program.body ≡ Ok types
  pub steps : List Step
  pub script : IsScript script_text (record { local = None; steps = steps })
  pub few : length steps ≤ 256
  pub front : List State
  pub last : State
  pub made : terms_of demo_program steps (record { tree = demo_program.body; types = types })
      ≡ Ok (front ++ last ∷ [])
  pub legal : nest_fault None last.tree last.types ≡ None
  pub fits : passed_limit last.tree last.types ≡ None
  pub asked : asks_of None last.tree ≡ demo_asks
