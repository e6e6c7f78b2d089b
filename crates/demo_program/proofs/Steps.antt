-- The demo's steps are made, and the last term is legal and within its limits, by computing.
use Rattle.std.proofs.Common.{◌≡◌, ◌++◌, ◌≤◌, List, [], ◌∷◌, None, Ok, Err, Result, refl, length, take, arith}
use Rattle.scalar_ops.specs.declared.op.Reducer.TheVariants as reducer
use Rattle.lift_tree.specs.declared.layout.Layout.TheVariants as layouts
use Rattle.lift_tree.specs.declared.term.BinaryForm.TheVariants as binary
use Rattle.lift_tree.specs.declared.term.FoldKind.TheVariants as fold_kind
use Rattle.lift_tree.specs.declared.term.Dimension.TheVariants as dimensions
use Rattle.lift_tree.specs.declared.term.Level.TheVariants as levels
use Rattle.lift_tree.specs.declared.term.MapKind.TheVariants as map_kind
use Rattle.lift_tree.specs.declared.term.Operator.TheVariants as operator
use Rattle.lift_tree.specs.declared.term.UnaryForm.TheVariants as unary
use Rattle.lift_tree.specs.Annotations.{Annotation, Leaf}
use Rattle.lift_tree.specs.Tree as trees
use Rattle.lift_tree.specs.Tree.{Tree}
use Rattle.lift_tree.specs.Types.{U32}
use Rattle.lift_reader.specs.ProgramText.{first_limit}
use Rattle.pattern_types.specs.Judged.{program_judged}
use Rattle.pattern_types.specs.declared.refusal.TypeRefusal.{TypeRefusal}
use Rattle.strategy_script.specs.RuleNames.{numbered_named, plain_named}
use Rattle.strategy_script.specs.ScriptText.{IsScript, steps_in}
use Rattle.strategy_script.specs.Steps.{State, terms_of}
use Rattle.strategy_script.specs.declared.faults.StepNo.{StepNo}
use Rattle.strategy_script.specs.declared.script.Step.{Step}
use Rattle.lowered_tree.specs.Kinds.{asks_of}
use Rattle.lowered_tree.specs.Nest.{nest_fault}
use Rattle.buffer_allocation.specs.Limits.{passed_limit}
use Rattle.demo_program.specs.Texts.{script_text}
use Rattle.demo_program.specs.Accepted.{DemoIsAccepted, demo_asks, demo_program, sums}
use Rattle.demo_program.proofs.Reading.{program_read}

-- ---- types

judged_as : Result Annotation TypeRefusal → Annotation
judged_as (Ok n) = n
judged_as (Err e) = Leaf U32

-- the types of a term of the demo
types_of : Tree → Annotation
unfolding judged_as
types_of t = judged_as (program_judged demo_program t)

source : State
source = record { tree = sums; types = types_of sums }

typed : program_judged demo_program sums ≡ Ok source.types
unfolding judged_as types_of source
typed = refl

within : first_limit demo_program ≡ None
within = refl

-- ---- the script

script_steps : List Step
unfolding numbered_named plain_named
script_steps = steps_in script_text

script : IsScript script_text (record { local = None; steps = script_steps })
unfolding numbered_named plain_named script_steps
script = record { all = refl; found = refl }

few : length script_steps ≤ 256
unfolding numbered_named plain_named script_steps
few = omega arith

-- ---- the terms

-- join(join(mapWrg(\t. mapLcl(\w. foldSeq(\a x. add(a, x), 0, w), slide(3, 1, toLocal(mapLcl(\x. x,
-- t)))), slide(66, 64, pad(1, 1, xs)))))
copied_tile : Tree
copied_tile = trees.Unary unary.ToLocal (trees.Map (map_kind.Over levels.Items dimensions.X) (trees.Variable 0) (trees.Variable 0))

sum : Tree
sum = trees.Fold fold_kind.Sequential (trees.Variable 0) (trees.Number 0) (trees.Binary (binary.Operator (operator.Regrouping reducer.Add)) (trees.Variable 1) (trees.Variable 0))

tiles : Tree
tiles = trees.Unary (unary.Slide 66 64) (trees.Unary (unary.Pad 1 1) (trees.Input 0))

tiled_sums : Tree
unfolding copied_tile sum tiles
tiled_sums = trees.Unary (unary.Layout layouts.Join) (trees.Unary (unary.Layout layouts.Join) (trees.Map (map_kind.Over levels.Groups dimensions.X) tiles (trees.Map (map_kind.Over levels.Items dimensions.X) (trees.Unary (unary.Slide 3 1) copied_tile) sum)))

last : State
unfolding tiled_sums
last = record { tree = tiled_sums; types = types_of tiled_sums }

terms_as : Result (List State) StepNo → List State
terms_as (Ok ts) = ts
terms_as (Err e) = []

-- the terms before the last
front : List State
unfolding terms_as
front = take 9 (terms_as (terms_of demo_program script_steps source))

made : terms_of demo_program script_steps source ≡ Ok (front ++ last ∷ [])
unfolding numbered_named plain_named script_steps source judged_as types_of terms_as front last tiled_sums copied_tile sum tiles
made = refl

legal : nest_fault None last.tree last.types ≡ None
unfolding judged_as types_of last tiled_sums copied_tile sum tiles
legal = refl

fits : passed_limit last.tree last.types ≡ None
unfolding judged_as types_of last tiled_sums copied_tile sum tiles
fits = refl

asked : asks_of None last.tree ≡ demo_asks
unfolding last tiled_sums copied_tile sum tiles
asked = refl

pub accepted : DemoIsAccepted
unfolding source
accepted = record {
  read = program_read;
  within = within;
  types = source.types;
  typed = typed;
  steps = script_steps;
  script = script;
  few = few;
  front = front;
  last = last;
  made = made;
  legal = legal;
  fits = fits;
  asked = asked;
}
