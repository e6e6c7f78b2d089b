-- The terms of a script.
use Rattle.std.specs.Prelude.{◌≡◌, ℕ, ◌+◌, List, [], ◌∷◌, ◌++◌, Option, Some, None, Result, Ok, Err, if◌then◌else◌, nat_lt, map}
use Rattle.lift_tree.specs.declared.typed.Typed.{Typed}
use Rattle.lift_tree.specs.Tree.{Tree, nodes, height, tree_of}
use Rattle.lift_tree.specs.Places.{node_at, with_at}
use Rattle.lift_tree.specs.Programs.{PlainProgram, program_of}
use Rattle.lift_tree.specs.WorkedOut.{range_of}
use Rattle.lift_tree.specs.Annotations.{Annotation, annotation_of, IsTyped}
use Rattle.lift_tree.specs.Types.{PlainTy}
use Rattle.lift_tree.specs.Typing.{HasOutput, declared_by}
use Rattle.lift_tree.specs.Renumbering.{IsRenumberable}
use Rattle.pattern_types.specs.declared.refusal.TypeRefusal.{TypeRefusal}
use Rattle.pattern_types.specs.declared.refusal.TypeRefusal.TheVariants as refusal
use Rattle.lift_tree.specs.Belonging.{IsProper}
use Rattle.pattern_types.specs.Judged.{and_then, counted, program_judged}
use Rattle.rewriting.specs.Around.{Around, around_at}
use Rattle.rewriting.specs.Answers.{Answer, Becomes, NoShape, NoSide}
use Rattle.rewriting.specs.Keeps.{Keeps}
use Rattle.strategy_script.specs.declared.script.Step.{Step}
use Rattle.strategy_script.specs.declared.faults.Why.TheVariants.{NoPlace, Shape, Side}
use Rattle.strategy_script.specs.declared.faults.StepLimit.{StepLimit}
use Rattle.strategy_script.specs.declared.faults.StepLimit.TheVariants.{Nodes, Depth, Types}
use Rattle.strategy_script.specs.declared.faults.Fault.{Fault}
use Rattle.strategy_script.specs.declared.faults.Fault.TheVariants.{Stops, Passes, Memory}
use Rattle.strategy_script.specs.declared.faults.StepNo.{StepNo}
use Rattle.strategy_script.specs.declared.faults.StepNo.TheVariants as no
use Rattle.strategy_script.specs.RuleAnswers.{answer}

-- ---- one rewrite
abbrev pub found : {A : Type 0} → Option A → Result A Fault
found (Some a) = Ok a
found None = Err (Stops NoPlace)

-- what the rule makes of the node
abbrev pub answered : Answer → Result Tree Fault
answered (Becomes u) = Ok u
answered NoShape = Err (Stops Shape)
answered (NoSide c) = Err (Stops (Side c))

-- the term with what the step's rule makes of the node at the step's place,
-- where this stands around the term
abbrev pub rewritten : Step → Around → Tree → Result Tree Fault
rewritten s a t =
    and_then (found (node_at t s.place)) (λ r.
    and_then (found (around_at a t s.place)) (λ b.
    and_then (answered (answer s.rule b r)) (λ u. found (with_at t s.place u))))

-- ---- limits
abbrev pub at_most : ℕ → StepLimit → ℕ → Result (Unit {0}) Fault
at_most most which n = if nat_lt most n then Err (Passes which n) else Ok tt

-- the nodes, then the height; counts stand still at 2^64 - 1
abbrev pub limited : Tree → Result (Unit {0}) Fault
limited t =
    and_then (at_most 4096 Nodes (counted (nodes t))) (λ _. at_most 256 Depth (counted (height t)))

-- ---- one step
-- a term and the types of its nodes
pub record State : Type 0 where
  pub tree : Tree
  pub types : Annotation

-- a typed term in memory
abbrev pub state_of : Typed → State
state_of t = record { tree = tree_of t.term; types = annotation_of t.types }

-- what stands around the whole
abbrev pub around_whole : PlainProgram → State → Around
around_whole p s = record { names = map range_of p.sizes; binders = []; types = s.types }

-- what stands around a typed term in memory
abbrev pub whole : Typed → Around
whole t = around_whole (program_of t.program) (state_of t)

-- a limit on types that the term passes; what a rule makes is never ill-typed
abbrev pub type_fault : TypeRefusal → Fault
type_fault (refusal.Limit l s c) = Passes (Types l) c
type_fault (refusal.IllTyped s r) = Memory
type_fault refusal.Memory = Memory

-- the term and its types, or the limit on types that it passes
abbrev pub with_types : Tree → Result Annotation TypeRefusal → Result State Fault
with_types t (Ok n) = Ok (record { tree = t; types = n })
with_types t (Err e) = Err (type_fault e)

-- the term after a step, with its types: its nodes, its height and the limits on
-- types are judged in this order
abbrev pub stepped : PlainProgram → Step → State → Result State Fault
stepped p step s =
    and_then (rewritten step (around_whole p s) s.tree)
    (λ t. and_then (limited t) (λ _. with_types t (program_judged p t)))

-- ---- a whole script
-- the refusal of the step of this number
abbrev pub refusal_of : ℕ → Fault → StepNo
refusal_of k (Stops why) = no.Inapplicable k why
refusal_of k (Passes l n) = no.Limit l k n
refusal_of k Memory = no.Memory

-- the term, or the refusal of the step of this number
abbrev pub at_step : ℕ → Result State Fault → Result State StepNo
at_step k (Ok t) = Ok t
at_step k (Err f) = Err (refusal_of k f)

-- the term, which stands behind k steps, and the term after each further step; or
-- the first step that isn't made
abbrev pub terms_from : PlainProgram → List Step → ℕ → State → Result (List State) StepNo
terms_from p [] k s = Ok (s ∷ [])
terms_from p (step ∷ steps) k s =
    and_then (at_step (k + 1) (stepped p step s)) (λ t.
    and_then (terms_from p steps (k + 1) t) (λ ts. Ok (s ∷ ts)))

-- the terms of a script: the source, then the term after each step
abbrev pub terms_of : PlainProgram → List Step → State → Result (List State) StepNo
terms_of p steps s = terms_from p steps 0 s

-- this is the last of them
pub record IsLastTerm (p : PlainProgram) (steps : List Step) (s last : State) : Type 0 where
  pub front : List State
  pub made : terms_of p steps s ≡ Ok (front ++ last ∷ [])

-- a typed term of the same program, with the source's type and value; it copies nothing but arrays
-- where the source does
pub record IsAfter (source t : Typed) : Type 0 where
  pub program : program_of t.program ≡ program_of source.program
  pub typed : IsTyped t
  pub keeps : Keeps (declared_by (program_of source.program)) [] (tree_of source.term)
      (tree_of t.term)

-- a step may be made of it
pub record IsReady (t : Typed) : Type 0 where
  pub proper : IsProper (program_of t.program)
  pub typed : IsTyped t
  pub small : IsRenumberable (tree_of t.term)

-- the term has an output's type
pub record HasSomeOutput (p : PlainProgram) (t : Tree) : Type 0 where
  pub ty : PlainTy
  pub is : HasOutput p t ty
