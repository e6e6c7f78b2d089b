-- One step: the rewrite, the limits, the types.
use Rattle.std.proofs.Common.{◌≡◌, ℕ, ◌≤◌, [], refl, sym, ap, ◌∙◌, subst, arith}
use Rattle.std.specs.Prelude.{IfOk, Result, Ok, Err, Bool, true, false, if◌then◌else◌, nat_lt}
use Rattle.std.proofs.lemmas.Bool.{ltb-false}
use Rattle.lift_tree.specs.declared.program.Program.{Program}
use Rattle.lift_tree.specs.declared.term.Term.{Term}
use Rattle.lift_tree.specs.declared.typed.Typed.{Typed}
use Rattle.lift_tree.specs.Programs.{PlainProgram, program_of}
use Rattle.lift_tree.specs.Types.{PlainTy}
use Rattle.lift_tree.specs.Typing.{declared_by, HasOutput}
use Rattle.lift_tree.specs.Tree.{Tree, nodes, height, tree_of}
use Rattle.lift_tree.specs.Annotations.{AnnotatedIsTyped, Annotation, annotation_of, type_in, IsTyped}
use Rattle.lift_tree.specs.Renumbering.{IsRenumberable}
use Rattle.lift_tree.specs.Belonging.{IsProper, IsTermOf}
use Rattle.pattern_types.specs.declared.refusal.TypeRefusal.{TypeRefusal}
use Rattle.pattern_types.specs.Judged.{and_then, counted, program_judged}
use Rattle.rewriting.specs.Around.{IsAround}
use Rattle.rewriting.specs.Keeps.{Keeps, KeepsIn}
use Rattle.strategy_script.specs.declared.script.Step.{Step}
use Rattle.strategy_script.specs.declared.faults.StepLimit.{StepLimit}
use Rattle.strategy_script.specs.declared.faults.StepLimit.TheVariants.{Nodes, Depth}
use Rattle.strategy_script.specs.declared.faults.Fault.{Fault}
use Rattle.strategy_script.specs.declared.faults.Fault.TheVariants as fault
use Rattle.strategy_script.specs.Steps.{State, state_of, around_whole, HasSomeOutput, IsAfter, IsReady, whole, rewritten, at_most, limited, type_fault, with_types, stepped}
use Rattle.strategy_script.proofs.Small.{low_renumberable}

-- ---- a program's copy
pub proper_same : (p q : Program) → program_of q ≡ program_of p → IsProper (program_of p) → IsProper (program_of q)
proper_same p q e h = subst IsProper (sym e) h

-- ---- the whole term
-- what stands around it
pub whole_around : (s : Typed) → IsTyped s → IsAround (declared_by (program_of s.program)) (whole s) (tree_of s.term)
whole_around s h = record { declared = h.declared; names = refl; binders = tt; nodes = h.nodes }

-- what keeps the term's type has an output's
pub rewritten_has_output : AnnotatedIsTyped → (s : Typed) (u : Tree) → IsTyped s → KeepsIn (whole s) (tree_of s.term) u → HasOutput (program_of s.program) u (type_in (annotation_of s.types))
rewritten_has_output annotated s u h k =
    let d = declared_by (program_of s.program) in
    let typed = annotated d [] (tree_of s.term) (annotation_of s.types) h.nodes in
    record { declared = h.declared; typed = (k d (whole_around s h)).typed (type_in (annotation_of s.types)) typed; output = h.output }

pub some_output : (p : PlainProgram) (u : Tree) (a : PlainTy) → HasOutput p u a → HasSomeOutput p u
some_output p u a h = record { ty = a; is = h }

-- ---- the same of a copy of the program
pub output_same : (p q : Program) (u : Tree) → program_of q ≡ program_of p → HasSomeOutput (program_of p) u → HasSomeOutput (program_of q) u
output_same p q u e h = subst (λ (r : PlainProgram). HasSomeOutput r u) (sym e) h

pub term_of_same : (p q : Program) (u : Tree) → program_of q ≡ program_of p → IsTermOf (program_of p) u → IsTermOf (program_of q) u
term_of_same p q u e h = subst (λ (r : PlainProgram). IsTermOf r u) (sym e) h

-- ---- one step
abbrev unless_more : Bool → StepLimit → ℕ → Result (Unit {0}) Fault
unless_more b w n = if b then Err (fault.Passes w n) else Ok tt

at_most_fits : (m : ℕ) (w : StepLimit) (n : ℕ) → at_most m w n ≡ Ok tt → n ≤ m
at_most_fits m w n e = by_test (nat_lt m n) refl e where
  by_test : (b : Bool) → nat_lt m n ≡ b → unless_more b w n ≡ Ok tt → n ≤ m
  by_test true h f = absurd (cc)
  by_test false h f = ltb-false m n h

second_ok : (r s : Result (Unit {0}) Fault) → and_then r (λ _. s) ≡ Ok tt → s ≡ Ok tt
second_ok (Ok u) s e = e
second_ok (Err f) s e = absurd (cc)

pub limited_low : (t : Tree) → limited t ≡ Ok tt → height t ≤ 4096
limited_low t e =
    let h : counted (height t) ≤ 256 = at_most_fits 256 Depth (counted (height t)) (second_ok (at_most 4096 Nodes (counted (nodes t))) (at_most 256 Depth (counted (height t))) e) in
    omega arith

then_limits : (p : PlainProgram) (step : Step) (s : State) (r : Result Tree Fault) → rewritten step (around_whole p s) s.tree ≡ r → stepped p step s ≡ and_then r (λ t. and_then (limited t) (λ _. with_types t (program_judged p t)))
then_limits p step s r e = ap (λ (x : Result Tree Fault). and_then x (λ t. and_then (limited t) (λ _. with_types t (program_judged p t)))) e

then_types : (p q : PlainProgram) (u : Tree) (r : Result State Fault) → limited u ≡ Ok tt → q ≡ p → with_types u (program_judged q u) ≡ r → and_then (limited u) (λ _. with_types u (program_judged p u)) ≡ r
then_types p q u r l e j =
    ap (λ (x : Result (Unit {0}) Fault). and_then x (λ _. with_types u (program_judged p u))) l
    ∙ ap (λ (z : PlainProgram). with_types u (program_judged z u)) (sym e)
    ∙ j

pub made : (p q : PlainProgram) (step : Step) (s : State) (u : Tree) (n : Annotation) → rewritten step (around_whole p s) s.tree ≡ Ok u → limited u ≡ Ok tt → q ≡ p → program_judged q u ≡ Ok n → stepped p step s ≡ Ok (record { tree = u; types = n })
made p q step s u n r l e j = then_limits p step s (Ok u) r ∙ then_types p q u (Ok (record { tree = u; types = n })) l e (ap (with_types u) j)

pub not_rewritten : (p : PlainProgram) (step : Step) (s : State) (f : Fault) → rewritten step (around_whole p s) s.tree ≡ Err f → stepped p step s ≡ Err f
not_rewritten p step s f r = then_limits p step s (Err f) r

pub not_limited : (p : PlainProgram) (step : Step) (s : State) (u : Tree) (f : Fault) → rewritten step (around_whole p s) s.tree ≡ Ok u → limited u ≡ Err f → stepped p step s ≡ Err f
not_limited p step s u f r l = then_limits p step s (Ok u) r ∙ ap (λ (x : Result (Unit {0}) Fault). and_then x (λ _. with_types u (program_judged p u))) l

pub not_typed : (p q : PlainProgram) (step : Step) (s : State) (u : Tree) (f : Fault) → rewritten step (around_whole p s) s.tree ≡ Ok u → limited u ≡ Ok tt → q ≡ p → with_types u (program_judged q u) ≡ Err f → stepped p step s ≡ Err f
not_typed p q step s u f r l same j = then_limits p step s (Ok u) r ∙ then_types p q u (Err f) l same j

-- a limit on types that the term passes
pub with_limit : (u : Tree) (r : Result Annotation TypeRefusal) (e : TypeRefusal) → r ≡ Err e → with_types u r ≡ Err (type_fault e)
with_limit u r e h = ap (with_types u) h

-- a term with an output's type is never ill-typed
pub no_output : (p : PlainProgram) (u : Tree) → HasSomeOutput p u → ((a : PlainTy) → ¬ HasOutput p u a) → ⊥
no_output p u h k = k h.ty h.is

-- the step of a typed term
pub steps_to : (s t : Typed) (q : Program) (u : Term) (step : Step) → rewritten step (whole s) (tree_of s.term) ≡ Ok (tree_of u) → limited (tree_of u) ≡ Ok tt → program_of q ≡ program_of s.program
    → program_judged (program_of q) (tree_of u) ≡ Ok (annotation_of t.types) → t.term ≡ u → stepped (program_of s.program) step (state_of s) ≡ Ok (state_of t)
steps_to s t q u step r l e j te =
    made (program_of s.program) (program_of q) step (state_of s) (tree_of u) (annotation_of t.types) r l e j
    ∙ ap (λ (z : Term). Ok (record { tree = tree_of z; types = annotation_of t.types })) (sym te)

-- the term after a step
pub is_after : (s t : Typed) (q : Program) (u : Term) → program_of q ≡ program_of s.program → t.program ≡ q → t.term ≡ u → IsTyped s → IsTyped t → KeepsIn (whole s) (tree_of s.term) (tree_of u) → IsAfter s t
is_after s t q u e pe te h ht k =
    let d = declared_by (program_of s.program) in
    record { program = ap program_of pe ∙ e; typed = ht; keeps = subst (λ (z : Term). Keeps d [] (tree_of s.term) (tree_of z)) (sym te) (k d (whole_around s h)) }

pub is_ready : (s t : Typed) (q : Program) (u : Term) → program_of q ≡ program_of s.program → t.program ≡ q → t.term ≡ u → IsReady s → IsTyped t → limited (tree_of u) ≡ Ok tt → IsTermOf (program_of s.program) (tree_of u) → IsReady t
is_ready s t q u e pe te h ht l k = record {
  proper = subst (λ (r : Program). IsProper (program_of r)) (sym pe) (proper_same s.program q e h.proper);
  typed = ht;
  small = subst (λ (z : Term). IsRenumberable (tree_of z)) (sym te) (low_renumberable _ _ (tree_of u) k (limited_low (tree_of u) l));
}

-- where there is one
pub all_ready : (s : Typed) (q : Program) (u : Term) (r : Result Typed Fault) → program_of q ≡ program_of s.program → IsReady s → limited (tree_of u) ≡ Ok tt → IsTermOf (program_of s.program) (tree_of u)
    → IfOk r (λ t. (t.program ≡ q) × (t.term ≡ u)) → IfOk r IsTyped → IfOk r (λ t. IsReady t)
all_ready s q u (Ok t) e h l k same typed = is_ready s t q u e same.0 same.1 h typed l k
all_ready s q u (Err f) e h l k same typed = tt
