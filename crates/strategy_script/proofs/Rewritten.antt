-- A rewrite at a place: what the rule makes of the node there, put back into the term.
use Rattle.std.proofs.Common.{◌≡◌, ℕ, List, Option, Some, None, sym, ap, ◌∙◌, subst}
use Rattle.std.specs.Prelude.{Result, Ok, Err}
use Rattle.lift_tree.specs.Tree.{Tree}
use Rattle.lift_tree.specs.Places.{node_at, with_at}
use Rattle.pattern_types.specs.Judged.{and_then}
use Rattle.rewriting.specs.declared.refused.Condition.{Condition}
use Rattle.rewriting.specs.Answers.{Answer, Becomes, NoShape, NoSide}
use Rattle.rewriting.specs.Around.{Around, IsAround, around_at}
use Rattle.rewriting.specs.Keeps.{KeepsIn}
use Rattle.rewriting.specs.Laws.{PlacesHaveContexts, RewritesKeepTheWhole}
use Rattle.strategy_script.specs.declared.script.Step.{Step}
use Rattle.strategy_script.specs.declared.faults.Why.TheVariants.{NoPlace, Shape, Side}
use Rattle.strategy_script.specs.declared.faults.Fault.{Fault}
use Rattle.strategy_script.specs.declared.faults.Fault.TheVariants as fault
use Rattle.strategy_script.specs.RuleAnswers.{answer}
use Rattle.strategy_script.specs.Steps.{found, answered, rewritten}

-- what keeps the node's type, copies and value at a place keeps the whole's, in every program
pub rewrite_keeps : PlacesHaveContexts → RewritesKeepTheWhole → (a b : Around) (t r s u : Tree) (place : List ℕ) → node_at t place ≡ Some r → around_at a t place ≡ Some b → with_at t place s ≡ Some u → KeepsIn b r s → KeepsIn a t u
rewrite_keeps contexts whole a b t r s u place here around put k d h =
    let c = contexts d a t r place h here in
    let same : Some c.0 ≡ Some b = sym c.1 ∙ around in
    let equal : c.0 ≡ b = cc in
    whole d a b t r s u place h here around put (k d (subst (λ z. IsAround d z r) equal c.2))

-- the call's answer is the rule's
pub becomes : (a : Answer) (u : Tree) → a ≡ Becomes u → answered a ≡ Ok u
becomes a u e = ap answered e

pub no_shape : (a : Answer) → a ≡ NoShape → answered a ≡ Err (fault.Stops Shape)
no_shape a e = ap answered e

pub no_side : (a : Answer) (c : Condition) → a ≡ NoSide c → answered a ≡ Err (fault.Stops (Side c))
no_side a c e = ap answered e

-- what is left of a rewrite, once the rule has answered, once it is known what stands
-- around the node, once the node is
abbrev after_answer : Step → Tree → Result Tree Fault → Result Tree Fault
after_answer s t x = and_then x (λ u. found (with_at t s.place u))

abbrev after_around : Step → Tree → Tree → Option Around → Result Tree Fault
after_around s t r o = and_then (found o) (λ b. and_then (answered (answer s.rule b r)) (λ u. found (with_at t s.place u)))

abbrev after_node : Step → Around → Tree → Option Tree → Result Tree Fault
after_node s a t o = and_then (found o) (λ r. and_then (found (around_at a t s.place)) (λ b. and_then (answered (answer s.rule b r)) (λ u. found (with_at t s.place u))))

pub no_node : (s : Step) (a : Around) (t : Tree) → node_at t s.place ≡ None → rewritten s a t ≡ Err (fault.Stops NoPlace)
no_node s a t e = ap (after_node s a t) e

pub nothing_around : (s : Step) (a : Around) (t r : Tree) → node_at t s.place ≡ Some r → around_at a t s.place ≡ None → rewritten s a t ≡ Err (fault.Stops NoPlace)
nothing_around s a t r e f = ap (after_node s a t) e ∙ ap (after_around s t r) f

pub rewrites : (s : Step) (a b : Around) (t r u v : Tree) → node_at t s.place ≡ Some r → around_at a t s.place ≡ Some b → answered (answer s.rule b r) ≡ Ok u → with_at t s.place u ≡ Some v → rewritten s a t ≡ Ok v
rewrites s a b t r u v e f g h = ap (after_node s a t) e ∙ ap (after_around s t r) f ∙ ap (after_answer s t) g ∙ ap (λ (z : Option Tree). found z) h

pub stops : (s : Step) (a b : Around) (t r : Tree) (f : Fault) → node_at t s.place ≡ Some r → around_at a t s.place ≡ Some b → answered (answer s.rule b r) ≡ Err f → rewritten s a t ≡ Err f
stops s a b t r f e g h = ap (after_node s a t) e ∙ ap (after_around s t r) g ∙ ap (after_answer s t) h
