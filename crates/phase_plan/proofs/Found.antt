-- What is found of the phases of a map over work-groups.
use Rattle.std.proofs.Common.{◌≡◌, ◌∙◌, ℕ, Bool, List, subst, subst₂}
use Rattle.std.specs.Prelude.{All}
use Rattle.barrier_placement.specs.Fencing.{InOrder, fence}
use Rattle.barrier_placement.specs.Needed.{Needed, NeededBy}
use Rattle.barrier_placement.specs.declared.placing.Barrier.{Barrier}
use Rattle.barrier_placement.specs.declared.touches.Touch.{Touch}
use Rattle.phase_plan.specs.Phases.{ArePhasesOf}

pub are_phases : (all : List Touch) (many : ℕ) (once : Bool) (count : ℕ) (touches placed : List Touch) (barriers : List Barrier) → count ≡ many → touches ≡ all → placed ≡ touches
    → Needed placed once count (fence count barriers) → InOrder count barriers → All (λ b. NeededBy placed once count (fence count barriers) b.before b.pair) barriers
    → ArePhasesOf all many once count touches barriers
are_phases all many once count touches placed barriers of_all uses same needed in_order pairs =
    record {
      count = of_all;
      touches = uses;
      needed = subst₂ (λ (xs : List Touch) (n : ℕ). Needed xs once n (fence n barriers)) (same ∙ uses) of_all needed;
      in_order = subst (λ (n : ℕ). InOrder n barriers) of_all in_order;
      pairs = subst₂ (λ (xs : List Touch) (n : ℕ). All (λ b. NeededBy xs once n (fence n barriers) b.before b.pair) barriers) (same ∙ uses) of_all pairs;
    }
