-- The law of `accesses_of_an_event`, by the lemmas beside.
use Rattle.std.proofs.Common.{◌≡◌, List, [], ◌∷◌, Some, sym, ap, ◌∙◌, subst, ⊎_elim, arith}
use Rattle.std.specs.Prelude.{slice_get}
use Rattle.kernel_tree.specs.Faults.{Access, Among}
use Rattle.kernel_tree.proofs.Accessed.{of_one_event}
use Rattle.kernel_tree.proofs.Lanes.{accesses_few, accesses_differ, races_in_a_lane}
use Rattle.kernel_tree.proofs.laws.accesses_of_an_event.Goals as goal

only : (xs : List Access) (a b : Access) → xs ≡ a ∷ [] → Among b xs → slice_get xs 0 ≡ Some b
only xs a b e m = ap (λ ys. slice_get ys 0) e ∙ ⊎_elim (λ q. ap Some (sym q)) (λ z. absurd z) (subst (Among b) e m)

pub returns-clause-few : goal.returns-clause-few
returns-clause-few c = accesses_few

pub returns-clause-differ : goal.returns-clause-differ
returns-clause-differ c = accesses_differ

pub returns-clause-lanes : goal.returns-clause-lanes
returns-clause-lanes c = races_in_a_lane

pub returns-clause-alike : goal.returns-clause-alike
returns-clause-alike c = of_one_event

pub returns-clause-one : goal.returns-clause-one
returns-clause-one c = λ d s es e a one r. ((r.0, r.1, r.2, only _ a r.1 one r.3, r.4), λ n lt. absurd (omega arith))
