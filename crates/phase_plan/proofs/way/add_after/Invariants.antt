use Rattle.std.proofs.Common.{◌≡◌, ◌∷◌, ◌++◌, drop}
use Rattle.std.specs.Prelude.{map}
use Rattle.phase_plan.proofs.way.add_after.Given as goal

abbrev pub invariant-loop-way : goal.invariant-loop-way
invariant-loop-way l = l.all.items ++ map (λ w. l.second ∷ w) (drop l.way-index l.ways) ≡ l.initial.all.items ++ map (λ w. l.second ∷ w) l.ways
