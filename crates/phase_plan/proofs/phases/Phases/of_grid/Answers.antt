use Rattle.std.proofs.Common.{ℕ, List, ◌<◌, ◌∙◌, sym, subst₂, arith}
use Rattle.std.specs.Prelude.{All}
use Rattle.barrier_placement.specs.declared.touches.Touch.{Touch}
use Rattle.lowering.specs.Terms.{term_of}
use Rattle.group_form.specs.GridTheorem.{GridCanBePlaced, grid_phase_count}
use Rattle.group_form.specs.GridTerms.{grid_touches}
use Rattle.phase_plan.proofs.Found.{are_phases}
use Rattle.phase_plan.proofs.phases.Phases.of_grid.Goals as goal

pub place-requires-clause-some : goal.place-requires-clause-some
place-requires-clause-some c =
    let placed : GridCanBePlaced (term_of c.args.root.now) = c.grids_keep.ensures.placed (term_of c.args.root.now) c.requires in
    let some = placed.some in
    let phases = c.in_ok-count.ensures.phases in
    omega arith

pub place-requires-clause-within : goal.place-requires-clause-within
place-requires-clause-within c =
    let placed : GridCanBePlaced (term_of c.args.root.now) = c.grids_keep.ensures.placed (term_of c.args.root.now) c.requires in
    subst₂ (λ (xs : List Touch) (n : ℕ). All (λ x. x.phase < n) xs) (sym (c.deref.ensures.value ∙ c.in_ok-count.ensures.touches)) (sym c.in_ok-count.ensures.phases) placed.within

pub returns : goal.returns
returns c = are_phases (grid_touches (term_of c.args.root.now)) (grid_phase_count (term_of c.args.root.now)) c.args.once _ _ _ _ c.in_ok-count.ensures.phases c.in_ok-count.ensures.touches c.deref.ensures.value c.in_ok-barriers.ensures.needed c.in_ok-barriers.ensures.in_order c.in_ok-barriers.ensures.pairs
