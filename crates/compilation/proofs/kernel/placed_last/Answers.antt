use Rattle.std.proofs.lemmas.Result.{IfOk-weaker}
use Rattle.std.proofs.Common.{◌∙◌, Ok, ap, subst}
use Rattle.std.specs.Prelude.{IfErr, IfOk}
use Rattle.lift_tree.specs.FixedSizes.{size_fixed}
use Rattle.lift_tree.specs.Programs.{program_of}
use Rattle.lift_tree.specs.Typing.{declared_by}
use Rattle.lowered_tree.specs.Named.{declared_of}
use Rattle.program_source.specs.Program.{StopsFor}
use Rattle.strategy_script.specs.Steps.{State, state_of}
use Rattle.compilation.specs.Legal.{CompilesTerm, lowered_state}
use Rattle.compilation.specs.Placed.{AreOfLast, ArePlaced}
use Rattle.compilation.proofs.Legality.{accepted_term, sound_as}
use Rattle.compilation.proofs.kernel.placed_last.Goals as goal

pub returns-clause-placed : goal.returns-clause-placed
returns-clause-placed c =
    let h = c.in_ok-lowered.ensures in
    let local = size_fixed c.args.local in
    let d = declared_by (program_of c.args.last.now.program) in
    IfOk-weaker c.place.result (ArePlaced c.in_ok-lowered.lowered local) (AreOfLast d local (state_of c.args.last.now))
    (λ x are. record { declared = ap declared_of are.lowered ∙ h.declared; term = ap lowered_state are.lowered ∙ h.state; fixed = are.fixed; arrays = are.arrays }) c.place.ensures.placed

pub returns-clause-accepted : goal.returns-clause-accepted
returns-clause-accepted c =
    let h = c.in_ok-lowered.ensures in
    let s = lowered_state c.in_ok-lowered.lowered in
    let last = state_of c.args.last.now in
    let p = program_of c.args.last.now.program in
    let local = size_fixed c.args.local in
    let sound = sound_as (declared_of c.in_ok-lowered.lowered) (declared_by p) s last h.declared h.state h.sound in
    IfOk-weaker c.place.result _ _ (λ x compiled. accepted_term p local last sound (subst (λ (z : State). CompilesTerm local z (Ok z)) h.state compiled)) c.place.ensures.compiles

pub returns-clause-compiles : goal.returns-clause-compiles
returns-clause-compiles c =
    subst (λ (s : State). IfOk c.place.result (λ _. CompilesTerm (size_fixed c.args.local) s (Ok s))) c.in_ok-lowered.ensures.state c.place.ensures.compiles

pub returns-clause-refused : goal.returns-clause-refused
returns-clause-refused c =
    subst (λ (s : State). IfErr c.place.result (StopsFor (CompilesTerm (size_fixed c.args.local) s))) c.in_ok-lowered.ensures.state c.place.ensures.refused
