use Rattle.std.proofs.Common.{[], ◌∷◌, inl, refl, subst, sym}
use Rattle.lift_tree.specs.Launches.{Asks}
use Rattle.lift_tree.specs.Programs.{program_of}
use Rattle.lift_tree.specs.Typing.{declared_by}
use Rattle.launch_file.specs.Judged.{Refuses}
use Rattle.launch_file.specs.LaunchFile as asks
use Rattle.launch_file.specs.LaunchFile.{IsLaunchFile, given_by}
use Rattle.lowered_tree.specs.Kinds.{asks_of}
use Rattle.strategy_script.specs.LocalSize.{local_fixed}
use Rattle.compilation.specs.Legal.{LegalOf}
use Rattle.program_runs.proofs.Admitted.{launch_is_admissible}
use Rattle.program_runs.proofs.Costs.{given_bases, last_tells, launch_of_placed}
use Rattle.program_runs.proofs.Failed.{failed_for, handed_for, source_fails, told_for}
use Rattle.program_runs.proofs.Stopped.{launch_fails}
use Rattle.program_runs.specs.Started.{CostOf, LaunchOf}
use Rattle.program_runs.specs.declared.command.Command.TheVariants.{Cost}
use Rattle.fault_lines.specs.Failure.{launch_failed}
use Rattle.fault_lines.specs.Shown.{failure_of}
use Rattle.program_source.specs.Ends.{FailsFor, OnSource}
use Rattle.stages.proofs.HandedOn.{told_on}
use Rattle.stages.specs.Stages.{As}
use Rattle.program_runs.proofs.cost.cost_text.Goals as goal

pub read_launch-requires : goal.read_launch-requires
read_launch-requires c =
    let found = c.in_ok-found.ensures.found in
    c.typed_programs_are_proper.ensures c.args.program.now _ found.legal.1.0 found.read found.legal.1.1

pub cost_at-requires : goal.cost_at-requires
cost_at-requires c =
    let p = program_of c.in_ok-found.found.program in
    let found = c.in_ok-found.ensures.found in
    let local = local_fixed c.args.script.now in
    let g = given_by c.in-Ok.file in
    let file = subst (λ (a : Asks). IsLaunchFile p (asks.Cost a) c.args.launch.now g) (sym found.asked) c.in-Ok.ensures.ok in
    let same = given_bases c.bases_come_back.ensures p (asks_of local found.last.tree) c.args.launch.now g found.accepted.legal.declared.names file in
    let rows = c.rows_are_on_top.ensures.asked (declared_by p) found.last.tree found.last.types local found.accepted.legal found.accepted.copies in
    record {
      arrays = found.term.arrays;
      launch = launch_of_placed (declared_by p) local found.last c.in_ok-found.found.placed g.bases g.launch found.term same (launch_is_admissible p (asks.Cost (asks_of local found.last.tree)) c.args.launch.now g found.last.tree found.last.types rows file);
    }

pub returns-in_ok-cost_at-in-Ok-clause-found : goal.returns-in_ok-cost_at-in-Ok-clause-found
returns-in_ok-cost_at-in-Ok-clause-found c =
    let p = program_of c.in_ok-found.found.program in
    let found = c.in_ok-found.ensures.found in
    let local = local_fixed c.args.script.now in
    let g = given_by c.in-Ok.file in
    let file = subst (λ (a : Asks). IsLaunchFile p (asks.Cost a) c.args.launch.now g) (sym found.asked) c.in-Ok.ensures.ok in
    let same = given_bases c.bases_come_back.ensures p (asks_of local found.last.tree) c.args.launch.now g found.accepted.legal.declared.names file in
    record {
      source = p;
      read = found.read;
      last = found.last;
      legal = found.legal;
      given = g;
      launch_file = file;
      told = last_tells (declared_by p) local found.last c.in_ok-found.found.placed g.bases g.launch c.args.items _ found.term same c.in_ok-cost_at-in-Ok.ensures;
    }

pub returns-in-Err-clause-refused : goal.returns-in-Err-clause-refused
returns-in-Err-clause-refused c =
    let p = program_of c.in_ok-found.found.program in
    let found = c.in_ok-found.ensures.found in
    let script = c.args.script.now in
    let launch = c.args.launch.now in
    subst (FailsFor (OnSource c.args.program.now (λ q. CostOf q script launch))) (sym c.for_launch.ensures)
    (launch_fails c.args.program.now p (λ last. asks.Cost (asks_of (local_fixed script) last.tree)) launch (λ q. LegalOf q script) _ c.in-Err.no found.read found.legal
    (λ well. subst (λ (a : Asks). Refuses p (asks.Cost a) launch c.in-Err.no) (sym found.asked) (c.in-Err.ensures.refused well)))

pub returns-in_err-found-clause-refused : goal.returns-in_err-found-clause-refused
returns-in_err-found-clause-refused c =
    let text = c.args.program.now in
    let script = c.args.script.now in
    let launch = c.args.launch.now in
    told_on failure_of (FailsFor (OnSource text (λ p. CostOf p script launch))) _ _ c.from_residual.ensures.1
    (source_fails text (λ p. LegalOf p script) (λ p last. As (launch_failed p) (LaunchOf p (asks.Cost (asks_of (local_fixed script) last.tree)) launch)) _ c.in_err-found.ensures.refused)

pub returns-in_err-found-clause-exact : goal.returns-in_err-found-clause-exact
returns-in_err-found-clause-exact c =
    let text = c.args.program.now in
    let script = c.args.script.now in
    let launch = c.args.launch.now in
    told_for text (λ p. CostOf p script launch) (c.one_end.ensures (Cost c.args.items) (text ∷ script ∷ launch ∷ [])) _ _ c.from_residual.ensures.1
    (source_fails text (λ p. LegalOf p script) (λ p last. As (launch_failed p) (LaunchOf p (asks.Cost (asks_of (local_fixed script) last.tree)) launch)) _ c.in_err-found.ensures.refused)

pub returns-in_err-cost_at-in-Ok-clause-exact : goal.returns-in_err-cost_at-in-Ok-clause-exact
returns-in_err-cost_at-in-Ok-clause-exact c =
    let text = c.args.program.now in
    let script = c.args.script.now in
    let launch = c.args.launch.now in
    handed_for text (λ p. CostOf p script launch) (c.one_end.ensures (Cost c.args.items) (text ∷ script ∷ launch ∷ [])) _ _ c.from_residual-in_err-cost_at-in-Ok.ensures.1 (inl refl)

pub returns-in-Err-clause-exact : goal.returns-in-Err-clause-exact
returns-in-Err-clause-exact c =
    let script = c.args.script.now in
    let launch = c.args.launch.now in
    let p = program_of c.in_ok-found.found.program in
    let found = c.in_ok-found.ensures.found in
    failed_for c.args.program.now (λ q. CostOf q script launch) (c.one_end.ensures (Cost c.args.items) (c.args.program.now ∷ script ∷ launch ∷ [])) (failure_of c.for_launch.result)
    (subst (FailsFor (OnSource c.args.program.now (λ q. CostOf q script launch))) (sym c.for_launch.ensures)
    (launch_fails c.args.program.now p (λ last. asks.Cost (asks_of (local_fixed script) last.tree)) launch (λ q. LegalOf q script) _ c.in-Err.no found.read found.legal
    (λ well. subst (λ (a : Asks). Refuses p (asks.Cost a) launch c.in-Err.no) (sym found.asked) (c.in-Err.ensures.refused well))))

pub returns-in_ok-cost_at-in-Ok-clause-exact : goal.returns-in_ok-cost_at-in-Ok-clause-exact
returns-in_ok-cost_at-in-Ok-clause-exact c = λ why cause.
    let found = c.in_ok-found.ensures.found in
    let g = given_by c.in-Ok.file in
    let p = program_of c.in_ok-found.found.program in
    let started = subst (λ (a : Asks). IsLaunchFile p (asks.Cost a) c.args.launch.now g) (sym found.asked) c.in-Ok.ensures.ok in
    (c.one_end.ensures (Cost c.args.items) (c.args.program.now ∷ c.args.script.now ∷ c.args.launch.now ∷ [])).none why (_, found.read.is, found.read.within, (tt, (g, (found.last, found.legal, started)))) cause
