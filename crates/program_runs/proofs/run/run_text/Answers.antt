use Rattle.std.proofs.Common.{Ok, [], ◌∷◌, inl, refl, subst, sym}
use Rattle.lift_tree.specs.Launches.{Asks}
use Rattle.lift_tree.specs.Programs.{program_of}
use Rattle.lift_tree.specs.Types.{ty_of}
use Rattle.launch_file.specs.Judged.{Refuses}
use Rattle.launch_file.specs.LaunchFile as asks
use Rattle.launch_file.specs.LaunchFile.{given_by}
use Rattle.lift_tree.specs.FixedSizes.{asked}
use Rattle.lowered_tree.specs.Kinds.{asks_of}
use Rattle.strategy_script.specs.LocalSize.{local_fixed}
use Rattle.compilation.specs.Legal.{LegalOf}
use Rattle.program_runs.proofs.Admitted.{given_is_admissible}
use Rattle.program_runs.proofs.Failed.{failed_for, handed_for, source_fails, told_for}
use Rattle.program_runs.proofs.Stopped.{launch_fails}
use Rattle.program_runs.specs.Started.{LaunchOf, RunOf}
use Rattle.program_runs.specs.declared.command.Command.TheVariants.{Run}
use Rattle.fault_lines.specs.Failure.{launch_failed}
use Rattle.fault_lines.specs.Shown.{failure_of}
use Rattle.program_source.specs.Ends.{FailsFor, OnSource}
use Rattle.stages.proofs.HandedOn.{told_on}
use Rattle.stages.specs.Stages.{As}
use Rattle.program_runs.proofs.run.run_text.Goals as goal

pub read_launch-requires : goal.read_launch-requires
read_launch-requires c =
    let found = c.in_ok-compiled.ensures.found in
    c.typed_programs_are_proper.ensures c.args.program.now _ found.legal.1.0 found.read found.legal.1.1

pub run_launch-requires : goal.run_launch-requires
run_launch-requires c = given_is_admissible _ _ _ _ refl c.in-Ok.ensures.ok

pub returns-in-Err-clause-refused : goal.returns-in-Err-clause-refused
returns-in-Err-clause-refused c =
    let p = program_of c.in_ok-compiled.compiled.program in
    let found = c.in_ok-compiled.ensures.found in
    let script = c.args.script.now in
    let launch = c.args.launch.now in
    subst (FailsFor (OnSource c.args.program.now (λ q. RunOf q script launch))) (sym c.for_launch.ensures)
    (launch_fails c.args.program.now p (λ last. asks.Run (asks_of (local_fixed script) last.tree)) launch (λ q. LegalOf q script) _ c.in-Err.no found.read found.legal
    (λ well. subst (λ (a : Asks). Refuses p (asks.Run a) launch c.in-Err.no) (sym found.asked) (c.in-Err.ensures.refused well)))

pub returns-in_err-compiled-clause-refused : goal.returns-in_err-compiled-clause-refused
returns-in_err-compiled-clause-refused c =
    let text = c.args.program.now in
    let script = c.args.script.now in
    let launch = c.args.launch.now in
    told_on failure_of (FailsFor (OnSource text (λ p. RunOf p script launch))) _ _ c.from_residual.ensures.1
    (source_fails text (λ p. LegalOf p script) (λ p last. As (launch_failed p) (LaunchOf p (asks.Run (asks_of (local_fixed script) last.tree)) launch)) _ c.in_err-compiled.ensures.refused)

pub returns-in_ok-run_launch-in-Ok-clause-found : goal.returns-in_ok-run_launch-in-Ok-clause-found
returns-in_ok-run_launch-in-Ok-clause-found c =
    let compiled = c.in_ok-compiled.compiled in
    record {
      source = program_of compiled.program;
      output = ty_of compiled.output;
      asks = asked compiled.asks;
      text = compiled.text.items;
      compiled = c.in_ok-compiled.ensures.found;
      given = given_by c.in-Ok.file;
      launch_file = c.in-Ok.ensures.ok;
      run = c.in_ok-run_launch-in-Ok.ensures;
    }

pub returns-in_err-compiled-clause-exact : goal.returns-in_err-compiled-clause-exact
returns-in_err-compiled-clause-exact c =
    let text = c.args.program.now in
    let script = c.args.script.now in
    let launch = c.args.launch.now in
    told_for text (λ p. RunOf p script launch) (c.one_end.ensures (Run c.args.trace) (text ∷ script ∷ launch ∷ [])) _ _ c.from_residual.ensures.1
    (source_fails text (λ p. LegalOf p script) (λ p last. As (launch_failed p) (LaunchOf p (asks.Run (asks_of (local_fixed script) last.tree)) launch)) _ c.in_err-compiled.ensures.refused)

pub returns-in_err-run_launch-in-Ok-clause-exact : goal.returns-in_err-run_launch-in-Ok-clause-exact
returns-in_err-run_launch-in-Ok-clause-exact c =
    let text = c.args.program.now in
    let script = c.args.script.now in
    let launch = c.args.launch.now in
    handed_for text (λ p. RunOf p script launch) (c.one_end.ensures (Run c.args.trace) (text ∷ script ∷ launch ∷ [])) _ _ c.from_residual-in_err-run_launch-in-Ok.ensures.1 (inl refl)

pub returns-in-Err-clause-exact : goal.returns-in-Err-clause-exact
returns-in-Err-clause-exact c =
    let script = c.args.script.now in
    let launch = c.args.launch.now in
    let p = program_of c.in_ok-compiled.compiled.program in
    let found = c.in_ok-compiled.ensures.found in
    failed_for c.args.program.now (λ q. RunOf q script launch) (c.one_end.ensures (Run c.args.trace) (c.args.program.now ∷ script ∷ launch ∷ [])) (failure_of c.for_launch.result)
    (subst (FailsFor (OnSource c.args.program.now (λ q. RunOf q script launch))) (sym c.for_launch.ensures)
    (launch_fails c.args.program.now p (λ last. asks.Run (asks_of (local_fixed script) last.tree)) launch (λ q. LegalOf q script) _ c.in-Err.no found.read found.legal
    (λ well. subst (λ (a : Asks). Refuses p (asks.Run a) launch c.in-Err.no) (sym found.asked) (c.in-Err.ensures.refused well))))

pub returns-in_ok-run_launch-in-Ok-clause-exact : goal.returns-in_ok-run_launch-in-Ok-clause-exact
returns-in_ok-run_launch-in-Ok-clause-exact c = λ why cause.
    let found = c.in_ok-compiled.ensures.found in
    let given = given_by c.in-Ok.file in
    let p = program_of c.in_ok-compiled.compiled.program in
    let started = subst (λ (a : Asks). LaunchOf p (asks.Run a) c.args.launch.now (Ok given)) (sym found.asked) c.in-Ok.ensures.ok in
    (c.one_end.ensures (Run c.args.trace) (c.args.program.now ∷ c.args.script.now ∷ c.args.launch.now ∷ [])).none why (_, found.read.is, found.read.within, (tt, (given, (found.last, found.legal, started)))) cause
