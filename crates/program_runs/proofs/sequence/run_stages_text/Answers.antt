use Rattle.std.proofs.Common.{◌∙◌, Ok, List, [], ◌∷◌, ap, inl, map, refl, subst, sym}
use Rattle.lift_tree.specs.Programs.{program_of}
use Rattle.lift_tree.specs.Types.{ty_of}
use Rattle.launch_file.specs.Stages.{IsStagesFile, RefusesStages}
use Rattle.launch_file.specs.StagesShown.{given_in_order}
use Rattle.launch_file.specs.LaunchFile.{PlainAsk, ask_of}
use Rattle.strategy_script.specs.LocalSize.{local_fixed}
use Rattle.fault_lines.specs.Failure.{launch_failed}
use Rattle.fault_lines.specs.Shown.{failure_of}
use Rattle.program_source.specs.Ends.{FailsFor, OnSource}
use Rattle.stages.proofs.HandedOn.{told_on}
use Rattle.stages.specs.Stages.{As}
use Rattle.compilation.specs.Sequence.{SequenceOf, outline_in, outline_of}
use Rattle.compilation.specs.declared.sequence.KernelOutline.{KernelOutline}
use Rattle.program_runs.specs.declared.command.Command.TheVariants.{RunStages}
use Rattle.program_runs.specs.Started.{LaunchesOf, RunStagesOf, asks_in_order}
use Rattle.program_runs.proofs.Admitted.{stages_are_admissible}
use Rattle.program_runs.proofs.Failed.{failed_for, handed_for, source_fails, told_for}
use Rattle.program_runs.proofs.Stopped.{stages_fail}
use Rattle.program_runs.proofs.sequence.run_stages_text.Goals as goal

pub read_stages-requires : goal.read_stages-requires
read_stages-requires c =
    let found = c.in_ok-compiled.ensures.found in
    c.typed_programs_are_proper.ensures c.args.program.now _ found.compiled.1.0 found.read found.compiled.1.1

pub run_sequence-requires : goal.run_sequence-requires
run_sequence-requires c =
    let compiled = c.in_ok-compiled.compiled in
    let p = program_of compiled.program in
    let asked = ap (map ask_of) c.deref-2.ensures.value ∙ c.in_ok-asks.ensures ∙ ap (λ (ks : List KernelOutline). asks_in_order (map outline_of ks)) c.deref.ensures.value in
    stages_are_admissible p (map outline_of compiled.outlines.items) c.args.launch.now _ (subst (λ (a : List PlainAsk). IsStagesFile p a c.args.launch.now (given_in_order c.in-Ok.file)) asked c.in-Ok.ensures.ok)

pub returns-in_err-compiled-clause-refused : goal.returns-in_err-compiled-clause-refused
returns-in_err-compiled-clause-refused c =
    let text = c.args.program.now in
    let script = c.args.script.now in
    let launch = c.args.launch.now in
    told_on failure_of (FailsFor (OnSource text (λ p. RunStagesOf p script launch))) _ _ c.from_residual.ensures.1
    (source_fails text (λ p. SequenceOf p script) (λ p parts. As (launch_failed p) (LaunchesOf p (asks_in_order (map (outline_in (local_fixed script)) parts)) launch)) _ c.in_err-compiled.ensures.refused)

pub returns-in_err-compiled-clause-exact : goal.returns-in_err-compiled-clause-exact
returns-in_err-compiled-clause-exact c =
    let text = c.args.program.now in
    let script = c.args.script.now in
    let launch = c.args.launch.now in
    told_for text (λ p. RunStagesOf p script launch) (c.one_end.ensures RunStages (text ∷ script ∷ launch ∷ [])) _ _ c.from_residual.ensures.1
    (source_fails text (λ p. SequenceOf p script) (λ p parts. As (launch_failed p) (LaunchesOf p (asks_in_order (map (outline_in (local_fixed script)) parts)) launch)) _ c.in_err-compiled.ensures.refused)

pub returns-in_err-asks-clause-exact : goal.returns-in_err-asks-clause-exact
returns-in_err-asks-clause-exact c =
    let text = c.args.program.now in
    let script = c.args.script.now in
    let launch = c.args.launch.now in
    handed_for text (λ p. RunStagesOf p script launch) (c.one_end.ensures RunStages (text ∷ script ∷ launch ∷ [])) _ _ c.from_residual-in_err-asks.ensures.1 (inl refl)

pub returns-in_err-run_sequence-in-Ok-clause-exact : goal.returns-in_err-run_sequence-in-Ok-clause-exact
returns-in_err-run_sequence-in-Ok-clause-exact c =
    let text = c.args.program.now in
    let script = c.args.script.now in
    let launch = c.args.launch.now in
    handed_for text (λ p. RunStagesOf p script launch) (c.one_end.ensures RunStages (text ∷ script ∷ launch ∷ [])) _ _ c.from_residual-in_err-run_sequence-in-Ok.ensures.1 (inl refl)

pub returns-in-Err-clause-refused : goal.returns-in-Err-clause-refused
returns-in-Err-clause-refused c =
    let text = c.args.program.now in
    let script = c.args.script.now in
    let launch = c.args.launch.now in
    let compiled = c.in_ok-compiled.compiled in
    let found = c.in_ok-compiled.ensures.found in
    let p = program_of compiled.program in
    let asked = ap (map ask_of) c.deref-2.ensures.value ∙ c.in_ok-asks.ensures ∙ ap (λ (ks : List KernelOutline). asks_in_order (map outline_of ks)) c.deref.ensures.value ∙ ap asks_in_order (sym found.outlined) in
    subst (FailsFor (OnSource text (λ p. RunStagesOf p script launch))) (sym c.for_launch.ensures) (stages_fail text p (λ parts. asks_in_order (map (outline_in (local_fixed script)) parts)) launch (λ q. SequenceOf q script) _ c.in-Err.no found.read found.compiled (λ well. subst (λ (a : List PlainAsk). RefusesStages p a launch c.in-Err.no) asked (c.in-Err.ensures.refused well)))

pub returns-in-Err-clause-exact : goal.returns-in-Err-clause-exact
returns-in-Err-clause-exact c =
    let text = c.args.program.now in
    let script = c.args.script.now in
    let launch = c.args.launch.now in
    let compiled = c.in_ok-compiled.compiled in
    let found = c.in_ok-compiled.ensures.found in
    let p = program_of compiled.program in
    let asked = ap (map ask_of) c.deref-2.ensures.value ∙ c.in_ok-asks.ensures ∙ ap (λ (ks : List KernelOutline). asks_in_order (map outline_of ks)) c.deref.ensures.value ∙ ap asks_in_order (sym found.outlined) in
    failed_for text (λ p. RunStagesOf p script launch) (c.one_end.ensures RunStages (text ∷ script ∷ launch ∷ [])) (failure_of c.for_launch.result) (subst (FailsFor (OnSource text (λ p. RunStagesOf p script launch))) (sym c.for_launch.ensures) (stages_fail text p (λ parts. asks_in_order (map (outline_in (local_fixed script)) parts)) launch (λ q. SequenceOf q script) _ c.in-Err.no found.read found.compiled (λ well. subst (λ (a : List PlainAsk). RefusesStages p a launch c.in-Err.no) asked (c.in-Err.ensures.refused well))))

pub returns-in_ok-run_sequence-in-Ok-clause-found : goal.returns-in_ok-run_sequence-in-Ok-clause-found
returns-in_ok-run_sequence-in-Ok-clause-found c =
    let compiled = c.in_ok-compiled.compiled in
    let p = program_of compiled.program in
    let asked = ap (map ask_of) c.deref-2.ensures.value ∙ c.in_ok-asks.ensures ∙ ap (λ (ks : List KernelOutline). asks_in_order (map outline_of ks)) c.deref.ensures.value in
    record {
      source = p;
      output = ty_of compiled.output;
      outlines = map outline_of compiled.outlines.items;
      text = compiled.text.items;
      compiled = c.in_ok-compiled.ensures.found;
      given = given_in_order c.in-Ok.file;
      launch_file = subst (λ (a : List PlainAsk). IsStagesFile p a c.args.launch.now (given_in_order c.in-Ok.file)) asked c.in-Ok.ensures.ok;
      run = c.in_ok-run_sequence-in-Ok.ensures;
    }

pub returns-in_ok-run_sequence-in-Ok-clause-exact : goal.returns-in_ok-run_sequence-in-Ok-clause-exact
returns-in_ok-run_sequence-in-Ok-clause-exact c = λ why cause.
    let text = c.args.program.now in
    let script = c.args.script.now in
    let launch = c.args.launch.now in
    let compiled = c.in_ok-compiled.compiled in
    let found = c.in_ok-compiled.ensures.found in
    let p = program_of compiled.program in
    let asked = ap (map ask_of) c.deref-2.ensures.value ∙ c.in_ok-asks.ensures ∙ ap (λ (ks : List KernelOutline). asks_in_order (map outline_of ks)) c.deref.ensures.value ∙ ap asks_in_order (sym found.outlined) in
    let started = subst (λ (a : List PlainAsk). LaunchesOf p a launch (Ok (given_in_order c.in-Ok.file))) asked c.in-Ok.ensures.ok in
    (c.one_end.ensures RunStages (text ∷ script ∷ launch ∷ [])).none why (_, found.read.is, found.read.within, (tt, (given_in_order c.in-Ok.file, (found.parts, found.compiled, started)))) cause
