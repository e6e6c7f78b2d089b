use Rattle.std.proofs.Common.{[], ◌∷◌, inl, refl, subst, sym}
use Rattle.lift_tree.specs.Annotations.{annotation_of}
use Rattle.lift_tree.specs.Programs.{program_of}
use Rattle.program_source.specs.Ends.{FailsFor, OnSource}
use Rattle.program_source.specs.Program.{TypesOf}
use Rattle.program_runs.proofs.Failed.{failed_for, handed_for, source_fails, told_for}
use Rattle.program_runs.proofs.Stopped.{launch_fails}
use Rattle.program_runs.specs.Started.{EvalOf, LaunchOf}
use Rattle.program_runs.specs.declared.command.Command.TheVariants as commands
use Rattle.fault_lines.specs.Failure.{launch_failed}
use Rattle.fault_lines.specs.Shown.{failure_of}
use Rattle.launch_file.specs.LaunchFile.{Eval, given_by}
use Rattle.stages.proofs.HandedOn.{told_on}
use Rattle.stages.specs.Stages.{As}
use Rattle.program_runs.proofs.eval.eval_text.Goals as goal

pub returns-in-Err-clause-refused : goal.returns-in-Err-clause-refused
returns-in-Err-clause-refused c =
    let t = c.in_ok-typed.typed in
    let launch = c.args.launch.now in
    subst (FailsFor (OnSource c.args.program.now (λ p. EvalOf p launch))) (sym c.for_launch.ensures)
    (launch_fails c.args.program.now (program_of t.program) (λ types. Eval) launch TypesOf (annotation_of t.types) _
    c.in_ok-typed.ensures.found c.in_ok-typed.ensures.judged c.in-Err.ensures.refused)

pub returns-in_err-typed-clause-refused : goal.returns-in_err-typed-clause-refused
returns-in_err-typed-clause-refused c =
    let text = c.args.program.now in
    let launch = c.args.launch.now in
    told_on failure_of (FailsFor (OnSource text (λ p. EvalOf p launch))) _ _ c.from_residual.ensures.1
    (source_fails text TypesOf (λ p types. As (launch_failed p) (LaunchOf p Eval launch)) _ c.in_err-typed.ensures.refused)

pub returns-in_err-typed-clause-exact : goal.returns-in_err-typed-clause-exact
returns-in_err-typed-clause-exact c =
    let text = c.args.program.now in
    let launch = c.args.launch.now in
    told_for text (λ p. EvalOf p launch) (c.one_end.ensures commands.Eval (text ∷ launch ∷ [])) _ _ c.from_residual.ensures.1
    (source_fails text TypesOf (λ p types. As (launch_failed p) (LaunchOf p Eval launch)) _ c.in_err-typed.ensures.refused)

pub returns-in_err-value_line-in-Ok-clause-exact : goal.returns-in_err-value_line-in-Ok-clause-exact
returns-in_err-value_line-in-Ok-clause-exact c =
    let text = c.args.program.now in
    let launch = c.args.launch.now in
    handed_for text (λ p. EvalOf p launch) (c.one_end.ensures commands.Eval (text ∷ launch ∷ [])) _ _ c.from_residual-in_err-value_line-in-Ok.ensures.1 (inl refl)

pub returns-in-Err-clause-exact : goal.returns-in-Err-clause-exact
returns-in-Err-clause-exact c =
    let t = c.in_ok-typed.typed in
    let launch = c.args.launch.now in
    failed_for c.args.program.now (λ p. EvalOf p launch) (c.one_end.ensures commands.Eval (c.args.program.now ∷ launch ∷ [])) (failure_of c.for_launch.result)
    (subst (FailsFor (OnSource c.args.program.now (λ p. EvalOf p launch))) (sym c.for_launch.ensures)
    (launch_fails c.args.program.now (program_of t.program) (λ types. Eval) launch TypesOf (annotation_of t.types) _
    c.in_ok-typed.ensures.found c.in_ok-typed.ensures.judged c.in-Err.ensures.refused))

pub returns-in_ok-value_line-in-Ok-clause-exact : goal.returns-in_ok-value_line-in-Ok-clause-exact
returns-in_ok-value_line-in-Ok-clause-exact c = λ why cause.
    let found = c.in_ok-typed.ensures.found in
    (c.one_end.ensures commands.Eval (c.args.program.now ∷ c.args.launch.now ∷ [])).none why
    (_, found.is, found.within, (tt, (given_by c.in-Ok.file, (_, c.in_ok-typed.ensures.judged, c.in-Ok.ensures.ok)))) cause
