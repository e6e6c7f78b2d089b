use Rattle.std.proofs.Common.{Global, List, ℕ, map}
use Rattle.std.specs.Prelude.{IfErr, IfOk, Vec}
use Rattle.fault_lines.specs.Failure.{source_failed}
use Rattle.fault_lines.specs.Shown.{failure_of}
use Rattle.stages.specs.Stages.{As, Passed}
use Rattle.program_source.specs.Ends.{FailsFor, OnSource}
use Rattle.program_source.specs.StepsText.{IsStepsText}
use Rattle.program_source.specs.Terms.{TermsOf}
use Rattle.compilation.specs.Legal.{LegalOf}
use Rattle.compilation.specs.Sequence.{SequenceOf}
use Rattle.program_runs.specs.Costs.{AreCostLines}
use Rattle.program_runs.specs.Started.{AreRunLines, CostOf, EvalOf, IsRunStagesLine, IsValueLine, RunOf, RunStagesOf}
use Rattle.program_runs.specs.Table.{IsKernelOf, IsSequenceOf}
use Rattle.program_runs.specs.declared.command.Command.TheVariants.{Compile, Cost, Demo, Eval, Run, RunStages, Stages, Steps}
use Rattle.program_runs.proofs.Commands.{demo_stops, of_three, of_two, stops_as, writes_as}
use Rattle.program_runs.proofs.command.command_text.Goals as goal

abbrev texts_of : List (Vec ℕ Global) → List (List ℕ)
texts_of texts = map (λ (text : Vec ℕ Global). text.items) texts

pub returns-in-Compile-clause-written : goal.returns-in-Compile-clause-written
returns-in-Compile-clause-written c =
    let r = c.kernel_text.result in
    writes_as c.args.command Compile (texts_of c.args.texts.now) r c.in-Compile.is
    (of_two (λ x y. IfOk r (λ text. IsKernelOf x y text.items)) c.text_at-first.ensures c.text_at-second.ensures c.kernel_text.ensures.written)

pub returns-in-Compile-clause-refused : goal.returns-in-Compile-clause-refused
returns-in-Compile-clause-refused c =
    let r = c.kernel_text.result in
    stops_as c.args.command Compile (texts_of c.args.texts.now) r c.in-Compile.is
    (of_two (λ x y. IfErr r (λ no. FailsFor (OnSource x (λ p. Passed (As source_failed (LegalOf p y)))) (failure_of no))) c.text_at-first.ensures c.text_at-second.ensures c.kernel_text.ensures.refused)

pub returns-in-Run-clause-written : goal.returns-in-Run-clause-written
returns-in-Run-clause-written c =
    let r = c.run_text.result in
    writes_as c.args.command (Run c.in-Run.trace) (texts_of c.args.texts.now) r c.in-Run.is
    (of_three (λ x y z. IfOk r (λ text. AreRunLines x y z c.in-Run.trace text.items)) c.text_at-first.ensures c.text_at-second.ensures c.text_at.ensures c.run_text.ensures.found)

pub returns-in-Run-clause-refused : goal.returns-in-Run-clause-refused
returns-in-Run-clause-refused c =
    let r = c.run_text.result in
    stops_as c.args.command (Run c.in-Run.trace) (texts_of c.args.texts.now) r c.in-Run.is
    (of_three (λ x y z. IfErr r (λ no. FailsFor (OnSource x (λ p. RunOf p y z)) (failure_of no))) c.text_at-first.ensures c.text_at-second.ensures c.text_at.ensures c.run_text.ensures.refused)

pub returns-in-Cost-clause-written : goal.returns-in-Cost-clause-written
returns-in-Cost-clause-written c =
    let r = c.cost_text.result in
    writes_as c.args.command (Cost c.in-Cost.items) (texts_of c.args.texts.now) r c.in-Cost.is
    (of_three (λ x y z. IfOk r (λ text. AreCostLines x y z c.in-Cost.items text.items)) c.text_at-first.ensures c.text_at-second.ensures c.text_at-in-Cost.ensures c.cost_text.ensures.found)

pub returns-in-Cost-clause-refused : goal.returns-in-Cost-clause-refused
returns-in-Cost-clause-refused c =
    let r = c.cost_text.result in
    stops_as c.args.command (Cost c.in-Cost.items) (texts_of c.args.texts.now) r c.in-Cost.is
    (of_three (λ x y z. IfErr r (λ no. FailsFor (OnSource x (λ p. CostOf p y z)) (failure_of no))) c.text_at-first.ensures c.text_at-second.ensures c.text_at-in-Cost.ensures c.cost_text.ensures.refused)

pub returns-in-Eval-clause-written : goal.returns-in-Eval-clause-written
returns-in-Eval-clause-written c =
    let r = c.eval_text.result in
    writes_as c.args.command Eval (texts_of c.args.texts.now) r c.in-Eval.is
    (of_two (λ x y. IfOk r (λ text. IsValueLine x y text.items)) c.text_at-first.ensures c.text_at-second.ensures c.eval_text.ensures.found)

pub returns-in-Eval-clause-refused : goal.returns-in-Eval-clause-refused
returns-in-Eval-clause-refused c =
    let r = c.eval_text.result in
    stops_as c.args.command Eval (texts_of c.args.texts.now) r c.in-Eval.is
    (of_two (λ x y. IfErr r (λ no. FailsFor (OnSource x (λ p. EvalOf p y)) (failure_of no))) c.text_at-first.ensures c.text_at-second.ensures c.eval_text.ensures.refused)

pub returns-in-Steps-clause-written : goal.returns-in-Steps-clause-written
returns-in-Steps-clause-written c =
    let r = c.step_lines.result in
    writes_as c.args.command Steps (texts_of c.args.texts.now) r c.in-Steps.is
    (of_two (λ x y. IfOk r (λ text. IsStepsText x y text.items)) c.text_at-first.ensures c.text_at-second.ensures c.step_lines.ensures.written)

pub returns-in-Steps-clause-refused : goal.returns-in-Steps-clause-refused
returns-in-Steps-clause-refused c =
    let r = c.step_lines.result in
    stops_as c.args.command Steps (texts_of c.args.texts.now) r c.in-Steps.is
    (of_two (λ x y. IfErr r (λ no. FailsFor (OnSource x (λ p. Passed (As source_failed (TermsOf p y)))) (failure_of no))) c.text_at-first.ensures c.text_at-second.ensures c.step_lines.ensures.refused)

pub returns-in-Stages-clause-written : goal.returns-in-Stages-clause-written
returns-in-Stages-clause-written c =
    let r = c.sequence_text.result in
    writes_as c.args.command Stages (texts_of c.args.texts.now) r c.in-Stages.is
    (of_two (λ x y. IfOk r (λ text. IsSequenceOf x y text.items)) c.text_at-first.ensures c.text_at-second.ensures c.sequence_text.ensures.written)

pub returns-in-Stages-clause-refused : goal.returns-in-Stages-clause-refused
returns-in-Stages-clause-refused c =
    let r = c.sequence_text.result in
    stops_as c.args.command Stages (texts_of c.args.texts.now) r c.in-Stages.is
    (of_two (λ x y. IfErr r (λ no. FailsFor (OnSource x (λ p. Passed (As source_failed (SequenceOf p y)))) (failure_of no))) c.text_at-first.ensures c.text_at-second.ensures c.sequence_text.ensures.refused)

pub returns-in-RunStages-clause-written : goal.returns-in-RunStages-clause-written
returns-in-RunStages-clause-written c =
    let r = c.run_stages_text.result in
    writes_as c.args.command RunStages (texts_of c.args.texts.now) r c.in-RunStages.is
    (of_three (λ x y z. IfOk r (λ text. IsRunStagesLine x y z text.items)) c.text_at-first.ensures c.text_at-second.ensures c.text_at-in-RunStages.ensures c.run_stages_text.ensures.found)

pub returns-in-RunStages-clause-refused : goal.returns-in-RunStages-clause-refused
returns-in-RunStages-clause-refused c =
    let r = c.run_stages_text.result in
    stops_as c.args.command RunStages (texts_of c.args.texts.now) r c.in-RunStages.is
    (of_three (λ x y z. IfErr r (λ no. FailsFor (OnSource x (λ p. RunStagesOf p y z)) (failure_of no))) c.text_at-first.ensures c.text_at-second.ensures c.text_at-in-RunStages.ensures c.run_stages_text.ensures.refused)

pub returns-in-Demo-clause-written : goal.returns-in-Demo-clause-written
returns-in-Demo-clause-written c = writes_as c.args.command (Demo c.in-Demo.seed) (texts_of c.args.texts.now) c.demo_text.result c.in-Demo.is c.demo_text.ensures.found

pub returns-in-Demo-clause-refused : goal.returns-in-Demo-clause-refused
returns-in-Demo-clause-refused c =
    let texts = texts_of c.args.texts.now in
    stops_as c.args.command (Demo c.in-Demo.seed) texts c.demo_text.result c.in-Demo.is (demo_stops c.in-Demo.seed texts c.demo_text.result c.demo_text.ensures.refused)
