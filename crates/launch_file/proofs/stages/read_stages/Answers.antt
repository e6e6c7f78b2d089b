use Rattle.std.proofs.Common.{◌∙◌, sym, inr}
use Rattle.std.specs.Prelude.{map}
use Rattle.serde_json.specs.View.{view}
use Rattle.lift_tree.specs.Programs.{program_of}
use Rattle.launch_file.specs.LaunchFile.{ask_of}
use Rattle.launch_file.specs.StagesShown.{given_in_order}
use Rattle.launch_file.proofs.Agreeing.{stages_judged_same}
use Rattle.launch_file.proofs.InOrder.{stages_file_is}
use Rattle.launch_file.proofs.Turns.{if_ok, if_err}
use Rattle.launch_file.proofs.stages.read_stages.Goals as goal

pub returns-clause-ok : goal.returns-clause-ok
returns-clause-ok c =
    let p = program_of c.args.program.now in
    let asks = map ask_of c.args.asks.now in
    let read = c.in_ok-value.ensures.ok in
    let same = stages_judged_same p asks (view c.in_ok-value.value) read.0 read.2 in
    if_ok c.stages_of-file.result (λ f found. stages_file_is p asks c.args.bytes.now read.0 (given_in_order f) c.requires read.1.0 read.1.1 (sym same ∙ found)) c.stages_of-file.ensures.ok

pub returns-clause-refused : goal.returns-clause-refused
returns-clause-refused c =
    let p = program_of c.args.program.now in
    let asks = map ask_of c.args.asks.now in
    let read = c.in_ok-value.ensures.ok in
    let same = stages_judged_same p asks (view c.in_ok-value.value) read.0 read.2 in
    if_err c.stages_of-file.result (λ e refused other. inr (read.0, read.1, sym same ∙ refused other)) c.stages_of-file.ensures.refused
