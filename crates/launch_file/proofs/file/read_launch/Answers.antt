use Rattle.std.proofs.Common.{◌∙◌, sym, inr}
use Rattle.serde_json.specs.View.{view}
use Rattle.lift_tree.specs.Programs.{program_of}
use Rattle.launch_file.specs.LaunchFile.{ask_of, given_by}
use Rattle.launch_file.proofs.Agreeing.{judged_same}
use Rattle.launch_file.proofs.Turns.{if_ok, if_err}
use Rattle.launch_file.proofs.Whole.{launch_file_is}
use Rattle.launch_file.proofs.file.read_launch.Goals as goal

pub returns-clause-ok : goal.returns-clause-ok
returns-clause-ok c =
    let p = program_of c.args.program.now in
    let ask = ask_of c.args.ask in
    let read = c.in_ok-value.ensures.ok in
    let same = judged_same p ask (view c.in_ok-value.value) read.0 read.2 in
    if_ok c.launch_in-launch.result (λ f found. launch_file_is p ask c.args.bytes.now read.0 (given_by f) c.requires read.1.0 read.1.1 (sym same ∙ found)) c.launch_in-launch.ensures.ok

pub returns-clause-refused : goal.returns-clause-refused
returns-clause-refused c =
    let p = program_of c.args.program.now in
    let ask = ask_of c.args.ask in
    let read = c.in_ok-value.ensures.ok in
    let same = judged_same p ask (view c.in_ok-value.value) read.0 read.2 in
    if_err c.launch_in-launch.result (λ e refused other. inr (read.0, read.1, sym same ∙ refused other)) c.launch_in-launch.ensures.refused
