use Rattle.std.proofs.Common.{List, map, ℕ}
use Rattle.command_line.specs.Requests.{line_of}
use Rattle.lift_tool.specs.Files.{Told}
use Rattle.lift_tool.specs.Outcome.{FailsFor}
use Rattle.lift_tool.specs.Request.{file_of}
use Rattle.lift_tool.proofs.Reading.{handed_on, rose_between}
use Rattle.lift_tool.proofs.Unread.{answered, files_fail, stopped}
use Rattle.lift_tool.proofs.requests.answer_of.Goals as goal

pub returns-in_err-texts-clause-refused : goal.returns-in_err-texts-clause-refused
returns-in_err-texts-clause-refused g c =
    let told : Told = g.F.Files.told c.args.files.now in
    let rose : List ℕ → Type 0 = rose_between (g.F.Files.faults c.args.files.now) (g.F.Files.faults c.read_texts.new.files) in
    handed_on (FailsFor told rose (line_of c.args.request)) _ _ c.from_residual-in_err-texts.ensures.1
    (files_fail told rose (line_of c.args.request) (map file_of c.in_ok-command.wanted.items) _ c.in_ok-command.ensures.files c.in_err-texts.ensures.cause)

pub returns-clause-ok : goal.returns-clause-ok
returns-clause-ok g c =
    let told : Told = g.F.Files.told c.args.files.now in
    answered told (line_of c.args.request) c.in_ok-command.command (map file_of c.in_ok-command.wanted.items) c.in_ok-texts.texts.items c.as_slice.result.now c.in_ok-command.ensures.command c.in_ok-command.ensures.files c.as_slice.ensures.value c.in_ok-texts.ensures.texts
    _ c.command_text.ensures.written

pub returns-clause-refused : goal.returns-clause-refused
returns-clause-refused g c =
    let told : Told = g.F.Files.told c.args.files.now in
    let rose : List ℕ → Type 0 = rose_between (g.F.Files.faults c.args.files.now) (g.F.Files.faults c.read_texts.new.files) in
    stopped told (line_of c.args.request) c.in_ok-command.command (map file_of c.in_ok-command.wanted.items) c.in_ok-texts.texts.items c.as_slice.result.now c.in_ok-command.ensures.command c.in_ok-command.ensures.files c.as_slice.ensures.value c.in_ok-texts.ensures.texts
    rose _ c.command_text.ensures.refused
