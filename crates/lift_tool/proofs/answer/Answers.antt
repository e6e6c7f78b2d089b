use Rattle.std.proofs.Common.{Err, Global, ap, List, map, subst, ℕ}
use Rattle.std.specs.Prelude.{Vec, string_bytes}
use Rattle.std.proofs.lemmas.Result.{IfErr-weaker, IfOk-weaker}
use Rattle.command_line.specs.Requests.{Asks, CommandLine, line_of}
use Rattle.fault_lines.specs.Shown.{failure_of}
use Rattle.lift_tool.specs.Files.{AsksAll, AsksFirst, Told}
use Rattle.lift_tool.specs.Outcome.{Answers, FailsFor, IsAnswer, OnTexts, WordsCause}
use Rattle.lift_tool.specs.Request.{files_of}
use Rattle.lift_tool.proofs.Reading.{asks_none, rose_between}
use Rattle.lift_tool.proofs.Ends.{asked_stands, one_request}
use Rattle.lift_tool.proofs.Unread.{request_fails, words_fail}
use Rattle.lift_tool.proofs.answer.Goals as goal

pub returns-in_err-request-clause-refused : goal.returns-in_err-request-clause-refused
returns-in_err-request-clause-refused g c =
    words_fail (g.F.Files.told c.args.files.now) (rose_between (g.F.Files.faults c.args.files.now) (g.F.Files.faults c.args.files.now)) (map (string_bytes {Z = Global}) c.args.words.now) _ _ (λ is. c.in_err-request.ensures.refused (ap Err is)) c.from_residual.ensures.1

pub returns-in_err-request-clause-asks : goal.returns-in_err-request-clause-asks
returns-in_err-request-clause-asks g c = λ request asks. (0, asks_none _)

pub returns-in_err-request-clause-asks_none : goal.returns-in_err-request-clause-asks_none
returns-in_err-request-clause-asks_none g c = λ none. asks_none _

pub returns-clause-ok : goal.returns-clause-ok
returns-clause-ok g c =
    let told : Told = g.F.Files.told c.args.files.now in
    IfOk-weaker _ (λ (text : Vec ℕ Global). IsAnswer told (line_of c.in_ok-request.request) text.items)
    (λ (text : Vec ℕ Global). OnTexts told (map (string_bytes {Z = Global}) c.args.words.now) (λ request texts. Answers request texts text.items)) (λ text h. (line_of c.in_ok-request.request, c.in_ok-request.ensures.asked, h)) c.answer_of.ensures.ok

pub returns-clause-refused : goal.returns-clause-refused
returns-clause-refused g c =
    let told : Told = g.F.Files.told c.args.files.now in
    let rose : List ℕ → Type 0 = rose_between (g.F.Files.faults c.args.files.now) (g.F.Files.faults c.answer_of.new.files) in
    let words : List (List ℕ) = map (string_bytes {Z = Global}) c.args.words.now in
    IfErr-weaker _ (λ e. FailsFor told rose (line_of c.in_ok-request.request) (failure_of e)) (λ e. WordsCause told rose words (failure_of e))
    (λ e h. request_fails told rose words (line_of c.in_ok-request.request) (failure_of e) c.in_ok-request.ensures.asked h) c.answer_of.ensures.refused

pub returns-clause-asks : goal.returns-clause-asks
returns-clause-asks g c = λ request asks.
    subst (λ q. AsksFirst (g.F.Files.asked c.args.files.now) (g.F.Files.asked c.answer_of.new.files) (files_of q)) (one_request (map (string_bytes {Z = Global}) c.args.words.now) request (line_of c.in_ok-request.request) asks c.in_ok-request.ensures.asked) c.answer_of.ensures.asks

pub returns-clause-asks_all : goal.returns-clause-asks_all
returns-clause-asks_all g c =
    let before = g.F.Files.asked c.args.files.now in
    let after = g.F.Files.asked c.answer_of.new.files in
    IfOk-weaker _ (λ (text : Vec ℕ Global). AsksAll before after (files_of (line_of c.in_ok-request.request)))
    (λ (text : Vec ℕ Global). (request : CommandLine) → Asks (map (string_bytes {Z = Global}) c.args.words.now) request → AsksAll before after (files_of request)) (λ text h request asks.
    subst (λ q. AsksAll before after (files_of q)) (one_request (map (string_bytes {Z = Global}) c.args.words.now) request (line_of c.in_ok-request.request) asks c.in_ok-request.ensures.asked) h) c.answer_of.ensures.asks_all

pub returns-clause-asks_none : goal.returns-clause-asks_none
returns-clause-asks_none g c = λ refused. absurd (asked_stands (map (string_bytes {Z = Global}) c.args.words.now) _ c.in_ok-request.ensures.asked refused)
