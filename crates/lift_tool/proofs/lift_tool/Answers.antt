use Rattle.std.proofs.Common.{◌≡◌, ◌∙◌, Global, List, arith, inl, inr, map, refl, subst, sym, ℕ}
use Rattle.std.specs.Prelude.{◌≢◌, ◌⊎◌, string_bytes}
use Rattle.std.specs.Io.KnownBytes.{Appends}
use Rattle.lift_io.specs.Causes.{Rose}
use Rattle.fault_lines.specs.Failure.{Write}
use Rattle.fault_lines.specs.Lines.{TakesLine}
use Rattle.fault_lines.specs.Shown.{failure_of}
use Rattle.lift_tool.specs.Files.{Told}
use Rattle.lift_tool.proofs.Alike.{lines_of_written}
use Rattle.lift_tool.proofs.Ends.{asked_stands, demo_stands, words_answered, words_cause, words_fail_before, words_refused, words_stand, words_taken}
use Rattle.lift_tool.proofs.Reading.{rose_between}
use Rattle.lift_tool.proofs.lift_tool.Goals as goal

pub returns-clause-complete : goal.returns-clause-complete
returns-clause-complete g c = λ request texts asks is are ok well _.
    let told : Told = g.F.Files.told c.args.files.now in
    let rose : List ℕ → Type 0 = rose_between (g.F.Files.faults c.args.files.now) (g.F.Files.faults c.answer.new.files) in
    let words : List (List ℕ) = map (string_bytes {Z = Global}) c.args.words.now in
    inr (c.fail-in-Err.ensures.status ∙ words_stand c.one_end.ensures told rose words request texts _ asks is are ok well c.in-Err.ensures.refused)

pub returns-clause-exact : goal.returns-clause-exact
returns-clause-exact g c = λ request failure asks is well cause.
    let told : Told = g.F.Files.told c.args.files.now in
    let rose : List ℕ → Type 0 = rose_between (g.F.Files.faults c.args.files.now) (g.F.Files.faults c.answer.new.files) in
    let words : List (List ℕ) = map (string_bytes {Z = Global}) c.args.words.now in
    let takes : List ℕ → Type 0 = λ line. TakesLine (g.E.Sink.taken c.args.err.now) (g.E.Sink.taken c.fail-in-Err.new.err) (Rose (g.E.Sink.faults c.args.err.now) (g.E.Sink.faults c.fail-in-Err.new.err)) line in
    words_cause c.one_end.ensures told rose words request _ failure _ takes asks is well c.in-Err.ensures.refused cause c.fail-in-Err.ensures.status c.fail-in-Err.ensures.line

pub returns-clause-words : goal.returns-clause-words
returns-clause-words g c = λ none.
    let told : Told = g.F.Files.told c.args.files.now in
    let rose : List ℕ → Type 0 = rose_between (g.F.Files.faults c.args.files.now) (g.F.Files.faults c.answer.new.files) in
    let words : List (List ℕ) = map (string_bytes {Z = Global}) c.args.words.now in
    subst (λ n. (n ≡ 2) ⊎ (n ≡ 13)) (sym c.fail-in-Err.ensures.status) (words_refused told rose words _ c.in-Err.ensures.refused none)

pub returns-clause-plain : goal.returns-clause-plain
returns-clause-plain g c = λ request plain is.
    let told : Told = g.F.Files.told c.args.files.now in
    let rose : List ℕ → Type 0 = rose_between (g.F.Files.faults c.args.files.now) (g.F.Files.faults c.answer.new.files) in
    let words : List (List ℕ) = map (string_bytes {Z = Global}) c.args.words.now in
    let asks = c.answer.ensures.plain request plain is in
    (asks, subst (λ n. n ≢ 2) (sym c.fail-in-Err.ensures.status) (words_taken told rose words request _ c.in-Err.ensures.refused asks))

pub returns-in-Ok-write_whole-clause-exact : goal.returns-in-Ok-write_whole-clause-exact
returns-in-Ok-write_whole-clause-exact g c = λ request failure asks is well cause.
    let told : Told = g.F.Files.told c.args.files.now in
    let rose : List ℕ → Type 0 = rose_between (g.F.Files.faults c.args.files.now) (g.F.Files.faults c.answer.new.files) in
    let words : List (List ℕ) = map (string_bytes {Z = Global}) c.args.words.now in
    absurd (words_answered c.one_end.ensures told rose words request _ failure asks is well c.in-Ok.ensures.ok cause)

pub returns-in-Ok-write_whole-clause-plain : goal.returns-in-Ok-write_whole-clause-plain
returns-in-Ok-write_whole-clause-plain g c = λ request plain is. (c.answer.ensures.plain request plain is, λ e. cc (e))

pub returns-in-Ok-write_whole-clause-words : goal.returns-in-Ok-write_whole-clause-words
returns-in-Ok-write_whole-clause-words g c = λ refused. absurd (asked_stands (map (string_bytes {Z = Global}) c.args.words.now) _ c.in-Ok.ensures.ok.1 refused)

pub returns-in-Ok-clause-exact : goal.returns-in-Ok-clause-exact
returns-in-Ok-clause-exact g c = λ request failure asks is well cause.
    let told : Told = g.F.Files.told c.args.files.now in
    let rose : List ℕ → Type 0 = rose_between (g.F.Files.faults c.args.files.now) (g.F.Files.faults c.answer.new.files) in
    let words : List (List ℕ) = map (string_bytes {Z = Global}) c.args.words.now in
    absurd (words_answered c.one_end.ensures told rose words request _ failure asks is well c.in-Ok.ensures.ok cause)

pub returns-in-Ok-clause-plain : goal.returns-in-Ok-clause-plain
returns-in-Ok-clause-plain g c = λ request plain is.
    (c.answer.ensures.plain request plain is, λ e. let s : c.fail.result ≡ 4 = c.fail.ensures.status in absurd (omega (arith, s, e)))

pub returns-in-Ok-clause-refused : goal.returns-in-Ok-clause-refused
returns-in-Ok-clause-refused g c = λ _.
    let ok = c.in-Ok.ensures.ok in
    (Write, c.fail.ensures.status, inr (refl, c.in-Err-write_whole.ensures.cause.failed, (ok.0, ok.1, (ok.2.0, ok.2.1, (_, ok.2.2)))), c.fail.ensures.line)

pub returns-clause-refused : goal.returns-clause-refused
returns-clause-refused g c = λ _. (failure_of c.in-Err.failure, c.fail-in-Err.ensures.status, inl c.in-Err.ensures.refused, c.fail-in-Err.ensures.line)

pub returns-clause-done : goal.returns-clause-done
returns-clause-done g c = λ done.
    let told : Told = g.F.Files.told c.args.files.now in
    let rose : List ℕ → Type 0 = rose_between (g.F.Files.faults c.args.files.now) (g.F.Files.faults c.answer.new.files) in
    let words : List (List ℕ) = map (string_bytes {Z = Global}) c.args.words.now in
    absurd ((words_fail_before told rose words _ c.in-Err.ensures.refused).0 (sym c.fail-in-Err.ensures.status ∙ done))

pub returns-clause-write : goal.returns-clause-write
returns-clause-write g c = λ written.
    let told : Told = g.F.Files.told c.args.files.now in
    let rose : List ℕ → Type 0 = rose_between (g.F.Files.faults c.args.files.now) (g.F.Files.faults c.answer.new.files) in
    let words : List (List ℕ) = map (string_bytes {Z = Global}) c.args.words.now in
    absurd ((words_fail_before told rose words _ c.in-Err.ensures.refused).1 (sym c.fail-in-Err.ensures.status ∙ written))

pub returns-clause-asks_all : goal.returns-clause-asks_all
returns-clause-asks_all g c = λ request asks done.
    let told : Told = g.F.Files.told c.args.files.now in
    let rose : List ℕ → Type 0 = rose_between (g.F.Files.faults c.args.files.now) (g.F.Files.faults c.answer.new.files) in
    let words : List (List ℕ) = map (string_bytes {Z = Global}) c.args.words.now in
    absurd ((words_fail_before told rose words _ c.in-Err.ensures.refused).0 (sym c.fail-in-Err.ensures.status ∙ done))

pub returns-clause-demo : goal.returns-clause-demo
returns-clause-demo g c = λ seed asks.
    let told : Told = g.F.Files.told c.args.files.now in
    let rose : List ℕ → Type 0 = rose_between (g.F.Files.faults c.args.files.now) (g.F.Files.faults c.answer.new.files) in
    let words : List (List ℕ) = map (string_bytes {Z = Global}) c.args.words.now in
    inr (inr (c.fail-in-Err.ensures.status ∙ demo_stands told rose words seed _ asks c.in-Err.ensures.refused))

pub returns-clause-alike : goal.returns-clause-alike
returns-clause-alike g c = λ done.
    let told : Told = g.F.Files.told c.args.files.now in
    let rose : List ℕ → Type 0 = rose_between (g.F.Files.faults c.args.files.now) (g.F.Files.faults c.answer.new.files) in
    let words : List (List ℕ) = map (string_bytes {Z = Global}) c.args.words.now in
    absurd ((words_fail_before told rose words _ c.in-Err.ensures.refused).0 (sym c.fail-in-Err.ensures.status ∙ done))

pub returns-in-Ok-write_whole-clause-alike : goal.returns-in-Ok-write_whole-clause-alike
returns-in-Ok-write_whole-clause-alike g c = λ done.
    let ok = c.in-Ok.ensures.ok in
    let taken =
    subst (λ (bytes : List ℕ). Appends (g.O.Sink.taken c.args.out.now) (g.O.Sink.taken c.write_whole.new.sink) bytes) c.as_slice.ensures.value c.in-Ok-write_whole.ensures.all in
    (ok.0, ok.1, (ok.2.0, ok.2.1, (_, lines_of_written c.texts_run_alike.ensures c.texts_have_costs.ensures c.sequences_run_alike.ensures ok.0 ok.2.0 _ ok.2.2, taken)))
