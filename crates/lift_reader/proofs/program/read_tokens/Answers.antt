use Rattle.std.proofs.Common.{◌≡◌, ◌∙◌, [], None, Some, ap, map, option_map, subst, sym}
use Rattle.std.proofs.lemmas.Option.{same_Some}
use Rattle.readings.specs.Readings.{Reads}
use Rattle.lift_tree.specs.Programs.{program_of}
use Rattle.lift_reader.specs.Shown.{lexeme}
use Rattle.lift_reader.specs.Grammar.{IsProgram, programs, start}
use Rattle.lift_reader.specs.Noted.{noted_by}
use Rattle.lift_reader.proofs.Finished.{program_read}
use Rattle.lift_reader.proofs.program.read_tokens.Goals as goal

pub unreachable-requires : goal.unreachable-requires
unreachable-requires c =
    let tokens = map lexeme c.args.tokens.now in
    let noted = noted_by c.in_ok-reader.reader in
    let read = program_read tokens noted (subst (λ z. Reads programs start z tokens [] noted) c.new.ensures c.in_ok-reader.ensures.found) in
    let e : None ≡ Some read.0 = ap (option_map program_of) (sym c.in-None.is) ∙ c.in_ok-noted.ensures ∙ read.1 in
    cc (e)

pub returns-clause-found : goal.returns-clause-found
returns-clause-found c =
    let tokens = map lexeme c.args.tokens.now in
    let noted = noted_by c.in_ok-reader.reader in
    let read = program_read tokens noted (subst (λ z. Reads programs start z tokens [] noted) c.new.ensures c.in_ok-reader.ensures.found) in
    subst (IsProgram tokens) (sym (same_Some (program_of c.in-Some.program) read.0 (ap (option_map program_of) (sym c.in-Some.is) ∙ c.in_ok-noted.ensures ∙ read.1))) read.2
