use Rattle.std.proofs.Common.{◌∙◌, Err, ap, length, map, refl, subst, sym}
use Rattle.readings.specs.Exactly as exactly
use Rattle.lift_tree.specs.Programs.{program_of}
use Rattle.lift_reader.specs.Shown.{lexeme, placed}
use Rattle.lift_reader.specs.Grammar.{IsProgram, programs, start, nothing}
use Rattle.lift_reader.specs.ProgramText.{Gives, place_of}
use Rattle.lift_reader.proofs.Whole.{lexemes_are, same_program}
use Rattle.lift_reader.proofs.program.read_text.Goals as goal

pub returns-in-Ok-clause-found : goal.returns-in-Ok-clause-found
returns-in-Ok-clause-found c =
    let tokens = c.in_ok-tokens.tokens.items in
    let shown = lexemes_are tokens c.deref.result.now c.deref-2.result.now c.deref.ensures.value (c.deref-2.ensures.value ∙ c.in_ok-kinds.ensures) in
    record { tokens = map placed tokens; are = c.in_ok-tokens.ensures; program = subst (λ z. IsProgram z (program_of c.in-Ok.program)) shown c.in-Ok.ensures.found }

pub returns-in-Ok-clause-only : goal.returns-in-Ok-clause-only
returns-in-Ok-clause-only c = λ p h.
    let tokens = c.in_ok-tokens.tokens.items in
    let shown = lexemes_are tokens c.deref.result.now c.deref-2.result.now c.deref.ensures.value (c.deref-2.ensures.value ∙ c.in_ok-kinds.ensures) in
    c.in-Ok.ensures.only p (subst (λ z. IsProgram z p) (sym shown) (same_program c.args.text.now (map placed tokens) p c.in_ok-tokens.ensures h))

pub returns-clause-only : goal.returns-clause-only
returns-clause-only c = λ p h.
    let tokens = c.in_ok-tokens.tokens.items in
    let shown = lexemes_are tokens c.deref.result.now c.deref-2.result.now c.deref.ensures.value (c.deref-2.ensures.value ∙ c.in_ok-kinds.ensures) in
    let never = c.in-Err-Refused.ensures.only p (subst (λ z. IsProgram z p) (sym shown) (same_program c.args.text.now (map placed tokens) p c.in_ok-tokens.ensures h)) in
    subst (λ e. Gives p (Err e)) c.in-Err-Refused.field-0-is never

pub returns-clause-refused : goal.returns-clause-refused
returns-clause-refused c =
    let tokens = c.in_ok-tokens.tokens.items in
    let shown = lexemes_are tokens c.deref.result.now c.deref-2.result.now c.deref.ensures.value (c.deref-2.ensures.value ∙ c.in_ok-kinds.ensures) in
    let stops = subst (exactly.Refuses programs start nothing (map lexeme c.deref-2.result.now)) c.in-Err-Refused.field-0-is c.in-Err-Refused.ensures.refused in
    record {
      tokens = map placed tokens;
      are = c.in_ok-tokens.ensures;
      before = c.in-Err-Refused.taken;
      counted = refl;
      stops = subst (λ z. exactly.StopsAt programs start nothing z c.in-Err-Refused.taken) shown stops;
      place = c.place_of.ensures ∙ ap (λ z. place_of (map placed z) c.in-Err-Refused.taken (length c.args.text.now)) c.deref-in-Err-Refused.ensures.value;
    }
