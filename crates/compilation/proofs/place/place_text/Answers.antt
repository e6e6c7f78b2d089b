use Rattle.std.proofs.Common.{◌≡◌}
use Rattle.fault_lines.specs.declared.refusal.Refusal.{Refusal}
use Rattle.fault_lines.specs.declared.refusal.Refusal.TheVariants as told
use Rattle.program_source.specs.Program.{OnProgram, StopsFor}
use Rattle.stages.proofs.HandedOn.{handed_on}
use Rattle.stages.proofs.Refused.{made_stands, refused_for}
use Rattle.compilation.proofs.Compiling.{last_stops, terms_first}
use Rattle.compilation.proofs.Once.{text_one}
use Rattle.compilation.proofs.Placing.{placed_found}
use Rattle.compilation.specs.Legal.{LegalOf}
use Rattle.compilation.proofs.place.place_text.Goals as goal

pub placed_last-requires : goal.placed_last-requires
placed_last-requires c = record { typed = c.in_ok-found.ensures.within }

pub returns-clause-found : goal.returns-clause-found
returns-clause-found c =
    let made = c.in_ok-placed.ensures in
    placed_found c.args.program.now c.args.script.now c.in_ok-found.found.typed _ _ c.in_ok-placed.placed c.asks_of.ensures c.in_ok-found.ensures.last c.in_ok-found.ensures.local made.compiles made.accepted made.placed

pub returns-in_err-found-clause-refused : goal.returns-in_err-found-clause-refused
returns-in_err-found-clause-refused c =
    handed_on (StopsFor (OnProgram c.args.program.now (λ p. LegalOf p c.args.script.now))) _ _ c.from_residual.ensures.1
    (terms_first c.args.program.now c.args.script.now _ c.in_err-found.ensures.refused)

pub returns-in_err-placed-clause-refused : goal.returns-in_err-placed-clause-refused
returns-in_err-placed-clause-refused c =
    handed_on (StopsFor (OnProgram c.args.program.now (λ p. LegalOf p c.args.script.now))) _ _ c.from_residual-in_err-placed.ensures.1
    (last_stops c.args.program.now c.args.script.now c.in_ok-found.found.typed _ c.in_ok-found.ensures.last _ c.in_ok-found.ensures.local c.in_err-placed.ensures.refused)

pub returns-in_err-found-clause-exact : goal.returns-in_err-found-clause-exact
returns-in_err-found-clause-exact c =
    let program = c.args.program.now in
    let script = c.args.script.now in
    refused_for (OnProgram program (λ p. LegalOf p script)) (λ (e : Refusal). e) (λ e. e ≡ told.Memory) (text_one c.sources_end_once.ensures c.compilation_ends_once.ensures program script) _ _
    c.from_residual.ensures.1 (terms_first program script _ c.in_err-found.ensures.refused)

pub returns-in_err-placed-clause-exact : goal.returns-in_err-placed-clause-exact
returns-in_err-placed-clause-exact c =
    let program = c.args.program.now in
    let script = c.args.script.now in
    refused_for (OnProgram program (λ p. LegalOf p script)) (λ (e : Refusal). e) (λ e. e ≡ told.Memory) (text_one c.sources_end_once.ensures c.compilation_ends_once.ensures program script) _ _
    c.from_residual-in_err-placed.ensures.1 (last_stops program script c.in_ok-found.found.typed _ c.in_ok-found.ensures.last _ c.in_ok-found.ensures.local c.in_err-placed.ensures.refused)

pub returns-clause-exact : goal.returns-clause-exact
returns-clause-exact c = λ why cause.
    let program = c.args.program.now in
    let script = c.args.script.now in
    let made = c.in_ok-placed.ensures in
    let found = placed_found program script c.in_ok-found.found.typed _ _ c.in_ok-placed.placed c.asks_of.ensures c.in_ok-found.ensures.last c.in_ok-found.ensures.local made.compiles made.accepted made.placed in
    made_stands _ (OnProgram program (λ p. LegalOf p script)) (text_one c.sources_end_once.ensures c.compilation_ends_once.ensures program script) _ why (_, found.read, found.legal) cause
