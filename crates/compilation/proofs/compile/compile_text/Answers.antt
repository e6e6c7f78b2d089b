use Rattle.std.proofs.Common.{◌≡◌, inl, refl}
use Rattle.fault_lines.specs.declared.refusal.Refusal.{Refusal}
use Rattle.fault_lines.specs.declared.refusal.Refusal.TheVariants as told
use Rattle.kernel_tree.specs.Kernels.{kernel_of}
use Rattle.program_source.specs.Program.{OnProgram, StopsFor}
use Rattle.stages.proofs.HandedOn.{handed_on}
use Rattle.stages.proofs.Refused.{made_stands, refused_for}
use Rattle.compilation.proofs.Once.{text_one}
use Rattle.compilation.specs.Legal.{LegalOf}
use Rattle.compilation.proofs.Compiling.{compiled_found, last_stops, terms_first, text_for}
use Rattle.compilation.proofs.compile.compile_text.Goals as goal

pub compiled_kernel-requires : goal.compiled_kernel-requires
compiled_kernel-requires c = record { typed = c.in_ok-found.ensures.within }

pub invariant_of-result : goal.invariant_of-result
invariant_of-result c =
    let k = c.in_ok-kernel.ensures in
    record {
      text_for = ∣ text_for c.args.program.now c.args.script.now c.in_ok-found.found.typed _ _ _ _ (kernel_of c.in_ok-kernel.kernel) c.own_type.ensures
          c.asks_of.ensures c.rows_are_on_top.ensures.asked c.in_ok-found.ensures.last k.accepted k.laid_out k.kernel c.in_ok-text.ensures.text ∣₁;
    }

pub returns-clause-found : goal.returns-clause-found
returns-clause-found c =
    compiled_found c.args.program.now c.args.script.now c.in_ok-found.found.typed _ _ _ _ (kernel_of c.in_ok-kernel.kernel) c.own_type.ensures
    c.asks_of.ensures c.rows_are_on_top.ensures.asked c.in_ok-found.ensures.last c.in_ok-found.ensures.local c.in_ok-kernel.ensures.compiles c.in_ok-kernel.ensures.accepted c.in_ok-kernel.ensures.kernel c.in_ok-text.ensures.text

pub returns-in_err-found-clause-refused : goal.returns-in_err-found-clause-refused
returns-in_err-found-clause-refused c =
    handed_on (StopsFor (OnProgram c.args.program.now (λ p. LegalOf p c.args.script.now))) _ _ c.from_residual.ensures.1
    (terms_first c.args.program.now c.args.script.now _ c.in_err-found.ensures.refused)

pub returns-in_err-kernel-clause-refused : goal.returns-in_err-kernel-clause-refused
returns-in_err-kernel-clause-refused c =
    handed_on (StopsFor (OnProgram c.args.program.now (λ p. LegalOf p c.args.script.now))) _ _ c.from_residual-in_err-kernel.ensures.1
    (last_stops c.args.program.now c.args.script.now c.in_ok-found.found.typed _ c.in_ok-found.ensures.last _ c.in_ok-found.ensures.local c.in_err-kernel.ensures.refused)

pub returns-in_err-found-clause-exact : goal.returns-in_err-found-clause-exact
returns-in_err-found-clause-exact c =
    let program = c.args.program.now in
    let script = c.args.script.now in
    refused_for (OnProgram program (λ p. LegalOf p script)) (λ (e : Refusal). e) (λ e. e ≡ told.Memory) (text_one c.sources_end_once.ensures c.compilation_ends_once.ensures program script) _ _
    c.from_residual.ensures.1 (terms_first program script _ c.in_err-found.ensures.refused)

pub returns-in_err-kernel-clause-exact : goal.returns-in_err-kernel-clause-exact
returns-in_err-kernel-clause-exact c =
    let program = c.args.program.now in
    let script = c.args.script.now in
    refused_for (OnProgram program (λ p. LegalOf p script)) (λ (e : Refusal). e) (λ e. e ≡ told.Memory) (text_one c.sources_end_once.ensures c.compilation_ends_once.ensures program script) _ _
    c.from_residual-in_err-kernel.ensures.1 (last_stops program script c.in_ok-found.found.typed _ c.in_ok-found.ensures.last _ c.in_ok-found.ensures.local c.in_err-kernel.ensures.refused)

pub returns-in_err-text-clause-exact : goal.returns-in_err-text-clause-exact
returns-in_err-text-clause-exact c =
    let program = c.args.program.now in
    let script = c.args.script.now in
    refused_for (OnProgram program (λ p. LegalOf p script)) (λ (e : Refusal). e) (λ e. e ≡ told.Memory) (text_one c.sources_end_once.ensures c.compilation_ends_once.ensures program script) _ _
    c.from_residual-in_err-text.ensures.1 (inl refl)

pub returns-clause-exact : goal.returns-clause-exact
returns-clause-exact c = λ why cause.
    let program = c.args.program.now in
    let script = c.args.script.now in
    let found =
    compiled_found program script c.in_ok-found.found.typed _ _ _ _ (kernel_of c.in_ok-kernel.kernel) c.own_type.ensures
    c.asks_of.ensures c.rows_are_on_top.ensures.asked c.in_ok-found.ensures.last c.in_ok-found.ensures.local c.in_ok-kernel.ensures.compiles c.in_ok-kernel.ensures.accepted c.in_ok-kernel.ensures.kernel c.in_ok-text.ensures.text in
    made_stands _ (OnProgram program (λ p. LegalOf p script)) (text_one c.sources_end_once.ensures c.compilation_ends_once.ensures program script) _ why (_, found.read, found.legal) cause
