use Rattle.std.proofs.Common.{◌≡◌, ◌∙◌, ap, inl, map, refl, subst, sym}
use Rattle.kernel_spelling.specs.SequenceText.{AreTexts}
use Rattle.lift_tree.specs.Annotations.{type_in}
use Rattle.lift_tree.specs.FixedSizes.{size_fixed}
use Rattle.kernel_tree.specs.Kernels.{kernel_of}
use Rattle.fault_lines.specs.declared.refusal.Refusal.{Refusal}
use Rattle.fault_lines.specs.declared.refusal.Refusal.TheVariants as told
use Rattle.program_source.specs.Program.{OnProgram, StopsFor}
use Rattle.strategy_script.specs.Steps.{State}
use Rattle.stages.proofs.HandedOn.{handed_on}
use Rattle.stages.proofs.Refused.{made_stands, refused_for}
use Rattle.compilation.specs.Sequence.{SequenceOf, outline_of}
use Rattle.compilation.proofs.Once.{sequence_text_one}
use Rattle.compilation.proofs.Cutting.{sequence_for, sequence_found, sequence_stops, sequence_terms_first}
use Rattle.compilation.proofs.sequence.compile_sequence.Goals as goal

pub kernels_of_last-requires : goal.kernels_of_last-requires
kernels_of_last-requires c = record { typed = c.in_ok-found.ensures.within }

pub returns-in_err-found-clause-refused : goal.returns-in_err-found-clause-refused
returns-in_err-found-clause-refused c =
    let program = c.args.program.now in
    let script = c.args.script.now in
    handed_on (StopsFor (OnProgram program (λ p. SequenceOf p script))) _ _ c.from_residual.ensures.1 (sequence_terms_first program script _ c.in_err-found.ensures.refused)

pub returns-in_err-made-clause-refused : goal.returns-in_err-made-clause-refused
returns-in_err-made-clause-refused c =
    let program = c.args.program.now in
    let script = c.args.script.now in
    let found = c.in_ok-found.ensures in
    handed_on (StopsFor (OnProgram program (λ p. SequenceOf p script))) _ _ c.from_residual-in_err-made.ensures.1
    (sequence_stops program script c.in_ok-found.found.typed _ found.last (size_fixed c.in_ok-found.found.local) found.local c.in_err-made.ensures.refused)

pub returns-in_err-found-clause-exact : goal.returns-in_err-found-clause-exact
returns-in_err-found-clause-exact c =
    let program = c.args.program.now in
    let script = c.args.script.now in
    refused_for (OnProgram program (λ p. SequenceOf p script)) (λ (e : Refusal). e) (λ e. e ≡ told.Memory) (sequence_text_one c.sources_end_once.ensures c.sequences_end_once.ensures program script) _ _
    c.from_residual.ensures.1 (sequence_terms_first program script _ c.in_err-found.ensures.refused)

pub returns-in_err-made-clause-exact : goal.returns-in_err-made-clause-exact
returns-in_err-made-clause-exact c =
    let program = c.args.program.now in
    let script = c.args.script.now in
    let found = c.in_ok-found.ensures in
    refused_for (OnProgram program (λ p. SequenceOf p script)) (λ (e : Refusal). e) (λ e. e ≡ told.Memory) (sequence_text_one c.sources_end_once.ensures c.sequences_end_once.ensures program script) _ _
    c.from_residual-in_err-made.ensures.1
    (sequence_stops program script c.in_ok-found.found.typed _ found.last (size_fixed c.in_ok-found.found.local) found.local c.in_err-made.ensures.refused)

pub returns-in_err-text-clause-exact : goal.returns-in_err-text-clause-exact
returns-in_err-text-clause-exact c =
    let program = c.args.program.now in
    let script = c.args.script.now in
    refused_for (OnProgram program (λ p. SequenceOf p script)) (λ (e : Refusal). e) (λ e. e ≡ told.Memory) (sequence_text_one c.sources_end_once.ensures c.sequences_end_once.ensures program script) _ _
    c.from_residual-in_err-text.ensures.1 (inl refl)

pub invariant_of-result : goal.invariant_of-result
invariant_of-result c =
    let s = c.in_ok-made.ensures.made in
    let output = c.own_type.ensures ∙ ap (λ (x : State). type_in x.types) (sym s.state) in
    let texts = subst (λ ks. AreTexts 0 c.in_ok-text.text.items (map kernel_of ks)) c.deref.ensures.value c.in_ok-text.ensures.text in
    record {
      text_for = ∣ sequence_for c.args.program.now c.args.script.now c.in_ok-found.found.typed c.in_ok-found.ensures.last s.whole s.declared s.state (size_fixed c.in_ok-found.found.local) s.terms s.cut
          c.kernels_are_counted.ensures (map kernel_of c.in_ok-made.made.kernels.items) (map outline_of c.in_ok-made.made.outlines.items) s.made
          c.in_ok-text.text.items texts c.sequences_keep.ensures c.last_kernels_make_the_output.ensures _ output ∣₁;
    }

pub returns-clause-found : goal.returns-clause-found
returns-clause-found c =
    let s = c.in_ok-made.ensures.made in
    let output = c.own_type.ensures ∙ ap (λ (x : State). type_in x.types) (sym s.state) in
    let texts = subst (λ ks. AreTexts 0 c.in_ok-text.text.items (map kernel_of ks)) c.deref.ensures.value c.in_ok-text.ensures.text in
    sequence_found c.args.program.now c.args.script.now c.in_ok-found.found.typed c.in_ok-found.ensures.last s.whole s.declared s.state (size_fixed c.in_ok-found.found.local) s.terms s.cut
    c.kernels_are_counted.ensures (map kernel_of c.in_ok-made.made.kernels.items) (map outline_of c.in_ok-made.made.outlines.items) s.made
    c.in_ok-text.text.items texts c.sequences_keep.ensures _ output c.in_ok-found.ensures.local

pub returns-clause-exact : goal.returns-clause-exact
returns-clause-exact c = λ why cause.
    let program = c.args.program.now in
    let script = c.args.script.now in
    let s = c.in_ok-made.ensures.made in
    let output = c.own_type.ensures ∙ ap (λ (x : State). type_in x.types) (sym s.state) in
    let texts = subst (λ ks. AreTexts 0 c.in_ok-text.text.items (map kernel_of ks)) c.deref.ensures.value c.in_ok-text.ensures.text in
    let found =
    sequence_found c.args.program.now c.args.script.now c.in_ok-found.found.typed c.in_ok-found.ensures.last s.whole s.declared s.state (size_fixed c.in_ok-found.found.local) s.terms s.cut
    c.kernels_are_counted.ensures (map kernel_of c.in_ok-made.made.kernels.items) (map outline_of c.in_ok-made.made.outlines.items) s.made
    c.in_ok-text.text.items texts c.sequences_keep.ensures _ output c.in_ok-found.ensures.local in
    made_stands _ (OnProgram program (λ p. SequenceOf p script)) (sequence_text_one c.sources_end_once.ensures c.sequences_end_once.ensures program script) _ why (_, found.read, found.compiled) cause
