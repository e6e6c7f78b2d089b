use Rattle.std.proofs.Common.{length}
use Rattle.std.proofs.lemmas.Result.{IfErr-weaker, IfOk-weaker}
use Rattle.lift_tree.specs.FixedSizes.{size_fixed}
use Rattle.lift_tree.specs.Programs.{program_of}
use Rattle.strategy_script.specs.Steps.{state_of}
use Rattle.stages.proofs.HandedOn.{handed_on}
use Rattle.program_source.specs.Program.{StopsFor}
use Rattle.compilation.specs.Sequence.{CompilesParts}
use Rattle.compilation.proofs.Cutting.{cut_made, cut_stops, kernels_sound, turn_stops}
use Rattle.compilation.proofs.sequence.kernels_of_last.Goals as goal

pub kernels_of_each-requires : goal.kernels_of_each-requires
kernels_of_each-requires c = kernels_sound c.kernels_are_sound.ensures c.in_ok-whole.whole c.in_ok-terms.terms.items c.in_ok-whole.ensures.sound c.in_ok-terms.ensures.kernels

pub returns-in_err-terms-clause-refused : goal.returns-in_err-terms-clause-refused
returns-in_err-terms-clause-refused c =
    let p = program_of c.args.last.now.program in
    let s = state_of c.args.last.now in
    let local = size_fixed c.args.local in
    let whole = c.in_ok-whole.ensures in
    handed_on (StopsFor (CompilesParts (length p.inputs) local s)) _ _ c.from_residual-in_err-terms.ensures.1
    (cut_stops p s c.in_ok-whole.whole whole.declared whole.state local _ c.in_err-terms.ensures.refused)

pub returns-clause-made : goal.returns-clause-made
returns-clause-made c =
    let whole = c.in_ok-whole.ensures in
    IfOk-weaker c.kernels_of_each.result _ _ (λ _ made. record {
      whole = c.in_ok-whole.whole;
      declared = whole.declared;
      state = whole.state;
      terms = c.in_ok-terms.terms.items;
      cut = c.in_ok-terms.ensures.kernels;
      made = made;
    }) c.kernels_of_each.ensures.made

pub returns-clause-refused : goal.returns-clause-refused
returns-clause-refused c =
    let p = program_of c.args.last.now.program in
    let s = state_of c.args.last.now in
    let whole = c.in_ok-whole.ensures in
    let cut = cut_made p s c.in_ok-whole.whole whole.declared whole.state c.kernels_are_counted.ensures c.in_ok-terms.terms.items c.in_ok-terms.ensures.kernels in
    IfErr-weaker c.kernels_of_each.result _ _ (λ why. turn_stops p s c.in_ok-whole.whole whole.declared whole.state (size_fixed c.args.local) _ why cut) c.kernels_of_each.ensures.refused
