use Rattle.std.proofs.Common.{◌∙◌, ap}
use Rattle.lift_tree.specs.FixedSizes.{size_fixed}
use Rattle.lowered_tree.specs.declared.lowered.Mapped.{Mapped}
use Rattle.stages.proofs.HandedOn.{handed_on}
use Rattle.program_source.specs.Program.{StopsFor}
use Rattle.compilation.specs.Legal.{CompilesTerm, lowered_state}
use Rattle.compilation.proofs.Legality.{at_buffers, at_nest, buffers_stop, compiles, legal_nest, nest_stops, within_is}
use Rattle.compilation.proofs.kernel.place.Goals as goal

pub returns-in_err-mapped-clause-refused : goal.returns-in_err-mapped-clause-refused
returns-in_err-mapped-clause-refused c =
    let local = size_fixed c.args.local in
    let s = lowered_state c.args.lowered in
    handed_on (StopsFor (CompilesTerm local s)) _ _ c.from_residual.ensures.1 (at_nest local s _ (nest_stops local c.args.lowered _ c.in_err-mapped.ensures.refused))

pub returns-in_err-buffers-clause-refused : goal.returns-in_err-buffers-clause-refused
returns-in_err-buffers-clause-refused c =
    let local = size_fixed c.args.local in
    let l = c.args.lowered in
    let mapped = c.in_ok-mapped.ensures in
    let same = ap (λ (m : Mapped). m.lowered) c.in_ok-spaced.ensures ∙ mapped.kept in
    let legal = legal_nest c.legal_without_fault.ensures local _ l _ mapped.size mapped.kept c.in_ok-mapped.mapped.legal in
    handed_on (StopsFor (CompilesTerm local (lowered_state l))) _ _ c.from_residual-in_err-buffers.ensures.1
    (at_buffers local (lowered_state l) _ legal (buffers_stop l _ _ same c.in_err-buffers.ensures.refused))

pub returns-clause-placed : goal.returns-clause-placed
returns-clause-placed c = record {
  lowered = ap (λ (m : Mapped). m.lowered) c.in_ok-spaced.ensures ∙ c.in_ok-mapped.ensures.kept;
  fixed = ap (λ (m : Mapped). m.local) c.in_ok-spaced.ensures ∙ c.in_ok-mapped.ensures.size;
  arrays = record { within = c.in_ok-buffers.ensures.within; local = c.in_ok-buffers.ensures.local; private = c.in_ok-buffers.ensures.private };
}

pub returns-clause-compiles : goal.returns-clause-compiles
returns-clause-compiles c =
    let local = size_fixed c.args.local in
    let l = c.args.lowered in
    let mapped = c.in_ok-mapped.ensures in
    let same = ap (λ (m : Mapped). m.lowered) c.in_ok-spaced.ensures ∙ mapped.kept in
    compiles local (lowered_state l) (legal_nest c.legal_without_fault.ensures local _ l _ mapped.size mapped.kept c.in_ok-mapped.mapped.legal) (within_is l _ same c.in_ok-buffers.ensures.within)
