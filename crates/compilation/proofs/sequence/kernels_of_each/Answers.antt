use Rattle.std.proofs.Common.{ap, map, rules}
use Rattle.std.proofs.lemmas.Iterator.Adapters.{YieldsList-from_vec}
use Rattle.std.proofs.lemmas.Iterator.Consumers.{YieldsList-end, YieldsList-so_far, YieldsList-turn}
use Rattle.lift_tree.specs.FixedSizes.{size_fixed}
use Rattle.kernel_tree.specs.Kernels.{kernel_of}
use Rattle.kernel_sequence.specs.Parts.{term_part}
use Rattle.stages.proofs.HandedOn.{handed_on}
use Rattle.program_source.specs.Program.{StopsFor}
use Rattle.compilation.specs.Legal.{IsSoundLowered}
use Rattle.compilation.specs.Sequence.{CompilesInTurn, outline_of}
use Rattle.compilation.proofs.Legality.{asks_for_row}
use Rattle.compilation.proofs.InTurn.{all_made, every_at, none_made, one_made, stops_among, turned}
use Rattle.compilation.proofs.sequence.kernels_of_each.Goals as goal

pub loop-term-init : goal.loop-term-init
loop-term-init c = none_made (size_fixed c.args.local) _ _ (ap (map kernel_of) c.new-kernels.ensures.items) (ap (map outline_of) c.new-outlines.ensures.items)

pub kernel_of_lowered-requires : goal.kernel_of_lowered-requires
kernel_of_lowered-requires c =
    let at = c.loop-term in
    let all = c.args.terms.items in
    let road = YieldsList-from_vec {s = c.into_iter-term-iterator.result} all (search rules) (search rules) in
    let so_far = YieldsList-so_far road at.yielded at.term-iterator at.yielded_by in
    let turn = YieldsList-turn road at.yielded at.term-iterator at.yielded_by c.next.result c.next.new.self c.in-Some.term c.in-Some.is c.next.ensures.steps in
    record { sound = every_at IsSoundLowered all at.yielded c.in-Some.term (turned all at.yielded c.in-Some.term so_far turn.0 turn.1) c.requires }

pub returns-in_err-kernel-clause-refused : goal.returns-in_err-kernel-clause-refused
returns-in_err-kernel-clause-refused c =
    let at = c.loop-term in
    let all = c.args.terms.items in
    let local = size_fixed c.args.local in
    let road = YieldsList-from_vec {s = c.into_iter-term-iterator.result} all (search rules) (search rules) in
    let so_far = YieldsList-so_far road at.yielded at.term-iterator at.yielded_by in
    let turn = YieldsList-turn road at.yielded at.term-iterator at.yielded_by c.next.result c.next.new.self c.in-Some.term c.in-Some.is c.next.ensures.steps in
    handed_on (StopsFor (CompilesInTurn local (map term_part all))) _ _ c.from_residual-in_err-kernel.ensures.1
    (stops_among local all at.yielded c.in-Some.term _ (turned all at.yielded c.in-Some.term so_far turn.0 turn.1) at.invariant.compiled c.in_err-kernel.ensures.refused)

pub loop-term-preserved : goal.loop-term-preserved
loop-term-preserved c =
    let at = c.loop-term in
    let all = c.args.terms.items in
    let road = YieldsList-from_vec {s = c.into_iter-term-iterator.result} all (search rules) (search rules) in
    let so_far = YieldsList-so_far road at.yielded at.term-iterator at.yielded_by in
    let turn = YieldsList-turn road at.yielded at.term-iterator at.yielded_by c.next.result c.next.new.self c.in-Some.term c.in-Some.is c.next.ensures.steps in
    let sound = every_at IsSoundLowered all at.yielded c.in-Some.term (turned all at.yielded c.in-Some.term so_far turn.0 turn.1) c.requires in
    let kernel = c.in_ok-kernel.ensures in
    let k = c.in_ok-kernel.kernel in
    one_made (size_fixed c.args.local) at.yielded _ _ _ _ c.in-Some.term (kernel_of k) (outline_of c.in_ok-outline.outline) at.invariant
    (record { sound = sound; asked = asks_for_row c.rows_are_on_top.ensures.asked (size_fixed c.args.local) c.in-Some.term sound kernel.compiles; grammar = k.in_grammar; kernel = kernel.kernel })
    c.in_ok-outline.ensures kernel.laid_out kernel.compiles c.in_ok-push.ensures.kernels c.in_ok-push.ensures.outlines

pub returns : goal.returns
returns c =
    let at = c.loop-term in
    let all = c.args.terms.items in
    let road = YieldsList-from_vec {s = c.into_iter-term-iterator.result} all (search rules) (search rules) in
    let end = YieldsList-end road at.yielded at.term-iterator at.yielded_by c.next.result c.next.new.self c.in-None.is c.next.ensures.steps in
    record { made = all_made (size_fixed c.args.local) at.yielded all _ _ end.0 at.invariant; refused = tt }
