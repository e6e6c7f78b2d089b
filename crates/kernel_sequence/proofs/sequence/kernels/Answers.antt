use Rattle.std.proofs.Common.{◌∙◌, rules}
use Rattle.std.proofs.lemmas.Iterator.Adapters.{YieldsList-from_vec}
use Rattle.std.proofs.lemmas.Iterator.Consumers.{YieldsList-end, YieldsList-so_far, YieldsList-turn}
use Rattle.kernel_sequence.proofs.Made.{all_made, none_made, one_turn, sound_in_turn, turned}
use Rattle.kernel_sequence.proofs.sequence.kernels.Goals as goal

pub loop-part-init : goal.loop-part-init
loop-part-init c = none_made c.args.whole.now _ _ c.new-kernels.ensures.items c.new-scratch.ensures.items

pub kernel-requires : goal.kernel-requires
kernel-requires c =
    let at = c.loop-part in
    let parts = c.args.parts.items in
    let road = YieldsList-from_vec {s = c.into_iter-part-iterator.result} parts (search rules) (search rules) in
    let so_far = YieldsList-so_far road at.yielded at.part-iterator at.yielded_by in
    let turn = YieldsList-turn road at.yielded at.part-iterator at.yielded_by c.next.result c.next.new.self c.in-Some.part c.in-Some.is c.next.ensures.steps in
    sound_in_turn c.args.whole.now parts at.yielded c.in-Some.part at.kernels.items at.scratch.items _ (turned parts at.yielded c.in-Some.part so_far turn.0 turn.1) at.invariant c.as_slice.ensures.value c.requires

pub loop-part-preserved : goal.loop-part-preserved
loop-part-preserved c =
    let at = c.loop-part in
    one_turn c.args.whole.now at.yielded c.in-Some.part at.kernels.items _ c.in_ok-next.next at.scratch.items _ _ c.in_ok-ty.ty at.invariant c.in_ok-push.ensures.items c.in_ok-push-2.ensures.items c.as_slice.ensures.value
    c.in_ok-next.ensures.term c.in_ok-next.ensures.names c.in_ok-next.ensures.inputs (c.in_ok-ty.ensures ∙ c.own_type.ensures)

pub returns : goal.returns
returns c =
    let at = c.loop-part in
    let parts = c.args.parts.items in
    let road = YieldsList-from_vec {s = c.into_iter-part-iterator.result} parts (search rules) (search rules) in
    let end = YieldsList-end road at.yielded at.part-iterator at.yielded_by c.next.result c.next.new.self c.in-None.is c.next.ensures.steps in
    all_made c.args.whole.now parts at.yielded at.kernels.items at.scratch.items end.0 at.invariant
