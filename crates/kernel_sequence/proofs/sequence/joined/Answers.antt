use Rattle.std.proofs.Common.{◌∙◌, ap, append-nil, map, sym}
use Rattle.lift_tree.specs.Types.{ty_of}
use Rattle.kernel_sequence.proofs.Made.{one_type_more}
use Rattle.kernel_sequence.proofs.sequence.joined.Goals as goal

pub loop-ty-init : goal.loop-ty-init
loop-ty-init c = c.in_ok-all.ensures ∙ sym (append-nil (map ty_of c.args.first.now))

pub loop-ty-preserved : goal.loop-ty-preserved
loop-ty-preserved c =
    ap (map ty_of) c.in_ok-push.ensures.items
    ∙ one_type_more (map ty_of c.args.first.now) c.loop-ty.all.items c.args.second.now c.loop-ty.ty-index _ c.ty-item.result c.ty-item.is c.loop-ty-test.true c.in_ok-copy.ensures c.loop-ty.invariant
