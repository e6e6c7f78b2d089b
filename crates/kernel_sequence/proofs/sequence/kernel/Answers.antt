use Rattle.std.proofs.Common.{◌∙◌, ◌++◌, List, ap, map}
use Rattle.lift_tree.specs.declared.ty.Ty.{Ty}
use Rattle.lift_tree.specs.Types.{ty_of}
use Rattle.kernel_sequence.proofs.Made.{sound_as_kept}
use Rattle.kernel_sequence.proofs.sequence.kernel.Goals as goal

pub invariant_of-result : goal.invariant_of-result
invariant_of-result c =
    let w = c.args.whole.now in
    record {
      sound = sound_as_kept w c.args.scratch.now c.args.part _ _ c.in_ok-copy.ensures
          (c.in_ok-joined.ensures ∙ ap (λ (z : List Ty). map ty_of z ++ map ty_of c.args.scratch.now) c.as_slice.ensures.value) c.requires;
    }
