use Rattle.std.proofs.Common.{◌≡◌, map, sym, subst}
use Rattle.std.proofs.lemmas.List.{length-map}
use Rattle.readings.specs.Exactly as exactly
use Rattle.kernel_tree.specs.Kernels.{kernel_of}
use Rattle.kernel_tree.specs.KernelText.{kernels, nothing, start}
use Rattle.kernel_reader.specs.Sequences.{FrontIs, IsFront}
use Rattle.kernel_reader.specs.Views.{bytes_of}
use Rattle.kernel_reader.proofs.Found.{not_answered}
use Rattle.kernel_reader.proofs.Fronts.{one_front, only_before, refused_front, whole_front}
use Rattle.kernel_reader.proofs.sequence.read_front.Goals as goal

pub returns-in-Ok-clause-only : goal.returns-in-Ok-clause-only
returns-in-Ok-clause-only c =
    let name = c.args.name.now in
    let ps = map bytes_of c.args.pieces.now in
    λ own k f. one_front c.fronts_are_of_one_kernel.ensures name ps _ own _ k (whole_front name ps _ _ (sym (length-map c.args.pieces.now bytes_of)) c.in-Ok.ensures.found) f

pub returns-in-Err-Refused-clause-only : goal.returns-in-Err-Refused-clause-only
returns-in-Err-Refused-clause-only c =
    let name = c.args.name.now in
    let ps = map bytes_of c.args.pieces.now in
    let stops = subst (λ z. exactly.Refuses kernels (start name) nothing ps z) c.in-Err-Refused.field-0-is c.in-Err-Refused.ensures.refused in
    λ own k f. (let e : own ≡ c.in-Err-Refused.taken = only_before c.fronts_are_refused_behind.ensures name ps c.in-Err-Refused.taken stops (λ x r. not_answered kernel_of x _ _ c.in-Err-Refused.field-0-is (c.in-Err-Refused.ensures.only x r)) own k f in
    subst (λ n. FrontIs n k c.read_before.result) (sym e) (c.read_before.ensures.only k (subst (λ n. IsFront name ps n k) e f)))

pub returns-in-Err-Refused-clause-refused : goal.returns-in-Err-Refused-clause-refused
returns-in-Err-Refused-clause-refused c =
    let name = c.args.name.now in
    let ps = map bytes_of c.args.pieces.now in
    let stops = subst (λ z. exactly.Refuses kernels (start name) nothing ps z) c.in-Err-Refused.field-0-is c.in-Err-Refused.ensures.refused in
    refused_front name ps c.in-Err-Refused.taken c.read_before.result stops c.read_before.ensures.refused (returns-in-Err-Refused-clause-only c)
