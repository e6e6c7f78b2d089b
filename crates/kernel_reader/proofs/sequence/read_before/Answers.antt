use Rattle.std.proofs.Common.{◌≤◌, [], refl, sym, subst}
use Rattle.std.proofs.lemmas.List.{length-map, take-map}
use Rattle.readings.specs.Readings.{Reads}
use Rattle.kernel_tree.specs.Kernels.{kernel_of}
use Rattle.kernel_tree.specs.KernelText.{all_of, kernels, nothing, start}
use Rattle.kernel_reader.specs.Views.{bytes_of}
use Rattle.kernel_reader.proofs.Found.{not_answered}
use Rattle.kernel_reader.proofs.sequence.read_before.Goals as goal

pub returns-in-Ok-clause-found : goal.returns-in-Ok-clause-found
returns-in-Ok-clause-found c = (
  refl,
  record {
    inside = subst (λ n. c.args.taken ≤ n) (sym (length-map c.args.pieces.now bytes_of)) c.requires;
    reads = subst (λ z. Reads kernels (start c.args.name.now) nothing z [] (all_of (kernel_of c.in-Ok.kernel))) (sym (take-map bytes_of c.args.taken c.args.pieces.now)) c.in-Ok.ensures.found;
  },
)

pub returns-in-Ok-clause-only : goal.returns-in-Ok-clause-only
returns-in-Ok-clause-only c =
    λ k f. (refl, c.in-Ok.ensures.only k (subst (λ z. Reads kernels (start c.args.name.now) nothing z [] (all_of k)) (take-map bytes_of c.args.taken c.args.pieces.now) f.reads))

pub returns-in-Err-Refused-clause-only : goal.returns-in-Err-Refused-clause-only
returns-in-Err-Refused-clause-only c =
    λ k f. not_answered kernel_of k _ _ c.in-Err-Refused.field-0-is (c.in-Err-Refused.ensures.only k (subst (λ z. Reads kernels (start c.args.name.now) nothing z [] (all_of k)) (take-map bytes_of c.args.taken c.args.pieces.now) f.reads))
