-- Every run of a printed kernel leaves the source value.
use Rattle.std.proofs.Common.{[], sym, ◌∙◌, arith}
use Rattle.lift_tree.specs.Meaning.{meaning}
use Rattle.lift_ir.specs.Scalars.{scalars_of, no_scalars, lists_of}
use Rattle.lift_ir.specs.Terms.{no_type}
use Rattle.printed_form.specs.Theorem.{PrintedKernelsKeep}
use Rattle.lift_ir.proofs.Meaning.{means}
use Rattle.lift_ir.proofs.Lists.{are_lists, lists_long}
use Rattle.printed_form.proofs.Whole.{every_run_keeps}

pub printed_kernels_keep : (A : Type 0) → PrintedKernelsKeep A
printed_kernels_keep A num l w source inputs src ins sources t ty k c lowers given printed =
    let v = meaning w [] source in
    let h = means num w src sources inputs given t 0 source no_type [] no_scalars ty lowers printed.made.typed (λ i lt. absurd (omega arith)) in
    every_run_keeps num l src ins sources t ty k c (lists_of ty v) printed (lists_long ty v (scalars_of num sources no_scalars t) printed.made.flat_type h ∙ sym printed.made.outputs) (are_lists ty v (scalars_of num sources no_scalars t) printed.made.flat_type h)
