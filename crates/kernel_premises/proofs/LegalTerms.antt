-- A legal term that can be lowered has sound parts.
use Rattle.std.proofs.Common.{[]}
use Rattle.size_arith.specs.Ranges.{leasts}
use Rattle.size_arith.proofs.LeastSizes.{leasts_are_admissible}
use Rattle.lift_tree.specs.Annotations.{type_in}
use Rattle.lift_tree.proofs.WithinLimits.{all_within, within_in}
use Rattle.kernel_premises.specs.Soundness.{LoweredTermsHaveSoundParts}
use Rattle.kernel_premises.proofs.Types.{type_held, types_held}
use Rattle.kernel_premises.proofs.Parts.{sound_written}

pub lowered_terms_have_sound_parts : LoweredTermsHaveSoundParts
lowered_terms_have_sound_parts d t n legal lowered =
    let held = types_held d.names d.inputs legal.within.inputs in
    let inputs = all_within d.names d.inputs legal.declared.inputs legal.within.inputs in
    let output = within_in d inputs [] t n tt legal.nodes legal.within.nodes in
    let are = legal.declared.names in
    let lowerable = lowered.lowerable (leasts d.names) (leasts_are_admissible d.names are) in
    record {
      inputs = held;
      output = type_held (type_in n) output.lengths output.few;
      parts = sound_written d are inputs [] t n tt legal.nodes legal.within.nodes legal.words lowerable.lowerable lowered.staged;
    }
