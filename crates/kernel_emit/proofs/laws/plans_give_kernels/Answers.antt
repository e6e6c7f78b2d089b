use Rattle.kernel_emit.proofs.Told.{give_kernels}
use Rattle.kernel_emit.proofs.laws.plans_give_kernels.Goals as goal

pub returns : goal.returns
returns c =
    give_kernels (record {
      printed = c.terms_are_printed.ensures;
      tidied = c.tidied_kernels_are_printed.ensures;
      start = c.kernels_start.ensures;
      keep = c.kernels_keep.ensures.keep;
      serve = c.kernels_keep.ensures.serve;
      tidy = c.tidied_terms_are_tidy.ensures;
      values = c.tidy_formulas_keep_values.ensures;
      makes = c.tidy_formulas_make_tidy.ensures;
    }) c.legal_terms_are_printable.ensures c.plans_can_be_emitted.ensures
