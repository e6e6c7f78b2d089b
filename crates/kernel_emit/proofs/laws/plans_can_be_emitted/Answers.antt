use Rattle.kernel_emit.proofs.Told.{can_be_emitted}
use Rattle.kernel_emit.proofs.laws.plans_can_be_emitted.Goals as goal

pub returns : goal.returns
returns c = can_be_emitted (record {
  allocated = c.allocated_are_declared.ensures;
  short = c.copies_are_short.ensures;
  few = c.declared_are_few.ensures;
  grammar = c.kernels_are_in_the_grammar.ensures;
  least = c.least_sizes_are_admissible.ensures;
  printable = c.legal_terms_are_printable.ensures;
  sound = c.lowered_terms_have_sound_parts.ensures;
  serve = c.lowered_terms_serve.ensures;
})
