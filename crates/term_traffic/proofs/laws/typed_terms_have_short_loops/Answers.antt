use Rattle.lift_ir.specs.AtLaunch.{length_at}
use Rattle.term_traffic.proofs.Short.{short_loops}
use Rattle.term_traffic.proofs.laws.typed_terms_have_short_loops.Goals as goal

pub returns : goal.returns
returns c bases = short_loops (length_at bases)
