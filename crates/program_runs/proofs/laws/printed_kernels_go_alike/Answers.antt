use Rattle.program_runs.proofs.Alike.{kernels_alike}
use Rattle.program_runs.proofs.laws.printed_kernels_go_alike.Goals as goal

pub returns : goal.returns
returns c = kernels_alike c.legal_terms_are_printable.ensures c.kernels_go_alike.ensures
