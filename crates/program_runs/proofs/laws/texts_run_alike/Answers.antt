use Rattle.program_runs.proofs.Alike.{lines_alike}
use Rattle.program_runs.proofs.laws.texts_run_alike.Goals as goal

pub returns : goal.returns
returns c = lines_alike c.one_kernel.ensures c.terms_have_one_type.ensures c.rows_are_on_top.ensures.asked c.compilation_ends_once.ensures c.printed_kernels_go_alike.ensures
