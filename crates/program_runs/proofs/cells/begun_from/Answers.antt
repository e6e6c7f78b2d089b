use Rattle.program_runs.proofs.cells.begun_from.Goals as goal

pub returns : goal.returns
returns c = λ i. record { ins = c.in_ok-ins.ensures i; outs = c.in_ok-outs.ensures i; rest = 0 }
