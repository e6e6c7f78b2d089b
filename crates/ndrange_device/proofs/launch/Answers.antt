use Rattle.ndrange_device.proofs.launch.Goals as goal

pub returns-in-Some-clause-trace : goal.returns-in-Some-clause-trace
returns-in-Some-clause-trace c = rw c.in-Some.is c.run_traced.ensures.trace
