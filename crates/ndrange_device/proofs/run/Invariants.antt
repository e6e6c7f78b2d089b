use Rattle.ndrange_device.proofs.run.Given as goal

abbrev pub ghost-follow : goal.ghost-follow
ghost-follow g a = g.begun
