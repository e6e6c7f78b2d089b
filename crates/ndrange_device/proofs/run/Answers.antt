use Rattle.std.proofs.Common.{[], sym, subst}
use Rattle.ndrange_machine.specs.Stands.{StandsFor}
use Rattle.ndrange_device.specs.Outcomes.{Begun}
use Rattle.ndrange_device.proofs.run.Goals as goal

pub follow-requires : goal.follow-requires
follow-requires g c =
    let starts = subst (λ (b : Begun). StandsFor b.kernel b.launch b.cells c.in_ok-machine.machine []) (sym c.requires.1.1.1.1.1) c.in_ok-machine.ensures in
    λ lifetimes alive. (alive, (c.requires.1.0, (c.requires.1.1.0, (c.requires.1.1.1.0, starts))))
