use Rattle.std.proofs.Common.{arith}
use Rattle.ndrange_machine.proofs.Flat.{counted}
use Rattle.ndrange_machine.proofs.items.Items.count.Goals as goal

pub returns : goal.returns
returns c =
    let n = counted c.self.inside c.args.self.now c.self.view_is in
    let r = c.len.ensures in
    omega (arith, n, r, c.self.inside.places.ok.0)
