use Rattle.std.proofs.Common.{ap, sym, arith}
use Rattle.ndrange_machine.proofs.Flat.{counted, item_here}
use Rattle.ndrange_machine.proofs.items.Items.line_of.Goals as goal

pub index-requires : goal.index-requires
index-requires c = let n = counted c.self.inside c.args.self.now c.self.view_is in omega (arith, n, c.requires, c.self.inside.places.ok.0)

pub returns : goal.returns
returns c = λ it e. ap (λ v. v.line) (sym (item_here c.self.inside c.args.self.now c.self.view_is c.args.item c.index.result.now c.requires c.index.ensures it e))
