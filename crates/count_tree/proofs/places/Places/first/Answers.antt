use Rattle.std.proofs.Common.{subst}
use Rattle.count_tree.specs.Nodes.{IsFirst}
use Rattle.count_tree.proofs.Firsts.{none_add, first_within}
use Rattle.count_tree.proofs.places.Places.first.Goals as goal

pub returns : goal.returns
returns c =
    let f = subst (λ xs. IsFirst xs c.self.inside.first) c.self.view_is c.self.invariant.1 in
    let within = first_within c.args.self.now c.self.inside.first f c.requires in
    record {
      place = within;
      others = none_add c.self.inside.first c.args.self.now f.none;
      there = f.there within;
    }
