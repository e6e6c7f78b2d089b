use Rattle.std.proofs.Common.{arith}
use Rattle.barrier_placement.proofs.Fewest.{fewest, none_first}
use Rattle.barrier_placement.proofs.Listing.{listed}
use Rattle.barrier_placement.specs.Fencing.{fence}
use Rattle.barrier_placement.proofs.laws.needed_barriers_are_fewest.Goals as goal

pub returns : goal.returns
returns c touches once n barriers places ordered need apart =
    let few = fewest touches once n (fence n barriers) places need apart in
    let as_listed = listed n barriers ordered (none_first touches once n (fence n barriers) places need apart) in
    omega arith
