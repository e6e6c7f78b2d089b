use Rattle.std.proofs.Common.{arith}
use Rattle.output_owner.proofs.Factors.{times_first}
use Rattle.output_owner.proofs.lengths.+product.Goals as goal

pub returns-in-len1-up : goal.returns-in-len1-up
returns-in-len1-up t c = times_first c.args.sizes.now c.args.factors.now c.value.result c.product.result (omega arith) c.value.ensures c.product.ensures
