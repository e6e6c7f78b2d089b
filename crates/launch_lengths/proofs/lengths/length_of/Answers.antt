use Rattle.std.proofs.Common.{◌^◌, arith}
use Rattle.size_arith.proofs.Limits.{low_of, small_of}
use Rattle.launch_lengths.proofs.lengths.length_of.Goals as goal

pub value_of-value-requires-clause-small : goal.value_of-value-requires-clause-small
value_of-value-requires-clause-small c = small_of (2 ^ 32) c.args.length.now c.as_slice.result.now (omega arith) c.as_slice.ensures.same c.as_slice.ensures.poly

pub value_of-value-requires-clause-low : goal.value_of-value-requires-clause-low
value_of-value-requires-clause-low c = low_of c.args.length.now c.as_slice.result.now c.as_slice.ensures.same c.as_slice.ensures.poly
