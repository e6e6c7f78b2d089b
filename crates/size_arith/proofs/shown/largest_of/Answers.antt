use Rattle.std.proofs.Common.{◌^◌, refl, arith}
use Rattle.size_arith.proofs.Limits.{small_of, low_of}
use Rattle.size_arith.proofs.Ranges.{small-greatests}
use Rattle.size_arith.proofs.shown.largest_of.Goals as goal

pub positives_of-requires-clause-small : goal.positives_of-requires-clause-small
positives_of-requires-clause-small c = small_of (2 ^ 32) c.args.monomials.now c.args.monomials.now (omega arith) refl c.requires.poly

pub positives_of-requires-clause-low : goal.positives_of-requires-clause-low
positives_of-requires-clause-low c = low_of c.args.monomials.now c.args.monomials.now refl c.requires.poly

pub positives_of-requires-clause-bases : goal.positives_of-requires-clause-bases
positives_of-requires-clause-bases c = rw c.greatests_of-greatests.ensures (small-greatests c.args.names.now c.requires.declared)
