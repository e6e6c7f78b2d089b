use Rattle.std.proofs.Common.{◌^◌, arith}
use Rattle.size_arith.proofs.Limits.{small_of, low_of}
use Rattle.size_arith.proofs.poly.Poly.value_at.Goals as goal

pub value_of-requires-clause-small : goal.value_of-requires-clause-small
value_of-requires-clause-small c = small_of (2 ^ 32) c.self.inside.monomials.items c.deref.result.now (omega arith) c.deref.ensures.value c.self.invariant

pub value_of-requires-clause-low : goal.value_of-requires-clause-low
value_of-requires-clause-low c = low_of c.self.inside.monomials.items c.deref.result.now c.deref.ensures.value c.self.invariant
