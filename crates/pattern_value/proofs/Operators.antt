-- Where operators are defined.
use Rattle.std.proofs.Common.{ℕ}
use Rattle.std.proofs.Math.Nat.{div-zero, mod-zero}
use Rattle.scalar_ops.specs.declared.op.Reducer.{Reducer}
use Rattle.scalar_ops.specs.declared.op.Reducer.TheVariants as reducer
use Rattle.scalar_ops.specs.Operators.{IsDefined, op_of}

pub reducer_is_defined : (r : Reducer) (b : ℕ) → IsDefined (op_of r) b
reducer_is_defined reducer.Add b = tt
reducer_is_defined reducer.Mul b = tt
reducer_is_defined reducer.Min b = tt
reducer_is_defined reducer.Max b = tt
reducer_is_defined reducer.And b = tt
reducer_is_defined reducer.Or b = tt
reducer_is_defined reducer.Xor b = tt

pub ruleset by_zero = (div-zero, mod-zero)
