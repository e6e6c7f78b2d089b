-- What an operator gives is a number below 2^32.
use Rattle.std.proofs.Common.{ℕ, ◌%◌, ◌^◌, ◌<◌, arith}
use Rattle.std.specs.Prelude.{nat_lt, nat_eq, if◌then◌else◌, Bool, true, false}
use Rattle.std.proofs.Math.Nat.{div-le_self, mod-le, lt_of_le_of_lt}
use Rattle.scalar_ops.specs.declared.op.Op.{Op}
use Rattle.scalar_ops.specs.declared.op.Op.TheVariants as op
use Rattle.scalar_ops.specs.declared.op.Reducer.TheVariants as reducer
use Rattle.scalar_ops.specs.Operators.{apply_op}
use Rattle.scalar_ops.specs.Laws.{regroups}

truth-fits : (t : Bool) → (if t then 1 else 0) < 2 ^ 32
truth-fits true = omega arith
truth-fits false = omega arith

-- what an operator gives on numbers below 2^32 is such a number
pub apply_op-fits : (o : Op) (a b : ℕ) → a < 2 ^ 32 → b < 2 ^ 32 → apply_op o a b < 2 ^ 32
apply_op-fits op.Add a b p q = (regroups reducer.Add).closed a b p q
apply_op-fits op.Mul a b p q = (regroups reducer.Mul).closed a b p q
apply_op-fits op.Min a b p q = (regroups reducer.Min).closed a b p q
apply_op-fits op.Max a b p q = (regroups reducer.Max).closed a b p q
apply_op-fits op.And a b p q = (regroups reducer.And).closed a b p q
apply_op-fits op.Or a b p q = (regroups reducer.Or).closed a b p q
apply_op-fits op.Xor a b p q = (regroups reducer.Xor).closed a b p q
apply_op-fits op.Sub a b p q = omega arith
apply_op-fits op.Shl a b p q = omega arith
apply_op-fits op.Shr a b p q = lt_of_le_of_lt (div-le_self a (2 ^ (b % 32))) p
apply_op-fits op.Lt a b p q = truth-fits (nat_lt a b)
apply_op-fits op.Eq a b p q = truth-fits (nat_eq a b)
apply_op-fits op.Div a b p q = lt_of_le_of_lt (div-le_self a b) p
apply_op-fits op.Rem a b p q = lt_of_le_of_lt (mod-le a b) p
