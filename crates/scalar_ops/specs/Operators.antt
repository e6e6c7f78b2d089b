-- What the operators give on numbers below 2^32.
use Rattle.std.specs.Prelude.{ℕ, zero, suc, ◌+◌, ◌-◌, ◌*◌, ◌/◌, ◌%◌, ◌^◌, ◌<◌, min, max, bit_and, bit_or, bit_xor, nat_lt, nat_eq, if◌then◌else◌}
use Rattle.scalar_ops.specs.declared.op.Op.{Op}
use Rattle.scalar_ops.specs.declared.op.Op.TheVariants as op
use Rattle.scalar_ops.specs.declared.op.Reducer.{Reducer}
use Rattle.scalar_ops.specs.declared.op.Reducer.TheVariants as reducer

-- sums, differences and products wrap; a shift uses the five low bits of its right operand
abbrev pub apply_op : Op → ℕ → ℕ → ℕ
apply_op op.Add a b = (a + b) % 2 ^ 32
apply_op op.Mul a b = (a * b) % 2 ^ 32
apply_op op.Min a b = min a b
apply_op op.Max a b = max a b
apply_op op.And a b = bit_and a b
apply_op op.Or a b = bit_or a b
apply_op op.Xor a b = bit_xor a b
apply_op op.Sub a b = (a + (2 ^ 32 - b)) % 2 ^ 32
apply_op op.Shl a b = (a * 2 ^ (b % 32)) % 2 ^ 32
apply_op op.Shr a b = a / 2 ^ (b % 32)
apply_op op.Lt a b = if nat_lt a b then 1 else 0
apply_op op.Eq a b = if nat_eq a b then 1 else 0
apply_op op.Div a b = a / b
apply_op op.Rem a b = a % b

-- the operator has a result at this right operand: only a division by 0 has none
abbrev pub IsDefined : Op → ℕ → Type 0
IsDefined op.Div b = 0 < b
IsDefined op.Rem b = 0 < b
IsDefined _ b = Unit {0}

-- a where c isn't 0, else b
abbrev pub choose : {A : Type 0} → ℕ → A → A → A
choose zero a b = b
choose (suc c) a b = a

-- the seven operators that may be regrouped, among all
abbrev pub op_of : Reducer → Op
op_of reducer.Add = op.Add
op_of reducer.Mul = op.Mul
op_of reducer.Min = op.Min
op_of reducer.Max = op.Max
op_of reducer.And = op.And
op_of reducer.Or = op.Or
op_of reducer.Xor = op.Xor

-- what such an operator gives on two numbers
abbrev pub combine : Reducer → ℕ → ℕ → ℕ
combine r = apply_op (op_of r)

-- the number that leaves each number below 2^32 as it is
abbrev pub neutral : Reducer → ℕ
neutral reducer.Add = 0
neutral reducer.Mul = 1
neutral reducer.Min = 4294967295
neutral reducer.Max = 0
neutral reducer.And = 4294967295
neutral reducer.Or = 0
neutral reducer.Xor = 0
