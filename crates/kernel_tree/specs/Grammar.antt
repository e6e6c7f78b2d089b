-- Which kernels are of the kernel grammar.
use Rattle.std.specs.Prelude.{ℕ, suc, ◌*◌, ◌^◌, max, Option, Some, None, Bool, true, false, ◌&&◌, ◌||◌, List, [], ◌∷◌, length, nat_lt, nat_le}
use Rattle.scalar_ops.specs.declared.op.Op.{Op}
use Rattle.scalar_ops.specs.declared.op.Op.TheVariants.{Add, Mul, Min, Max, And, Or, Xor, Sub, Shl, Shr, Div, Rem, Lt, Eq}
use Rattle.kernel_tree.specs.Formula.{Formula, Number, Variable, LoopVariable, Size, Id, Binary, Choose, Lanes, Vector, Spread, Each}
use Rattle.kernel_tree.specs.Code.{Array, Input, Output, Local, Private, Statement, Code, End, Performs, Assigns, Loads, Stores, AssignsFour, LoadsFour, StoresFour, Loops, Guards, Syncs, Kernel}

-- how deep loops and ifs nest at most, and so expressions
abbrev pub deepest : ℕ
deepest = 1024

-- an expression's nesting; a leaf has 1
abbrev pub height : Formula → ℕ
height (Number n) = 1
height (Variable v) = 1
height (LoopVariable i) = 1
height (Size s) = 1
height (Id d form) = 1
height (Binary o a b) = suc (max (height a) (height b))
height (Choose c a b x y) = suc (max (max (height a) (height b)) (max (height x) (height y)))

-- the same of an expression of four words
abbrev pub lanes_height : Lanes → ℕ
lanes_height (Vector v) = 1
lanes_height (Spread e) = suc (height e)
lanes_height (Each o a b) = suc (max (lanes_height a) (lanes_height b))

-- a comparison is no operator here; it stands in a conditional alone
abbrev pub is_operator : Op → Bool
is_operator Add = true
is_operator Mul = true
is_operator Min = true
is_operator Max = true
is_operator And = true
is_operator Or = true
is_operator Xor = true
is_operator Sub = true
is_operator Shl = true
is_operator Shr = true
is_operator Div = true
is_operator Rem = true
is_operator Lt = false
is_operator Eq = false

-- literals, sizes and operators alone, as in a loop's bound
abbrev pub is_constant : Formula → Bool
is_constant (Number n) = true
is_constant (Variable v) = false
is_constant (LoopVariable i) = false
is_constant (Size s) = true
is_constant (Id d form) = false
is_constant (Binary o a b) = is_constant a && is_constant b
is_constant (Choose c a b x y) =
    (is_constant a && is_constant b) && (is_constant x && is_constant y)

-- names declared variables, declared sizes and the variables of the `loops` enclosing loops alone
abbrev pub names_declared : Kernel → (loops : ℕ) → Formula → Bool
names_declared k loops (Number n) = nat_lt n (2 ^ 32)
names_declared k loops (Variable v) = nat_lt v k.variables
names_declared k loops (LoopVariable i) = nat_lt i loops
names_declared k loops (Size s) = nat_lt s k.sizes
names_declared k loops (Id d form) = true
names_declared k loops (Binary o a b) =
    is_operator o && (names_declared k loops a && names_declared k loops b)
names_declared k loops (Choose c a b x y) =
    (names_declared k loops a && names_declared k loops b)
    && (names_declared k loops x && names_declared k loops y)

-- an expression of declared names that nests no deeper than it may
abbrev pub is_expression : Kernel → (loops : ℕ) → Formula → Bool
is_expression k loops e = names_declared k loops e && nat_le (height e) deepest

-- the same of an expression of four words
abbrev pub names_declared_in_lanes : Kernel → (loops : ℕ) → Lanes → Bool
names_declared_in_lanes k loops (Vector v) = nat_lt v k.vectors
names_declared_in_lanes k loops (Spread e) = names_declared k loops e
names_declared_in_lanes k loops (Each o a b) =
    is_operator o && (names_declared_in_lanes k loops a && names_declared_in_lanes k loops b)

-- an expression of four words, of declared names, that nests no deeper than it may
abbrev pub are_lanes : Kernel → (loops : ℕ) → Lanes → Bool
are_lanes k loops e = names_declared_in_lanes k loops e && nat_le (lanes_height e) deepest

-- a declared array
abbrev pub is_readable : Kernel → Array → Bool
is_readable k (Input a) = nat_lt a k.inputs
is_readable k (Output a) = nat_lt a k.outputs
is_readable k (Local a) = nat_lt a (length k.locals)
is_readable k (Private a) = nat_lt a (length k.privates)

-- inputs are const
abbrev pub is_writable : Kernel → Array → Bool
is_writable k (Input a) = false
is_writable k (Output a) = is_readable k (Output a)
is_writable k (Local a) = is_readable k (Local a)
is_writable k (Private a) = is_readable k (Private a)

-- four cells are loaded from and stored to shared arrays alone
abbrev pub is_shared : Array → Bool
is_shared (Input a) = true
is_shared (Output a) = true
is_shared (Local a) = true
is_shared (Private a) = false

-- a block that is not empty
abbrev pub has_statement : Code → Bool
has_statement End = false
has_statement (Performs s after) = true
has_statement (Loops s b c body after) = true
has_statement (Guards s b body after) = true

-- a statement within this many loops
abbrev pub is_statement : Kernel → (loops : ℕ) → Statement → Bool
is_statement k loops (Assigns v e) = nat_lt v k.variables && is_expression k loops e
is_statement k loops (Loads v a i) =
    nat_lt v k.variables && (is_readable k a && is_expression k loops i)
is_statement k loops (Stores a i e) =
    is_writable k a && (is_expression k loops i && is_expression k loops e)
is_statement k loops (AssignsFour v e) = nat_lt v k.vectors && are_lanes k loops e
is_statement k loops (LoadsFour v a i) =
    nat_lt v k.vectors && ((is_shared a && is_readable k a) && is_expression k loops i)
is_statement k loops (StoresFour a i e) =
    (is_shared a && is_writable k a) && (is_expression k loops i && are_lanes k loops e)
is_statement k loops (Syncs on_local on_global) = on_local || on_global

-- statements within this many loops, and as deep in loops and ifs together
abbrev pub are_statements : Kernel → (loops depth : ℕ) → Code → Bool
are_statements k loops depth End = true
are_statements k loops depth (Performs s after) =
    is_statement k loops s && are_statements k loops depth after
are_statements k loops depth (Loops s b c body after) =
    nat_lt depth deepest
    && (is_constant b
    && (is_expression k loops b
    && (has_statement body
    && (are_statements k (suc loops) (suc depth) body
    && are_statements k loops depth after))))
are_statements k loops depth (Guards s b body after) =
    nat_lt depth deepest
    && (is_constant b
    && (is_expression k loops b
    && (has_statement body
    && (are_statements k loops (suc depth) body && are_statements k loops depth after))))

-- lengths of arrays
abbrev pub are_lengths : List ℕ → Bool
are_lengths [] = true
are_lengths (n ∷ ns) = nat_lt 0 n && (nat_lt n (2 ^ 32) && are_lengths ns)

-- how many items a group may have
abbrev pub largest_group : ℕ
largest_group = 256

-- a size of groups that a kernel may ask for
abbrev pub is_group_size : Option (ℕ × ℕ) → Bool
is_group_size None = true
is_group_size (Some size) =
    nat_lt 0 size.0 && (nat_lt 0 size.1 && nat_le (size.0 * size.1) largest_group)

-- a kernel of the grammar
abbrev pub is_kernel : Kernel → Bool
is_kernel k =
    nat_lt 0 k.outputs
    && (are_lengths k.locals
    && (are_lengths k.privates
    && (is_group_size k.local && (has_statement k.code && are_statements k 0 0 k.code))))
