-- The number of events that a kernel's text allows.
use Rattle.std.specs.Prelude.{ℕ, ◌+◌, ◌*◌, List, Option, Some, None}
use Rattle.kernel_tree.specs.Formula.{Formula, bound_value}
use Rattle.kernel_tree.specs.Code.{Code, End, Performs, Loops, Guards, Kernel}
use Rattle.kernel_tree.specs.Launch.{Launch, item_count}

-- 0 in place of none
abbrev pub or_zero : Option ℕ → ℕ
or_zero None = 0
or_zero (Some b) = b

-- a loop's upper bound, or 0 where its evaluation meets a divisor of 0
abbrev pub turns_in : List ℕ → Formula → ℕ
turns_in sizes b = or_zero (bound_value sizes b)

-- the events that statements allow one item
abbrev pub cost : (sizes : List ℕ) → Code → ℕ
cost sizes End = 0
cost sizes (Performs s after) = 1 + cost sizes after
cost sizes (Loops s b c body after) =
    1 + turns_in sizes b * (1 + cost sizes body) + cost sizes after
cost sizes (Guards s b body after) = 1 + cost sizes body + cost sizes after

-- the events that a kernel's text allows in all
abbrev pub bound : Kernel → Launch → ℕ
bound k l = item_count l * cost l.sizes k.code
