-- What one work-item does in all, as a sum over the turns that it takes of its kernel's loops.
use Rattle.std.specs.Prelude.{ℕ, ◌+◌, ◌-◌, ◌*◌, Bool, true, false, nat_lt}
use Rattle.std.specs.Int.{div_ceil}
use Rattle.kernel_tree.specs.Formula.{Ids}
use Rattle.kernel_tree.specs.Code.{Array, start_value, stride_value, Statement, Assigns, Loads, Stores, AssignsFour, LoadsFour, StoresFour, Syncs, Code, End, Performs, Loops, Guards}
use Rattle.kernel_tree.specs.Bound.{turns_in}

-- how many turns are taken from this one on, by this stride, below the bound
abbrev pub turns_below : (from bound stride : ℕ) → ℕ
turns_below from bound stride = div_ceil (bound - from) stride

-- one where it is so
abbrev pub once : Bool → ℕ
once true = 1
once false = 0

-- accesses of these arrays, by whether they write
abbrev pub Accesses : Type 0
Accesses = (array : Array) → (writes : Bool) → Bool

-- how many of the accesses a statement makes; of four cells there are four
abbrev pub accesses_in : Accesses → Statement → ℕ
accesses_in p (Loads v a i) = once (p a false)
accesses_in p (Stores a i e) = once (p a true)
accesses_in p (LoadsFour v a i) = 4 * once (p a false)
accesses_in p (StoresFour a i e) = 4 * once (p a true)
accesses_in p (Assigns v e) = 0
accesses_in p (AssignsFour v e) = 0
accesses_in p (Syncs a b) = 0

-- how many barriers it is
abbrev pub barriers_in : Statement → ℕ
barriers_in (Syncs a b) = 1
barriers_in (Loads v a i) = 0
barriers_in (Stores a i e) = 0
barriers_in (LoadsFour v a i) = 0
barriers_in (StoresFour a i e) = 0
barriers_in (Assigns v e) = 0
barriers_in (AssignsFour v e) = 0

-- the sum of what statements count, over the turns that an item with these ids takes
abbrev pub total_in : (count : Statement → ℕ) → Ids → Code → ℕ
total_in count ids End = 0
total_in count ids (Performs s after) = count s + total_in count ids after
total_in count ids (Loops s b c body after) =
    turns_below (start_value ids s) (turns_in ids.sizes b) (stride_value ids c)
    * total_in count ids body
    + total_in count ids after
total_in count ids (Guards s b body after) =
    once (nat_lt (start_value ids s) (turns_in ids.sizes b)) * total_in count ids body
    + total_in count ids after
