-- The turns that a work-item is in, and the numbers that they have as
-- variables of index expressions.
use Rattle.std.specs.Prelude.{ℕ, zero, suc, ◌^◌, nat_lt, if◌then◌else◌, List, ◌∷◌, Option, Some, None}
use Rattle.kernel_tree.specs.declared.tree.Dimension.{Dimension}
use Rattle.kernel_tree.specs.declared.tree.Dimension.TheVariants.{X, Y}
use Rattle.kernel_tree.specs.Formula.{Formula, LoopVariable, Id, GroupId, LocalId, Ids}
use Rattle.length_spelling.specs.declared.turn.Turn.{Turn}
use Rattle.length_spelling.specs.declared.turn.Turn.TheVariants.{Group, Local, Loop}

-- the turns by their numbers: along a row, and then from row to row, the group's in the launch and
-- the item's in its group; behind them those of the loops around, the outermost first
abbrev pub turns_of : Ids → (loops : List ℕ) → List ℕ
turns_of ids loops =
    ids.x.group_id ∷ ids.x.local_id ∷ ids.y.group_id ∷ ids.y.local_id ∷ loops

-- the number of a group's turn along a dimension
abbrev pub group_turn : Dimension → ℕ
group_turn X = 0
group_turn Y = 2

-- the number of an item's own turn along a dimension
abbrev pub local_turn : Dimension → ℕ
local_turn X = 1
local_turn Y = 3

-- the number of a loop's turn, by how many loops are around it
abbrev pub loop_turn : ℕ → ℕ
loop_turn k = suc (suc (suc (suc k)))

-- the number of a turn
abbrev pub number_of : Turn → ℕ
number_of (Group d) = group_turn d
number_of (Local d) = local_turn d
number_of (Loop k) = loop_turn k

-- numbers are words
abbrev pub as_number : ℕ → Option ℕ
as_number n = if nat_lt n (2 ^ 32) then Some n else None

-- what spells the turn of this number
abbrev pub turn_formula : ℕ → Formula
turn_formula zero = Id X GroupId
turn_formula (suc zero) = Id X LocalId
turn_formula (suc (suc zero)) = Id Y GroupId
turn_formula (suc (suc (suc zero))) = Id Y LocalId
turn_formula (suc (suc (suc (suc k)))) = LoopVariable k
