-- What a work-item knows, its private variables, and the turns of the loops around it.
use Rattle.std.specs.Prelude.{◌≡◌, ℕ, ◌<◌, List, [], ◌∷◌, ◌++◌, length, map, slice_index}
use Rattle.kernel_tree.specs.Formula as formula
use Rattle.kernel_tree.specs.Formula.{Four, Vars}
use Rattle.kernel_tree.specs.Launch.{ids_of, group_of}
use Rattle.kernel_tree.specs.Item.{Frame}
use Rattle.enabled_events.specs.declared.grid.Grid.{Grid}
use Rattle.enabled_events.specs.Grids.{laid}
use Rattle.ndrange_machine.specs.declared.four.Four as held
use Rattle.ndrange_machine.specs.declared.ids.Ids.{Ids}
use Rattle.ndrange_machine.specs.declared.turn.Turn.{Turn}

-- an item's ids and the sizes, as formulas read them
abbrev pub known : Ids → (sizes : List ℕ) → formula.Ids
known ids sizes =
    ids_of (record { global = ids.grid.global; local = ids.grid.local; sizes = sizes }) ids.item

-- four words, as the machine holds them
abbrev pub four_of : held.Four → Four
four_of u = record { x = u.x; y = u.y; z = u.z; w = u.w }

-- the same four words in the machine's own type
abbrev pub held_four : Four → held.Four
held_four u = record { x = u.x; y = u.y; z = u.z; w = u.w }

-- private variables from the machine's lists: those of a word, and those of four
abbrev pub vars_of : (words : List ℕ) → (vectors : List held.Four) → Vars
vars_of words vectors = record { words = words; vectors = map four_of vectors }

-- these are the groups of the first items
pub record AreGroups (grid : Grid) (count : ℕ) (groups : List ℕ) : Type 0 where
  pub count_is : length groups ≡ count
  pub each : (j : ℕ) → j < count → slice_index groups j ≡ group_of (laid grid) j

-- the turn that a loop's frame is in
abbrev pub turn_of : Frame → Turn
turn_of f = record { number = f.turn; variable = f.variable }

-- the turns of these loops, outermost first
abbrev pub turns_of : List Frame → List Turn
turns_of [] = []
turns_of (f ∷ fs) = turns_of fs ++ turn_of f ∷ []

-- the loop variables' values, outermost loop first
abbrev pub variables : List Turn → List ℕ
variables turns = map (λ t. t.variable) turns

-- the numbers of the loops' turns, outermost loop first
abbrev pub numbers : List Turn → List ℕ
numbers turns = map (λ t. t.number) turns
