-- What an event changes in its work-item.
use Rattle.std.specs.Prelude.{ℕ, ◌-◌, List, [], ◌∷◌, ◌++◌, length, take, replicate, slice_set, nat_lt, if◌then◌else◌}
use Rattle.kernel_tree.specs.Formula.{Vars, set_word, set_vector, spread}
use Rattle.ndrange_machine.specs.declared.change.Change.{Change}
use Rattle.ndrange_machine.specs.declared.change.Change.TheVariants.{Sets, SetsFour, Begins, Repeats, Leaves, Keeps}
use Rattle.ndrange_machine.specs.declared.turn.Turn.{Turn}
use Rattle.ndrange_machine.specs.ItemView.{ItemView}
use Rattle.ndrange_machine.specs.Known.{four_of}

-- the turns of an item's loops after a change, where it has room for so many turns
abbrev pub changed_turns : List Turn → (room : ℕ) → Change → List Turn
changed_turns turns room (Begins t) = if nat_lt (length turns) room then turns ++ t ∷ [] else turns
changed_turns turns room (Repeats t) = slice_set turns (length turns - 1) t
changed_turns turns room Leaves = take (length turns - 1) turns
changed_turns turns room (Sets v x) = turns
changed_turns turns room (SetsFour v u) = turns
changed_turns turns room Keeps = turns

-- an item's private variables after a change
abbrev pub changed_vars : Vars → Change → Vars
changed_vars vars (Sets v x) = set_word vars v x
changed_vars vars (SetsFour v u) = set_vector vars v (four_of u)
changed_vars vars (Begins t) = vars
changed_vars vars (Repeats t) = vars
changed_vars vars Leaves = vars
changed_vars vars Keeps = vars

-- an item after a change, at the line that it goes to
abbrev pub changed : ItemView → Change → (line : ℕ) → ItemView
changed it c line = record {
  line = line;
  turns = changed_turns it.turns it.room c;
  room = it.room;
  vars = changed_vars it.vars c;
}

-- the word in each variable of a word, and in each lane of the others
abbrev pub filled : (variables vectors word : ℕ) → Vars
filled variables vectors word =
    record { words = replicate variables word; vectors = replicate vectors (spread word) }

-- an item before its first event: the word in each variable, and room for so many turns
abbrev pub start_view : (depth variables vectors word : ℕ) → ItemView
start_view depth variables vectors word =
    record { line = 0; turns = []; room = depth; vars = filled variables vectors word }
