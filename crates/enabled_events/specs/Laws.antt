-- What flags tell of a state, and how they follow its events.
use Rattle.std.specs.Prelude.{◌≡◌, List}
use Rattle.kernel_tree.specs.declared.events.Event.{Event}
use Rattle.kernel_tree.specs.Launch.{IsWhole}
use Rattle.kernel_tree.specs.Device.{Device, State, after}
use Rattle.kernel_tree.specs.Schedule.{AreEnabled}
use Rattle.enabled_events.specs.Listed.{Flags, AreFlags, Follows, flagged_events}

-- where flags are those of a state, their events are the enabled ones in order
abbrev pub FlagsTellEnabled : Type 0
FlagsTellEnabled =
    (d : Device) (s : State) (v : Flags)
    → IsWhole d.launch → AreFlags d s v → AreEnabled d s (flagged_events v)

-- and no other list is
abbrev pub FlagsTellOneList : Type 0
FlagsTellOneList =
    (d : Device) (s : State) (v : Flags) (all : List Event)
    → IsWhole d.launch → AreFlags d s v → AreEnabled d s all → all ≡ flagged_events v

-- set for the items that an event moves and for their group, they are those of the state after it
abbrev pub FlagsFollow : Type 0
FlagsFollow =
    (d : Device) (s : State) (e : Event) (v w : Flags)
    → IsWhole d.launch → AreFlags d s v → Follows d s e v w → AreFlags d (after d s e) w
