-- What the machine tells of an event: its access and its fault.
use Rattle.std.specs.Prelude.{ℕ, ◌+◌, ◌*◌, Bool, true, false, Option, Some, None, option_map}
use Rattle.kernel_tree.specs.declared.events.Cell.{Cell}
use Rattle.kernel_tree.specs.declared.events.Access.{Access}
use Rattle.kernel_tree.specs.declared.events.Access.TheVariants.{Read, Write, ReadFour, WriteFour}
use Rattle.kernel_tree.specs.declared.events.FaultKind.{FaultKind}
use Rattle.kernel_tree.specs.declared.events.FaultKind.TheVariants.{Race, Divergent}
use Rattle.kernel_tree.specs.declared.events.Fault.{Fault}
use Rattle.kernel_tree.specs.Code.{Array}
use Rattle.kernel_tree.specs.Launch.{Launch, group_of}
use Rattle.kernel_tree.specs.Seen.{shared_cell}
use Rattle.kernel_tree.specs.Tree.{array_of}
use Rattle.race_marks.specs.declared.marks.Touch.{Touch}
use Rattle.ndrange_machine.specs.declared.want.Want.{Want}
use Rattle.ndrange_machine.specs.declared.want.Want.TheVariants.{Ends, Waits, Fails, Changes, Reads, Writes, ReadsFour, WritesFour}

-- of shared memory, by a work-item that wants this
abbrev pub access_of_want : Want → Option Access
access_of_want (Reads v a i to) = option_map Read (shared_cell (array_of a) i)
access_of_want (Writes a i x to) = option_map Write (shared_cell (array_of a) i)
access_of_want (ReadsFour v a n to) = option_map ReadFour (shared_cell (array_of a) (4 * n))
access_of_want (WritesFour a n u to) = option_map WriteFour (shared_cell (array_of a) (4 * n))
access_of_want Ends = None
access_of_want (Waits on_local on_global to) = None
access_of_want (Fails kind) = None
access_of_want (Changes c to) = None

-- an access of one cell has one lane
abbrev pub lane_of : (races : Bool) → Option ℕ
lane_of true = Some 0
lane_of false = None

-- the cell of the lane that races, where one does
abbrev pub raced_cell : Array → (offset : ℕ) → (lane : Option ℕ) → Option Cell
raced_cell a n (Some lane) = shared_cell a (4 * n + lane)
raced_cell a n None = None

-- of an event that fails by nothing else: this lane races, or a group diverges after it
abbrev pub fault_in : (lane : Option ℕ) → (cell : Option Cell) → (diverges : Bool) → Option Fault
fault_in (Some lane) cell diverges = Some (record { kind = Race; cell = cell })
fault_in None cell true = Some (record { kind = Divergent; cell = None })
fault_in None cell false = None

-- the kind of that fault, if it is one
abbrev pub kind_in : (lane : Option ℕ) → (diverges : Bool) → Option FaultKind
kind_in (Some lane) diverges = Some Race
kind_in None true = Some Divergent
kind_in None false = None

-- a work-item's access as the marks take it
abbrev pub touch_at : Launch → (item : ℕ) → (writes : Bool) → Touch
touch_at l item writes = record { group = group_of l item; item = item; writes = writes }
