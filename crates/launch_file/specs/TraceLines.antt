-- The lines of a trace.
use Rattle.std.specs.Prelude.{ℕ, List, [], ◌++◌, codes, decimal, flat_map, Option, Some, None}
use Rattle.kernel_tree.specs.declared.events.Access.{Access}
use Rattle.kernel_tree.specs.declared.events.Access.TheVariants.{Read, Write, ReadFour, WriteFour}
use Rattle.kernel_tree.specs.declared.events.Cell.{Cell}
use Rattle.kernel_tree.specs.declared.events.Event.{Event}
use Rattle.kernel_tree.specs.declared.events.Event.TheVariants.{Step, Release}
use Rattle.kernel_tree.specs.declared.events.Seen.{Seen}
use Rattle.kernel_tree.specs.declared.tree.Array.{Array}
use Rattle.kernel_tree.specs.declared.tree.Array.TheVariants.{Input, Output, Local, Private}
use Rattle.kernel_tree.specs.KernelText.{array_name}
use Rattle.kernel_tree.specs.Tree.{array_of}

-- a cell: the array's name in the kernel, and the number of the cell
abbrev pub cell_text : Cell → List ℕ
cell_text c = array_name (array_of c.array) ++ codes " " ++ decimal c.index

-- what follows the number of the work-item, for an access of this array; an array of the
-- work-item's own is not told
abbrev pub told : Array → List ℕ → List ℕ
told (Input k) text = text
told (Output k) text = text
told (Local k) text = text
told (Private k) text = []

-- an access of shared memory: what it does, and its cell
abbrev pub access_text : Option Access → List ℕ
access_text None = []
access_text (Some (Read c)) = told c.array (codes " reads " ++ cell_text c)
access_text (Some (Write c)) = told c.array (codes " writes " ++ cell_text c)
access_text (Some (ReadFour c)) = told c.array (codes " reads4 " ++ cell_text c)
access_text (Some (WriteFour c)) = told c.array (codes " writes4 " ++ cell_text c)

-- a step with its access of shared memory, where it has one, or a release
abbrev pub event_text : Event → Option Access → List ℕ
event_text (Step item) access = codes "step " ++ decimal item ++ access_text access
event_text (Release group) access = codes "release " ++ decimal group

-- the line of one event
abbrev pub trace_line : Seen → List ℕ
trace_line seen = event_text seen.event seen.access ++ codes "\n"

-- a line for each event
abbrev pub trace_lines : List Seen → List ℕ
trace_lines = flat_map trace_line
