-- What the machine holds in its cells.
use Rattle.std.specs.Global.{Global}
use Rattle.std.specs.Prelude.{Vec, ℕ, List, Option, Some, None, map, is_some, slice_get, ◌==◌, ◌&&◌, if◌then◌else◌}
use Rattle.kernel_tree.specs.Code.{Array, Input, Output, Local, Private}
use Rattle.kernel_tree.specs.Launch.{Launch, item_count, group_count}
use Rattle.kernel_tree.specs.Formula.{Four, four_if}
use Rattle.kernel_tree.specs.Device.{Cell, behind, same_cell}
use Rattle.ndrange_machine.specs.Words.{word_at}
use Rattle.ndrange_machine.specs.declared.memory.Memory.{Memory}

-- what vectors hold
abbrev pub rows_of : List (Vec ℕ Global) → List (List ℕ)
rows_of rows = map (λ row. row.items) rows

-- the word at this index of a row, if there is such a row and index
abbrev pub in_row : Option (Vec ℕ Global) → ℕ → Option ℕ
in_row None i = None
in_row (Some row) i = slice_get row.items i

-- the word at this index of the a-th row, if there is one
abbrev pub cell_in : List (Vec ℕ Global) → ℕ → ℕ → Option ℕ
cell_in rows a i = in_row (slice_get rows a) i

-- the word in a cell; none outside the array. Inputs and outputs have one home, which is 0
abbrev pub held_at : Memory → Array → (home index : ℕ) → Option ℕ
held_at m (Input a) h i = if h == 0 then cell_in m.ins.items a i else None
held_at m (Output a) h i = if h == 0 then cell_in m.outs.items a i else None
held_at m (Local a) h i = word_at m.locals h a i
held_at m (Private a) h i = word_at m.privates h a i

-- the word that the machine holds in a cell, if there is such a cell
abbrev pub held : Memory → Cell → Option ℕ
held m c = held_at m c.array c.home c.index

-- how many homes an array has
abbrev pub homes : Launch → Array → ℕ
homes l (Input a) = 1
homes l (Output a) = 1
homes l (Local a) = group_count l
homes l (Private a) = item_count l

-- the words of four cells; none where one has none
abbrev pub read_held : (Cell → Option ℕ) → Cell → Option Four
read_held f c = four_if (f c) (f (behind 1 c)) (f (behind 2 c)) (f (behind 3 c))

-- with a word in a cell, if there is such a cell
abbrev pub put_held : (Cell → Option ℕ) → Cell → (word : ℕ) → Cell → Option ℕ
put_held f e word c = if same_cell c e && is_some (f e) then Some word else f c

-- with four words in four cells, one after another
abbrev pub put_four : (Cell → Option ℕ) → Cell → Four → Cell → Option ℕ
put_four f e u =
    put_held (put_held (put_held (put_held f e u.x) (behind 1 e) u.y) (behind 2 e) u.z)
    (behind 3 e) u.w
