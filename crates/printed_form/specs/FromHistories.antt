-- The headline, as far as the items' histories tell it.
use Rattle.std.specs.Prelude.{◌≡◌, ℕ, ◌<◌, ◌≤◌, Bool, ◌&&◌, List, length, slice_index, count_by}
use Rattle.kernel_tree.specs.Code.{Kernel}
use Rattle.kernel_tree.specs.Launch.{Launch, Cells, item_count}
use Rattle.kernel_tree.specs.Device.{Cell, same_cell, State, device_of, IsStart, row, run}
use Rattle.kernel_tree.specs.Histories.{touches, is_access, SomeAccess, sum_to}
use Rattle.kernel_tree.specs.Alike.{Histories, Enacts}
use Rattle.printed_form.specs.Headline.{output_cell}

-- an access writes the cell; it is told by its cell and whether it writes
abbrev pub writes_cell : Cell → Cell → Bool → Bool
writes_cell c b writes = writes && same_cell b c

-- how often histories write an output cell
abbrev pub output_writes : Launch → Histories → (array index : ℕ) → ℕ
output_writes l h a i =
    sum_to (λ k. count_by (is_access (writes_cell (output_cell a i))) (touches (h k)))
    (item_count l)

-- histories that write each output cell as they should
pub record WritesOutputs (l : Launch) (h : Histories) (owner : (array index : ℕ) → ℕ)
    (wanted : List (List ℕ)) : Type 0 where
  pub at_most_once : (a i : ℕ) → output_writes l h a i ≤ 1
  pub once : (a i : ℕ) → i < length (row wanted a) → output_writes l h a i ≡ 1
  pub by_owner : (k : ℕ) → k < item_count l → (a i : ℕ)
      → SomeAccess (writes_cell (output_cell a i)) (touches (h k)) → k ≡ owner a i

-- at the end of the complete run that is told, the outputs hold what is wanted
abbrev pub Leaves : (k : Kernel) (l : Launch) (c : Cells) (h : Histories) (wanted : List (List ℕ))
    (s : State) → Enacts (device_of k l c) s h → Type 0
Leaves k l c h wanted s told = (a i : ℕ) → i < length (row wanted a)
    → (run (device_of k l c) s told.events).memory (output_cell a i) ≡ slice_index (row wanted a) i

-- from each state in which the kernel may begin some complete run has these histories, and leaves
-- what is wanted
abbrev pub EnactsAndLeaves : Kernel → Launch → Cells → Histories → (wanted : List (List ℕ)) → Type 0
EnactsAndLeaves k l c h wanted =
    (s : State) → IsStart k l c s → (told : Enacts (device_of k l c) s h)
    × Leaves k l c h wanted s told
