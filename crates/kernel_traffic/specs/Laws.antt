-- What is told of runs by code and launch alone.
use Rattle.std.specs.Prelude.{◌≡◌, ◌<◌, ◌≤◌, ◌+◌, ◌==◌, ◌&&◌, ℕ, suc, List, count_by}
use Rattle.kernel_tree.specs.declared.events.Event.{Event}
use Rattle.kernel_tree.specs.Code.{Kernel}
use Rattle.kernel_tree.specs.Launch.{Launch, Cells, IsWhole, item_count, group_of, ids_of}
use Rattle.kernel_tree.specs.Item.{Ends}
use Rattle.kernel_tree.specs.Device.{State, IsStart, device_of, wants, run, IsRun}
use Rattle.kernel_tree.specs.Faults.{accesses, NoFailure}
use Rattle.kernel_tree.specs.Histories.{is_release}
use Rattle.kernel_traffic.specs.Traffic.{Accesses, accesses_in, barriers_in, total_in, turns_below}

-- from the bound on there is no turn; before it there is one, and those from the next on
pub record TurnsGoOneByOne : Type 0 where
  pub past : (from bound stride : ℕ) → bound ≤ from → turns_below from bound stride ≡ 0
  pub before : (from bound stride : ℕ) → 0 < stride → from < bound
      → turns_below from bound stride ≡ suc (turns_below (from + stride) bound stride)

-- in a run without a failure an item that has ended has made as many accesses of any kind as its
-- code tells
abbrev pub CodeTellsAccesses : Type 0
CodeTellsAccesses =
    (k : Kernel) (l : Launch) (c : Cells) (s : State) (es : List Event) → IsWhole l
    → IsStart k l c s → IsRun (device_of k l c) s es → NoFailure (device_of k l c) s es → (j : ℕ)
    → j < item_count l → wants (device_of k l c) (run (device_of k l c) s es) j ≡ Ends
    → (p : Accesses)
    → count_by (λ a. (a.item == j) && p a.cell.array a.writes) (accesses (device_of k l c) s es)
    ≡ total_in (accesses_in p) (ids_of l j) k.code

-- and its group has been released as often as its code tells
abbrev pub CodeTellsReleases : Type 0
CodeTellsReleases =
    (k : Kernel) (l : Launch) (c : Cells) (s : State) (es : List Event) → IsWhole l
    → IsStart k l c s → IsRun (device_of k l c) s es → NoFailure (device_of k l c) s es → (j : ℕ)
    → j < item_count l → wants (device_of k l c) (run (device_of k l c) s es) j ≡ Ends
    → count_by (is_release (group_of l j)) es ≡ total_in barriers_in (ids_of l j) k.code
