-- Kernels of pairs of work-items that swap words over a barrier, in any spelling of their indices.
use Rattle.std.specs.Prelude.{◌≡◌, ℕ, ◌*◌, ◌/◌, ◌%◌, ◌-◌, ◌<◌, Bool, true, false, not, ◌==◌, ◌&&◌, List, [], ◌∷◌, Some, None, count_by}
use Rattle.scalar_ops.specs.declared.op.Op.TheVariants.{Add, Sub}
use Rattle.kernel_tree.specs.declared.tree.Dimension.TheVariants.{X}
use Rattle.kernel_tree.specs.Formula.{Formula, Number, Id, LocalId, Binary, Choose, Equal, Ids, Vars, value}
use Rattle.kernel_tree.specs.Code.{Array, Input, Output, Local, Private, End, Performs, Loads, Stores, Kernel}
use Rattle.kernel_tree.specs.Launch.{Launch, in_a_row, Cells}
use Rattle.kernel_tree.specs.declared.events.Event.{Event}
use Rattle.kernel_tree.specs.Device.{Cell, device_of, State, IsStart, run, IsRun, IsStuck}
use Rattle.kernel_tree.specs.Faults.{accesses}
use Rattle.kernel_tree.specs.Deeds.{Got, Gave}
use Rattle.kernel_tree.specs.Histories.{Did, Past, is_release}
use Rattle.kernel_tree.specs.Alike.{Histories}
use Rattle.worked_kernels.specs.DeviceKernels.{meets}

-- l0[own] = 1u; barrier(CLK_LOCAL_MEM_FENCE); v0 = l0[other];
abbrev pub swap_kernel : (own other : Formula) → Kernel
swap_kernel own other = record {
  inputs = 0;
  outputs = 0;
  sizes = 0;
  locals = 2 ∷ [];
  privates = [];
  variables = 1;
  vectors = 0;
  local = None;
  code =
      Performs (Stores (Local 0) own (Number 1)) (meets (Performs (Loads 0 (Local 0) other) End));
}

-- the own word is the local id's, and the other one the other's
pub record AreIndices (own other : Formula) : Type 0 where
  pub own_is : (ids : Ids) (vars : Vars) → ids.x.local_id < 2
      → value ids [] vars own ≡ Some (ids.x.local_id)
  pub other_is : (ids : Ids) (vars : Vars) → ids.x.local_id < 2
      → value ids [] vars other ≡ Some (1 - ids.x.local_id)

-- this many groups of two
abbrev pub pairs : ℕ → Launch
pairs m = in_a_row (m * 2) 2 []

-- a word of a group's local array
abbrev pub word_of : (group index : ℕ) → Cell
word_of g i = record { array = Local 0; home = g; index = i }

-- each item stores its own word, passes the barrier and loads the other word
abbrev pub swap_histories : Histories
swap_histories j =
    Did (Gave (word_of (j / 2) (j % 2)) 1) ∷ Past true false
    ∷ Did (Got (word_of (j / 2) (1 - j % 2))) ∷ []

-- a local array
abbrev pub is_local : Array → Bool
is_local (Local n) = true
is_local (Input n) = false
is_local (Output n) = false
is_local (Private n) = false

-- two spellings
abbrev pub plain_kernel : Kernel
plain_kernel = swap_kernel (Id X LocalId) (Binary Sub (Number 1) (Id X LocalId))

-- the same in another spelling
abbrev pub choosing_kernel : Kernel
choosing_kernel =
    swap_kernel (Binary Add (Id X LocalId) (Number 0))
    (Choose Equal (Id X LocalId) (Number 0) (Number 1) (Number 0))

-- in every run that cannot go on each item has written one local word and read one, and each group
-- was released once
pub record SwapTraffic (m : ℕ) (c : Cells) (s : State) (es : List Event) : Type 0 where
  pub stores : (k : ℕ) → k < m * 2
      → count_by (λ a. (a.item == k) && (a.writes && is_local a.cell.array))
      (accesses (device_of plain_kernel (pairs m) c) s es)
      ≡ 1
  pub loads : (k : ℕ) → k < m * 2
      → count_by (λ a. (a.item == k) && (not a.writes && is_local a.cell.array))
      (accesses (device_of plain_kernel (pairs m) c) s es)
      ≡ 1
  pub released : (g : ℕ) → g < m → count_by (is_release g) es ≡ 1

-- so it is in every such run
abbrev pub SwapsCount : Type 0
SwapsCount =
    (m : ℕ) (c : Cells) (s : State) (es : List Event) → IsStart plain_kernel (pairs m) c s
    → IsRun (device_of plain_kernel (pairs m) c) s es
    → IsStuck (device_of plain_kernel (pairs m) c) (run (device_of plain_kernel (pairs m) c) s es)
    → SwapTraffic m c s es
