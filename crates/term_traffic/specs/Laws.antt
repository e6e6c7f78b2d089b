-- The traffic of every run of a printed kernel.
use Rattle.std.specs.Prelude.{◌≡◌, ◌<◌, ◌&&◌, ◌==◌, ℕ, Bool, true, false, List, count_by}
use Rattle.kernel_tree.specs.declared.events.Event.{Event}
use Rattle.kernel_tree.specs.Code.{Array, Input, Output, Local, Private, Kernel}
use Rattle.kernel_tree.specs.Device.{State, device_of, IsStart, run, IsRun, IsStuck}
use Rattle.kernel_tree.specs.Faults.{accesses}
use Rattle.kernel_tree.specs.Histories.{is_release}
use Rattle.kernel_tree.specs.Launch.{Launch, Cells, item_count, group_of, ids_of}
use Rattle.barrier_placement.specs.Fencing.{Fencing}
use Rattle.lift_tree.specs.Annotations.{Annotation}
use Rattle.lift_tree.specs.Launches.{Asks}
use Rattle.lift_tree.specs.Meaning.{World}
use Rattle.lift_tree.specs.Tree.{Tree}
use Rattle.lift_tree.specs.Typing.{Declared, IsAdmissible}
use Rattle.lift_ir.specs.AtLaunch.{length_at}
use Rattle.lift_ir.specs.Lowering.{Lowered}
use Rattle.lift_ir.specs.Terms.{HasType}
use Rattle.lift_ir.specs.Types.{Ty}
use Rattle.printed_form.specs.Programs.{lowered_root, AreBuffersOf, IsLaunchOf, IsLowerableProgram}
use Rattle.group_form.specs.Kernels.{Printer, StandsForLaunch, AreNeededBy, PrintsBy}
use Rattle.term_traffic.specs.Short.{HasShortLoops}
use Rattle.term_traffic.specs.Traffic.{ItemTraffic, traffic_of, releases_of}

-- an array of global memory
abbrev pub is_global : Array → Bool
is_global (Input n) = true
is_global (Output n) = true
is_global (Local n) = false
is_global (Private n) = false

-- and one of local memory
abbrev pub is_local : Array → Bool
is_local (Local n) = true
is_local (Input n) = false
is_local (Output n) = false
is_local (Private n) = false

-- a read, and a write
abbrev pub is_read : Bool → Bool
is_read true = false
is_read false = true

-- how many accesses of a kind an item has made in a run; an access of four cells is four
abbrev pub accesses_by : (k : Kernel) (l : Launch) (c : Cells) → State → List Event → (item : ℕ)
    → (Array → Bool → Bool) → ℕ
accesses_by k l c s es j p =
    count_by (λ a. (a.item == j) && p a.cell.array a.writes) (accesses (device_of k l c) s es)

-- the item's loads and stores in a run
abbrev pub traffic_by : (k : Kernel) (l : Launch) (c : Cells) → State → List Event → (item : ℕ)
    → ItemTraffic
traffic_by k l c s es j = record {
  global_loads = accesses_by k l c s es j (λ a w. is_global a && is_read w);
  global_stores = accesses_by k l c s es j (λ a w. is_global a && w);
  local_loads = accesses_by k l c s es j (λ a w. is_local a && is_read w);
  local_stores = accesses_by k l c s es j (λ a w. is_local a && w);
}

-- an item's loads and stores, and the releases of its group, are those of the term
pub record HasTraffic (d : Declared) (bases : List ℕ) (t : Tree) (a : Annotation)
    (fence : ℕ → Fencing) (k : Kernel) (l : Launch) (c : Cells) (s : State) (es : List Event)
    (item : ℕ) : Type 0 where
  pub accesses : traffic_by k l c s es item
      ≡ traffic_of (length_at bases) (ids_of l item) (lowered_root d.names t a)
  pub releases : count_by (is_release (group_of l item)) es
      ≡ releases_of (length_at bases) (ids_of l item) fence (lowered_root d.names t a)

-- every run that can't go on, of a kernel that is printed for a typed term, has the term's traffic,
-- with the barriers that the term needs
abbrev pub RunsHaveTraffic : Type 0
RunsHaveTraffic =
    (p : Printer) (d : Declared) (asks : Asks) (w : World) (t : Tree) (a : Annotation) (l : Launch)
    (k : Kernel) (c : Cells) (fence : ℕ → Fencing) (s : State) (es : List Event) (item : ℕ)
    → IsLowerableProgram d w.bases t a → StandsForLaunch p l (lowered_root d.names t a)
    → IsAdmissible d w → IsLaunchOf d asks w.bases t a l → AreBuffersOf d w t a c
    → PrintsBy p d asks.local w.bases t a l k → AreNeededBy p d asks.local fence t a
    → IsStart k l c s → IsRun (device_of k l c) s es
    → IsStuck (device_of k l c) (run (device_of k l c) s es) → item < item_count l
    → HasTraffic d w.bases t a fence k l c s es item

-- a typed term's maps and folds are short
abbrev pub TypedTermsHaveShortLoops : Type 0
TypedTermsHaveShortLoops =
    (bases : List ℕ) (src g : ℕ → Ty) (t : Lowered) (ty : Ty) → HasType (length_at bases) src g t ty
    → HasShortLoops (length_at bases) t
