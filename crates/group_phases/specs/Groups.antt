-- A map over work-groups: the i-th turn is taken by the group i mod (G0 / L0), whose items go
-- through phases with barriers between them.
use Rattle.std.specs.Prelude.{Bool, map, ◌≡◌, ℕ, ◌<◌, ◌≤◌, suc, List, [], length, slice_index, ◌⊎◌}
use Rattle.kernel_tree.specs.Formula.{Vars}
use Rattle.kernel_tree.specs.Code.{Code, End, Kernel}
use Rattle.kernel_tree.specs.Launch.{Launch, Cells, IsWhole, ids_of, group_of, groups_across, item_count}
use Rattle.kernel_tree.specs.Item.{Item, item, Ends, next, Frame}
use Rattle.kernel_tree.specs.Device.{Cell, device_of, row, still}
use Rattle.kernel_tree.specs.Strides.{turns_of}
use Rattle.barrier_placement.specs.Fencing.{Fencing}
use Rattle.printed_form.specs.Counts.{Count}
use Rattle.printed_form.specs.Runs.{Fits}
use Rattle.group_phases.specs.Bodies.{CanDo, CanHop}
use Rattle.group_phases.specs.Cells.{output_cell, IsOwnOutput}
use Rattle.group_phases.specs.Epochs.{IsPast, KeepsApart}
use Rattle.group_phases.specs.TurnForms.{Form, TakesTurns}
use Rattle.group_phases.specs.Work.{Work, IsOwnLocal, IsKnown}

-- A body of so many phases: the code before what stands before each phase, what stands there, and
-- the code after it. `frames t k` are the loops around it for item k in turn t, and `turns g` is
-- how many turns group g has.
pub record Body : Type 0 where
  pub count : ℕ
  pub before : (phase : ℕ) → Code
  pub fence : (phase : ℕ) → Fencing
  pub code : (phase : ℕ) → Code
  pub frames : (turn item : ℕ) → List Frame
  pub turns : (group : ℕ) → ℕ

-- the items do this work in the phases of this body
pub record GroupPhases (kernel : Kernel) (l : Launch) (c : Cells) (owner : (array index : ℕ) → ℕ)
    (b : Body) (w : Work) : Type 0 where
  pub whole : IsWhole l
  pub same_turns : (t i j : ℕ) → group_of l i ≡ group_of l j
      → map still (b.frames t i) ≡ map still (b.frames t j)
  pub past : (q : ℕ) → q ≤ b.count → IsPast (b.fence q) (b.before q) (b.code q)
  pub does : (t q k : ℕ) → t < b.turns (group_of l k) → q < b.count → k < item_count l
      → (vars : Vars) → w.knows t q k vars
      → CanDo (device_of kernel l c) k (IsKnown l c w t q k) (w.targets t q k)
      (w.value (group_of l k) t) (b.frames t k) (b.code q) vars (b.before (suc q))
      (w.knows t (suc q) k)
  pub runs_in : (epoch phase : ℕ) → Bool
  pub apart : KeepsApart w.touches b.count b.fence b.turns runs_in
  pub due : (t q k : ℕ) (x : Cell) → q < b.count → k < item_count l → w.targets t q k x
      → IsOwnOutput owner k x ⊎ IsOwnLocal l w q k x
  pub differ : (a i t q k u r j : ℕ) → q < b.count → r < b.count → k < item_count l
      → j < item_count l → w.targets t q k (output_cell a i) → w.targets u r j (output_cell a i)
      → (t ≡ u) × (q ≡ r)

-- the private variables of a kernel
abbrev pub declared : Kernel → Count
declared k = record { words = k.variables; fours = k.vectors }

-- each word that is wanted is written by its cell's owner in one of n phases of some turn
pub record GroupOutputs (l : Launch) (owner : (array index : ℕ) → ℕ) (wanted : List (List ℕ))
    (n : ℕ) (turns : ℕ → ℕ) (w : Work) : Type 0 where
  pub owners_within : (a i : ℕ) → owner a i < item_count l
  pub all : (a i : ℕ) → i < length (row wanted a)
      → (t q : ℕ) × (t < turns (group_of l (owner a i))) × (q < n)
      × w.targets t q (owner a i) (output_cell a i)
      × (w.value (group_of l (owner a i)) t (output_cell a i) ≡ slice_index (row wanted a) i)

-- before turn t the k-th item stands at the body's beginning, or, past its group's turns, has ended
pub record IsBefore (l : Launch) (b : Body) (w : Work) (t k : ℕ) (y : Item) : Type 0 where
  pub begun : t < b.turns (group_of l k)
      → (y ≡ item (b.before 0) (b.frames t k) y.vars) × w.knows t 0 k y.vars
  pub over : b.turns (group_of l k) ≤ t → next (ids_of l k) y ≡ Ends

-- the kernel takes each item to the body turn by turn, by whatever statements, and in between
-- writes no cell that others may reach
pub record GroupTurns (kernel : Kernel) (l : Launch) (c : Cells) (b : Body)
    (w : Work) : Type 0 where
  pub begins : (k : ℕ) (vars : Vars) → k < item_count l → Fits (declared kernel) vars
      → CanHop (device_of kernel l c) k c (item kernel.code [] vars) (IsBefore l b w 0 k)
  pub again : (t k : ℕ) (vars : Vars) → t < b.turns (group_of l k) → k < item_count l
      → w.knows t b.count k vars
      → CanHop (device_of kernel l c) k c (item (b.code b.count) (b.frames t k) vars)
      (IsBefore l b w (suc t) k)

-- so it is where the whole kernel is a form of turns around the body, which the
-- items of a group take as often
pub record GroupForm (kernel : Kernel) (l : Launch) (c : Cells) (form : ℕ → Form) (b : Body)
    (w : Work) : Type 0 where
  pub takes : (k : ℕ) → k < item_count l
      → TakesTurns (device_of kernel l c) k [] kernel.code End (form k)
  pub count : (k : ℕ) → (form k).count ≡ b.turns (group_of l k)
  pub first : (k : ℕ) → (form k).first ≡ b.before 0
  pub last : (k : ℕ) → (form k).last ≡ b.code b.count
  pub frames : (t k : ℕ) → (form k).frames t ≡ b.frames t k
  pub begins : (k : ℕ) (vars : Vars) → k < item_count l → Fits (declared kernel) vars
      → w.knows 0 0 k vars
  pub again : (t k : ℕ) (vars : Vars) → k < item_count l → w.knows t b.count k vars
      → w.knows (suc t) 0 k vars

-- how often the loop over groups is taken by one of them
abbrev pub loop_turns : Launch → (len : ℕ) → (group : ℕ) → ℕ
loop_turns l len g = turns_of len (groups_across l) g
