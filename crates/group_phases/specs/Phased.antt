-- The body of a map over work-groups as it is printed: phases one after
-- another, whatever stands between them.
use Rattle.std.specs.Prelude.{◌≡◌, ℕ, ◌<◌, Bool, zero, suc, List, [], Some, map, ◌⊎◌}
use Rattle.lift_tree.specs.declared.term.Dimension.TheVariants.{X}
use Rattle.kernel_tree.specs.Formula.{Formula, bound_value, Vars}
use Rattle.kernel_tree.specs.Code.{Code, End, Kernel}
use Rattle.kernel_tree.specs.Launch.{Launch, Cells, IsWhole, group_of, item_count}
use Rattle.kernel_tree.specs.Item.{Frame, loop_variables}
use Rattle.kernel_tree.specs.Device.{Cell, device_of, still}
use Rattle.barrier_placement.specs.Fencing.{Fencing}
use Rattle.printed_form.specs.MapForms.{statement_over_groups}
use Rattle.printed_form.specs.Runs.{Fits}
use Rattle.group_phases.specs.Bodies.{CanDo}
use Rattle.group_phases.specs.Cells.{output_cell, IsOwnOutput}
use Rattle.group_phases.specs.Epochs.{IsPast}
use Rattle.group_phases.specs.Work.{Work, IsOwnLocal, IsKnown}
use Rattle.group_phases.specs.Groups.{GroupOutputs, declared}
use Rattle.group_phases.specs.TurnForms.{Form, TakesTurns, Tests}

-- m phases from phase q on, and then what closes: `IsPhase q code rest` says that
-- code is phase q, and then the rest
abbrev pub ArePhases : (fence : ℕ → Fencing) (IsPhase : ℕ → Code → Code → Type 0) (q m : ℕ) → Code
    → Type 0
ArePhases fence IsPhase q zero code = IsPast (fence q) code End
ArePhases fence IsPhase q (suc m) code =
    (mid rest : Code) × IsPast (fence q) code mid × IsPhase q mid rest
    × ArePhases fence IsPhase (suc q) m rest

-- a kernel that is one statement over the groups of a row, an `if` where `once` and else a loop, of
-- `len` turns in all, around n phases
pub record IsGroupKernel (k : Kernel) (l : Launch) (once : Bool) (len n : ℕ) (fence : ℕ → Fencing)
    (IsPhase : ℕ → Code → Code → Type 0) : Type 0 where
  pub bound : Formula
  pub body : Code
  pub code : k.code ≡ statement_over_groups X once bound body
  pub bound_is : bound_value l.sizes bound ≡ Some len
  pub phases : ArePhases fence IsPhase 0 n body

-- a kernel whose whole code is a form of turns around n phases, in whatever loops; `variables t j`
-- are the values of their variables in the j-th item's turn t
pub record IsFormKernel (k : Kernel) (l : Launch) (c : Cells) (turns : (group : ℕ) → ℕ)
    (variables : (turn item : ℕ) → List ℕ) (n : ℕ) (fence : ℕ → Fencing)
    (IsPhase : ℕ → Code → Code → Type 0) : Type 0 where
  pub form : (item : ℕ) → Form
  pub body : Code
  pub takes : (j : ℕ) → j < item_count l → TakesTurns (device_of k l c) j [] k.code End (form j)
  pub count : (j : ℕ) → (form j).count ≡ turns (group_of l j)
  pub first : (j : ℕ) → (form j).first ≡ body
  pub last : (j : ℕ) → (form j).last ≡ End
  pub same_turns : (t i j : ℕ) → group_of l i ≡ group_of l j
      → map still ((form i).frames t) ≡ map still ((form j).frames t)
  pub around : (t j : ℕ) → j < item_count l → loop_variables ((form j).frames t) ≡ variables t j
  pub phases : ArePhases fence IsPhase 0 n body

-- each item's code is a statement that enters the phases or passes
-- them, as all items of its group do
pub record IsTestKernel (k : Kernel) (l : Launch) (c : Cells) (turns : (group : ℕ) → ℕ) (n : ℕ)
    (fence : ℕ → Fencing) (IsPhase : ℕ → Code → Code → Type 0) : Type 0 where
  pub body : Code
  pub tests : (j : ℕ) → j < item_count l
      → Tests (device_of k l c) j [] k.code body End (turns (group_of l j))
  pub phases : ArePhases fence IsPhase 0 n body

-- the items do this work in such phases, in any frames with such variables and
-- before any rest. No barrier is named
pub record PhasedMap (k : Kernel) (l : Launch) (c : Cells) (owner : (array index : ℕ) → ℕ)
    (wanted : List (List ℕ)) (turns : (group : ℕ) → ℕ) (variables : (turn item : ℕ) → List ℕ)
    (n : ℕ) (IsPhase : ℕ → Code → Code → Type 0) (w : Work) : Type 0 where
  pub whole : IsWhole l
  pub begins : (j : ℕ) (vars : Vars) → j < item_count l → Fits (declared k) vars
      → w.knows 0 0 j vars
  pub again : (t j : ℕ) (vars : Vars) → j < item_count l → w.knows t n j vars
      → w.knows (suc t) 0 j vars
  pub does : (t q j : ℕ) → t < turns (group_of l j) → q < n → j < item_count l → (fs : List Frame)
      → loop_variables fs ≡ variables t j
      → (code rest : Code) → IsPhase q code rest → (vars : Vars) → w.knows t q j vars
      → CanDo (device_of k l c) j (IsKnown l c w t q j) (w.targets t q j)
      (w.value (group_of l j) t) fs code vars rest (w.knows t (suc q) j)
  pub due : (t q j : ℕ) (b : Cell) → q < n → j < item_count l → w.targets t q j b
      → IsOwnOutput owner j b ⊎ IsOwnLocal l w q j b
  pub differ : (a i t q j u r m : ℕ) → q < n → r < n → j < item_count l → m < item_count l
      → w.targets t q j (output_cell a i) → w.targets u r m (output_cell a i) → (t ≡ u) × (q ≡ r)
  pub outputs : GroupOutputs l owner wanted n turns w
