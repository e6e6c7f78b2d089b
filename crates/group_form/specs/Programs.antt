-- A kernel printed for a whole program's typed term that is a map over work-groups.
use Rattle.std.specs.Prelude.{ℕ, List, Option}
use Rattle.lift_tree.specs.Tree.{Tree}
use Rattle.lift_tree.specs.Typing.{Declared}
use Rattle.lift_tree.specs.Annotations.{Annotation, type_in}
use Rattle.kernel_tree.specs.Code.{Kernel}
use Rattle.kernel_tree.specs.Launch.{Launch}
use Rattle.barrier_placement.specs.Fencing.{Fencing}
use Rattle.barrier_placement.specs.Needed.{Needed}
use Rattle.lift_ir.specs.AtLaunch.{length_at, ty_at}
use Rattle.printed_form.specs.Printer.{input_marks}
use Rattle.printed_form.specs.Programs.{input_shape, first_buffer, lowered_root, DeclaresFor}
use Rattle.printed_form.specs.Whole.{no_marks, output_marks}
use Rattle.group_form.specs.Uses.{phase_count, group_touches}
use Rattle.group_form.specs.ChosenForms.{forms_of}
use Rattle.group_form.specs.Form.{is_once, IsOverGroups}
use Rattle.group_form.specs.GridChosen.{grid_forms_of}
use Rattle.group_form.specs.GridForm.{IsOverGrid}
use Rattle.group_form.specs.GridTerms.{grid_touches}
use Rattle.group_form.specs.GridTheorem.{is_once_over, grid_phase_count}

-- the kernel is printed for the typed term at a launch, where the base names have these values, as
-- a map over groups, each map in the form that the fixed size gives it, with the needed barriers
pub record PrintsGroups (d : Declared) (size : Option (ℕ × ℕ)) (bases : List ℕ) (t : Tree)
    (a : Annotation) (l : Launch) (k : Kernel) : Type 0 where
  pub declares : DeclaresFor d size t a k
  pub fence : ℕ → Fencing
  pub needed : Needed (group_touches (lowered_root d.names t a))
      (is_once (forms_of d.names size) (lowered_root d.names t a))
      (phase_count (lowered_root d.names t a)) fence
  pub code : IsOverGroups (length_at bases) (forms_of d.names size) l
      (input_marks (length_at bases) (first_buffer d.inputs) (input_shape d.inputs)) fence no_marks
      (lowered_root d.names t a) (output_marks (ty_at bases (type_in a))) k.code

-- and as a map over rows of groups
pub record PrintsGrids (d : Declared) (size : Option (ℕ × ℕ)) (bases : List ℕ) (t : Tree)
    (a : Annotation) (l : Launch) (k : Kernel) : Type 0 where
  pub declares : DeclaresFor d size t a k
  pub fence : ℕ → Fencing
  pub needed : Needed (grid_touches (lowered_root d.names t a))
      (is_once_over (grid_forms_of d.names size) (lowered_root d.names t a))
      (grid_phase_count (lowered_root d.names t a)) fence
  pub code : IsOverGrid (length_at bases) (grid_forms_of d.names size) l
      (input_marks (length_at bases) (first_buffer d.inputs) (input_shape d.inputs)) fence no_marks
      (lowered_root d.names t a) (output_marks (ty_at bases (type_in a))) k.code
