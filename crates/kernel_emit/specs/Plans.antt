-- The kernel of a plan.
use Rattle.std.specs.Prelude.{ℕ, List, length, Option}
use Rattle.lift_tree.specs.Annotations.{Annotation, type_in}
use Rattle.lift_tree.specs.Types.{PlainTy}
use Rattle.lift_tree.specs.Typing.{Declared}
use Rattle.kernel_tree.specs.Code.{Code, Kernel}
use Rattle.lift_ir.specs.AtLaunch.{shape_of}
use Rattle.lift_ir.specs.Lowering.{Lowered}
use Rattle.lift_ir.specs.Types.{width}
use Rattle.lowering.specs.Terms.{term_of}
use Rattle.length_spelling.specs.Formulas.{length_formula}
use Rattle.tidy_indices.specs.Tidy.{tidy_formula}
use Rattle.tidy_kernels.specs.Pass.{tidied_kernel}
use Rattle.printed_form.specs.Counts.{variable_count}
use Rattle.printed_form.specs.Printer.{kernel_code}
use Rattle.printed_form.specs.Programs.{buffer_count, first_buffer, input_shape}
use Rattle.barrier_placement.specs.Fencing.{fence}
use Rattle.group_form.specs.ChosenForms.{forms_of}
use Rattle.group_form.specs.GridChosen.{grid_forms_of}
use Rattle.group_form.specs.GridPrinter.{grid_kernel_code}
use Rattle.group_form.specs.Printer.{group_kernel_code}
use Rattle.phase_plan.specs.Plans.{declared_in, local_in, types_in}
use Rattle.phase_plan.specs.declared.kind.Kind.{Kind}
use Rattle.phase_plan.specs.declared.kind.Kind.TheVariants.{Task, OverLaunch, OverGroups, OverGrid}
use Rattle.phase_plan.specs.declared.planned.Plan.{Plan}

-- the code of what a term of this type is lowered to, as its kind says: over work-groups, in one
-- dimension or in two, with the barriers of its phases
abbrev pub code_for : Declared → (local : Option (ℕ × ℕ)) → Lowered → PlainTy → Kind → Code
code_for d local root a Task =
    kernel_code (length_formula d.names) (first_buffer d.inputs) (input_shape d.inputs) root
    (shape_of a)
code_for d local root a OverLaunch =
    kernel_code (length_formula d.names) (first_buffer d.inputs) (input_shape d.inputs) root
    (shape_of a)
code_for d local root a (OverGroups phases) =
    group_kernel_code (length_formula d.names) (forms_of d.names local) (first_buffer d.inputs)
    (input_shape d.inputs)
    (fence phases.count phases.barriers.items) root (shape_of a)
code_for d local root a (OverGrid phases) =
    grid_kernel_code (length_formula d.names) (grid_forms_of d.names local) (first_buffer d.inputs)
    (input_shape d.inputs)
    (fence phases.count phases.barriers.items) root (shape_of a)

-- it has a parameter for each component of the inputs, then of the output, then for each size;
-- these arrays; and that code
abbrev pub printed_with : Declared → (local : Option (ℕ × ℕ)) → Annotation
    → (locals privates : List ℕ) → Lowered → Kind → Kernel
printed_with d local n locals privates root kind = record {
  inputs = buffer_count d.inputs;
  outputs = width (shape_of (type_in n));
  sizes = length d.names;
  locals = locals;
  privates = privates;
  variables = (variable_count root).words;
  vectors = (variable_count root).fours;
  local = local;
  code = code_for d local root (type_in n) kind;
}

-- the kernel that is printed for a plan, with indices as they arise
abbrev pub printed_for : Plan → Kernel
printed_for plan =
    printed_with (declared_in plan) (local_in plan) (types_in plan) plan.buffers.now.local.items
    plan.buffers.now.private.items (term_of plan.root) plan.kind

-- with simplified indices and bounds
abbrev pub tidied_for : Plan → Kernel
tidied_for plan =
    tidied_kernel (tidy_formula (declared_in plan).names (local_in plan)) (printed_for plan)
