-- A kernel of these counts, lengths and statements.
use Rattle.std.proofs.Common.{◌≡◌, ◌∙◌, ℕ, List, refl, ap, inl, inr, sym, Option, ◌⊎◌}
use Rattle.lift_tree.specs.Types.{PlainTy}
use Rattle.lift_tree.specs.Typing.{Declared}
use Rattle.lift_ir.specs.AtLaunch.{shape_of}
use Rattle.lift_ir.specs.Lowering.{Lowered}
use Rattle.length_spelling.specs.Formulas.{length_formula}
use Rattle.tidy_indices.specs.Tidy.{tidy_formula}
use Rattle.tidy_kernels.specs.Pass.{tidied_kernel}
use Rattle.printed_form.specs.Printer.{kernel_code}
use Rattle.printed_form.specs.Programs.{first_buffer, input_shape}
use Rattle.barrier_placement.specs.Fencing.{fence}
use Rattle.group_form.specs.ChosenForms.{forms_of}
use Rattle.group_form.specs.GridChosen.{grid_forms_of}
use Rattle.group_form.specs.GridPrinter.{grid_kernel_code}
use Rattle.group_form.specs.Printer.{group_kernel_code}
use Rattle.item_emit.specs.Inputs.{declared_in as emitted}
use Rattle.group_emit.specs.Settings.{fence_in, spell_of}
use Rattle.group_emit.specs.declared.setting.Setting.{Setting}
use Rattle.phase_plan.specs.Plans.{declared_in}
use Rattle.phase_plan.specs.declared.kind.Kind.{Kind}
use Rattle.phase_plan.specs.declared.kind.Kind.TheVariants.{Task, OverLaunch, OverGroups, OverGrid}
use Rattle.phase_plan.specs.declared.phases.Phases.{Phases}
use Rattle.phase_plan.specs.declared.planned.Plan.{Plan}
use Rattle.kernel_emit.specs.Plans.{code_for, printed_for, tidied_for}
use Rattle.kernel_tree.specs.declared.tree.Stmt.{Stmt}
use Rattle.kernel_tree.specs.Code.{Code, End, Kernel}
use Rattle.kernel_tree.specs.Tree.{code_then, kernel_with}

pub kernel_is : (k : Kernel) (inputs outputs sizes variables vectors : ℕ) (locals privates : List ℕ) (body : List Stmt) (local : Option (ℕ × ℕ)) → inputs ≡ k.inputs → outputs ≡ k.outputs → sizes ≡ k.sizes → locals ≡ k.locals → privates ≡ k.privates → variables ≡ k.variables → code_then body End ≡ k.code
    → vectors ≡ k.vectors → local ≡ k.local → kernel_with inputs outputs sizes locals privates variables vectors local body ≡ k
kernel_is k i o s v f ls ps body local ei eo es el ep ev ec ef eg = rw (ei, eo, es, el, ep, ev, ec, ef, eg) refl

-- the code of a term that items run, and of one that work-groups or rows of them run, as the plan's
-- kind says
pub task_code : (d : Declared) (local : Option (ℕ × ℕ)) (root : Lowered) (a b : PlainTy) (kind : Kind) (inputs : List PlainTy) (code : Code) → kind ≡ Task → inputs ≡ d.inputs → b ≡ a
    → code ≡ kernel_code (length_formula d.names) (first_buffer inputs) (input_shape inputs) root (shape_of b) → code ≡ code_for d local root a kind
task_code d local root a b kind inputs code k i t h = h ∙ (λ j. kernel_code (length_formula d.names) (first_buffer (i j)) (input_shape (i j)) root (shape_of (t j))) ∙ sym (ap (code_for d local root a) k)

pub launch_code : (d : Declared) (local : Option (ℕ × ℕ)) (root : Lowered) (a b : PlainTy) (kind : Kind) (inputs : List PlainTy) (code : Code) → kind ≡ OverLaunch → inputs ≡ d.inputs → b ≡ a
    → code ≡ kernel_code (length_formula d.names) (first_buffer inputs) (input_shape inputs) root (shape_of b) → code ≡ code_for d local root a kind
launch_code d local root a b kind inputs code k i t h = h ∙ (λ j. kernel_code (length_formula d.names) (first_buffer (i j)) (input_shape (i j)) root (shape_of (t j))) ∙ sym (ap (code_for d local root a) k)

pub items_code : (d : Declared) (local : Option (ℕ × ℕ)) (root : Lowered) (a b : PlainTy) (kind : Kind) (inputs : List PlainTy) (code : Code) → (kind ≡ Task) ⊎ (kind ≡ OverLaunch) → inputs ≡ d.inputs → b ≡ a
    → code ≡ kernel_code (length_formula d.names) (first_buffer inputs) (input_shape inputs) root (shape_of b) → code ≡ code_for d local root a kind
items_code d local root a b kind inputs code (inl k) = task_code d local root a b kind inputs code k
items_code d local root a b kind inputs code (inr k) = launch_code d local root a b kind inputs code k

pub groups_code : (d : Declared) (local : Option (ℕ × ℕ)) (root : Lowered) (a b : PlainTy) (phases : Phases) (kind : Kind) (s : Setting) (code : Code) → kind ≡ OverGroups phases → emitted s.declared ≡ d → s.local ≡ local → fence_in s ≡ fence phases.count phases.barriers.items → b ≡ a
    → code ≡ group_kernel_code (spell_of s) (forms_of s.declared.names.now s.local) (first_buffer (emitted s.declared).inputs) (input_shape (emitted s.declared).inputs) (fence_in s) root (shape_of b) → code ≡ code_for d local root a kind
groups_code d local root a b phases kind s code k is l f t h = h ∙ (λ j. group_kernel_code (length_formula (is j).names) (forms_of (is j).names (l j)) (first_buffer (is j).inputs) (input_shape (is j).inputs) (f j) root (shape_of (t j))) ∙ sym (ap (code_for d local root a) k)

pub grid_code : (d : Declared) (local : Option (ℕ × ℕ)) (root : Lowered) (a b : PlainTy) (phases : Phases) (kind : Kind) (s : Setting) (code : Code) → kind ≡ OverGrid phases → emitted s.declared ≡ d → s.local ≡ local → fence_in s ≡ fence phases.count phases.barriers.items → b ≡ a
    → code ≡ grid_kernel_code (spell_of s) (grid_forms_of s.declared.names.now s.local) (first_buffer (emitted s.declared).inputs) (input_shape (emitted s.declared).inputs) (fence_in s) root (shape_of b) → code ≡ code_for d local root a kind
grid_code d local root a b phases kind s code k is l f t h = h ∙ (λ j. grid_kernel_code (length_formula (is j).names) (grid_forms_of (is j).names (l j)) (first_buffer (is j).inputs) (input_shape (is j).inputs) (f j) root (shape_of (t j))) ∙ sym (ap (code_for d local root a) k)

-- what is printed for a plan, simplified, is its kernel
pub emitted_is : (plan : Plan) (k made : Kernel) → k ≡ tidied_kernel (tidy_formula (declared_in plan).names made.local) made → made ≡ printed_for plan → k ≡ tidied_for plan
emitted_is plan k made h is = h ∙ ap (λ (x : Kernel). tidied_kernel (tidy_formula (declared_in plan).names x.local) x) is
