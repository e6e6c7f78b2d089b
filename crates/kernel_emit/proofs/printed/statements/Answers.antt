use Rattle.std.proofs.Common.{◌≡◌, ◌∙◌, ap, map}
use Rattle.std.proofs.lemmas.Result.{IfOk-weaker}
use Rattle.lift_tree.specs.Annotations.{type_in}
use Rattle.lift_tree.specs.Types.{ty_of}
use Rattle.kernel_tree.specs.Code.{End}
use Rattle.kernel_tree.specs.Tree.{code_then}
use Rattle.lift_ir.specs.AtLaunch.{shape_of}
use Rattle.length_spelling.specs.Formulas.{length_formula}
use Rattle.printed_form.specs.Printer.{kernel_code}
use Rattle.printed_form.specs.Programs.{first_buffer, input_shape}
use Rattle.group_form.specs.ChosenForms.{forms_of}
use Rattle.group_form.specs.GridChosen.{grid_forms_of}
use Rattle.group_form.specs.GridPrinter.{grid_kernel_code}
use Rattle.group_form.specs.Printer.{group_kernel_code}
use Rattle.lowering.specs.Terms.{term_of}
use Rattle.item_emit.specs.Inputs.{declared_in as emitted}
use Rattle.group_emit.specs.Settings.{fence_in, spell_of}
use Rattle.phase_plan.specs.Plans.{declared_in, local_in, types_in}
use Rattle.kernel_emit.specs.Plans.{code_for}
use Rattle.kernel_emit.proofs.Made.{grid_code, groups_code, items_code}
use Rattle.kernel_emit.proofs.printed.statements.Goals as goal

pub returns-in-OverGrid : goal.returns-in-OverGrid
returns-in-OverGrid c =
    let plan = c.args.plan.now in
    let d = declared_in plan in
    let local = local_in plan in
    let own = ty_of c.own_type-in-OverGrid.result.now in
    let phases = c.in-OverGrid.phases in
    let s = c.setting_in-setting-in-OverGrid.result in
    let same = ap emitted c.setting_in-setting-in-OverGrid.ensures.declared ∙ ap (λ i. record { names = d.names; inputs = map ty_of i }) c.deref.ensures.value in
    IfOk-weaker c.statements-in-OverGrid.result
    (λ ss. code_then ss.items End ≡ grid_kernel_code (spell_of s) (grid_forms_of s.declared.names.now s.local) (first_buffer (emitted s.declared).inputs) (input_shape (emitted s.declared).inputs) (fence_in s) (term_of plan.root) (shape_of own))
    (λ ss. code_then ss.items End ≡ code_for d local (term_of plan.root) (type_in (types_in plan)) plan.kind)
    (λ ss h. grid_code d local (term_of plan.root) (type_in (types_in plan)) own phases plan.kind s (code_then ss.items End) c.in-OverGrid.is same c.setting_in-setting-in-OverGrid.ensures.local c.setting_in-setting-in-OverGrid.ensures.fence c.own_type-in-OverGrid.ensures h)
    c.statements-in-OverGrid.ensures

pub returns-in-OverGroups : goal.returns-in-OverGroups
returns-in-OverGroups c =
    let plan = c.args.plan.now in
    let d = declared_in plan in
    let local = local_in plan in
    let own = ty_of c.own_type.result.now in
    let phases = c.in-OverGroups.phases in
    let s = c.setting_in-setting.result in
    let same = ap emitted c.setting_in-setting.ensures.declared ∙ ap (λ i. record { names = d.names; inputs = map ty_of i }) c.deref.ensures.value in
    IfOk-weaker c.statements.result
    (λ ss. code_then ss.items End ≡ group_kernel_code (spell_of s) (forms_of s.declared.names.now s.local) (first_buffer (emitted s.declared).inputs) (input_shape (emitted s.declared).inputs) (fence_in s) (term_of plan.root) (shape_of own))
    (λ ss. code_then ss.items End ≡ code_for d local (term_of plan.root) (type_in (types_in plan)) plan.kind)
    (λ ss h. groups_code d local (term_of plan.root) (type_in (types_in plan)) own phases plan.kind s (code_then ss.items End) c.in-OverGroups.is same c.setting_in-setting.ensures.local c.setting_in-setting.ensures.fence c.own_type.ensures h)
    c.statements.ensures

pub returns-in-Task : goal.returns-in-Task
returns-in-Task c =
    let plan = c.args.plan.now in
    let d = declared_in plan in
    let local = local_in plan in
    let inputs = map ty_of c.deref.result.now in
    let own = ty_of c.own_type-in-Task.result.now in
    IfOk-weaker c.statements-in-Task.result
    (λ ss. code_then ss.items End ≡ kernel_code (length_formula d.names) (first_buffer inputs) (input_shape inputs) (term_of plan.root) (shape_of own))
    (λ ss. code_then ss.items End ≡ code_for d local (term_of plan.root) (type_in (types_in plan)) plan.kind)
    (λ ss h. items_code d local (term_of plan.root) (type_in (types_in plan)) own plan.kind inputs (code_then ss.items End) c.in-Task.is (ap (map ty_of) c.deref.ensures.value) c.own_type-in-Task.ensures h)
    c.statements-in-Task.ensures
