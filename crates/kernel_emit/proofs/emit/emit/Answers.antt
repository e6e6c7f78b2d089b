use Rattle.std.proofs.Common.{◌≡◌}
use Rattle.std.proofs.Math.Logic.{∥∥₁_elim}
use Rattle.std.proofs.lemmas.Result.{IfOk-weaker}
use Rattle.std.specs.Coded.{le_prop}
use Rattle.kernel_tree.specs.Kernels.{kernel_of}
use Rattle.kernel_tree.specs.declared.tree.Kernel.{Kernel as EmittedKernel}
use Rattle.lowering.specs.Terms.{term_of}
use Rattle.tidy_indices.specs.Tidy.{tidy_formula}
use Rattle.tidy_kernels.specs.Pass.{tidied_kernel}
use Rattle.phase_plan.specs.Plans.{declared_in, local_in, tree_in, types_in}
use Rattle.kernel_emit.specs.Kernels.{IsKernelFor}
use Rattle.kernel_emit.specs.Plans.{printed_for, tidied_for}
use Rattle.kernel_emit.proofs.Made.{emitted_is}
use Rattle.kernel_emit.proofs.Told.{kept}
use Rattle.kernel_emit.proofs.Short.{copies_once, grammar_once}
use Rattle.kernel_emit.proofs.emit.emit.Goals as goal

pub printed-requires : goal.printed-requires
printed-requires c =
    let plan = c.args.plan.now in
    let told = plan.planned in
    let of = plan.spaced.now.mapped.lowered.sound in
    let law = c.plans_can_be_emitted.ensures plan in
    record {
      grammar = ∥∥₁_elim told (grammar_once (printed_for plan)) (λ t. ∥∥₁_elim of (grammar_once (printed_for plan)) (λ p. (law p t).0.grammar));
      copies = ∥∥₁_elim told (copies_once (term_of plan.root)) (λ t. ∥∥₁_elim of (copies_once (term_of plan.root)) (λ p. (law p t).0.copies));
      locals = ∥∥₁_elim told le_prop (λ t. ∥∥₁_elim of le_prop (λ p. (law p t).0.locals));
      privates = ∥∥₁_elim told le_prop (λ t. ∥∥₁_elim of le_prop (λ p. (law p t).0.privates));
    }

pub returns-clause-printed : goal.returns-clause-printed
returns-clause-printed c =
    let plan = c.args.plan.now in
    let plain = kernel_of c.in_ok-kernel.kernel in
    IfOk-weaker c.tidied.result
    (λ (k : EmittedKernel). kernel_of k ≡ tidied_kernel (tidy_formula (declared_in plan).names plain.local) plain)
    (λ (k : EmittedKernel). kernel_of k ≡ tidied_for plan)
    (λ k h. emitted_is plan (kernel_of k) plain h c.in_ok-kernel.ensures)
    c.tidied.ensures

pub returns-clause-meets : goal.returns-clause-meets
returns-clause-meets c =
    let plan = c.args.plan.now in
    let plain = kernel_of c.in_ok-kernel.kernel in
    IfOk-weaker c.tidied.result
    (λ (k : EmittedKernel). kernel_of k ≡ tidied_kernel (tidy_formula (declared_in plan).names plain.local) plain)
    (λ (k : EmittedKernel). ∥ IsKernelFor (declared_in plan) (local_in plan) (tree_in plan) (types_in plan) (kernel_of k) ∥₁)
    (λ k h. kept plan c.plans_give_kernels.ensures (kernel_of k) (emitted_is plan (kernel_of k) plain h c.in_ok-kernel.ensures))
    c.tidied.ensures
