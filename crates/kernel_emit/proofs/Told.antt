-- What is printed for a plan, told of the plan.
use Rattle.std.proofs.Common.{◌≡◌, subst, sym}
use Rattle.lowering.specs.Terms.{term_of}
use Rattle.nest_premises.specs.Groups.{LegalTermsArePrintable}
use Rattle.phase_plan.specs.declared.planned.Plan.{Plan}
use Rattle.phase_plan.specs.Plans.{declared_in, local_in, tree_in, types_in}
use Rattle.std.proofs.Math.Logic.{∥∥₁_elim, ∥∥₁_prop}
use Rattle.kernel_tree.specs.Code.{Kernel}
use Rattle.kernel_emit.specs.Kernels.{IsKernelFor}
use Rattle.kernel_emit.specs.Laws.{PlansCanBeEmitted, PlansGiveKernels}
use Rattle.kernel_emit.specs.Plans.{printed_for, tidied_for}
use Rattle.kernel_emit.proofs.Printing.{Known, legal_term, printed_well}
use Rattle.kernel_emit.proofs.Tidied.{Laws, tidied_is}

pub can_be_emitted : Known → PlansCanBeEmitted
can_be_emitted known plan is told =
    let well =
    printed_well known (declared_in plan) (local_in plan) (tree_in plan) (types_in plan) is plan.spaced.now.mapped.sized told.legal told.arrays.within
    plan.buffers.now.local.items plan.buffers.now.private.items (term_of plan.root) told.arrays told.lowered plan.kind told.kind in
    (record { grammar = well.grammar; copies = well.copies; locals = well.locals; privates = well.privates }, well.plain)

pub give_kernels : Laws → LegalTermsArePrintable → PlansCanBeEmitted → PlansGiveKernels
give_kernels laws printable emitted plan is told =
    let d = declared_in plan in
    let t = tree_in plan in
    let n = types_in plan in
    let can = emitted plan is told in
    tidied_is laws d (local_in plan) t n is.declared.names (printable d t n (legal_term d t n is told.legal) is.copies) (printed_for plan) can.1
    (record { local_bytes = plan.buffers.now.local_bytes; private_cells = plan.buffers.now.private_cells }) can.0.grammar

-- a plan keeps what is told, and a lowered term that it is sound
pub kept : (plan : Plan) → PlansGiveKernels → (k : Kernel) → k ≡ tidied_for plan → ∥ IsKernelFor (declared_in plan) (local_in plan) (tree_in plan) (types_in plan) k ∥₁
kept plan law k is =
    ∥∥₁_elim plan.planned ∥∥₁_prop (λ told. ∥∥₁_elim plan.spaced.now.mapped.lowered.sound ∥∥₁_prop (λ of.
    ∣ subst (IsKernelFor (declared_in plan) (local_in plan) (tree_in plan) (types_in plan)) (sym is) (law plan of told) ∣₁))
