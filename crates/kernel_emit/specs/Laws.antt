-- Plans give their terms' kernels.
use Rattle.lowered_tree.specs.Whole.{IsSoundTerm}
use Rattle.phase_plan.specs.Plans.{IsTold, declared_in, local_in, tree_in, types_in}
use Rattle.phase_plan.specs.declared.planned.Plan.{Plan}
use Rattle.kernel_emit.specs.Emittable.{IsEmittable}
use Rattle.kernel_emit.specs.Kernels.{IsKernelFor}
use Rattle.kernel_emit.specs.Plain.{IsPlainFor}
use Rattle.kernel_emit.specs.Plans.{printed_for, tidied_for}

-- what is printed for a plan can be, and is what the printers make of its term
abbrev pub PlansCanBeEmitted : Type 0
PlansCanBeEmitted =
    (plan : Plan) → IsSoundTerm (declared_in plan) (tree_in plan) (types_in plan) → IsTold plan
    → IsEmittable plan
    × IsPlainFor (declared_in plan) (local_in plan) (tree_in plan) (types_in plan)
    (printed_for plan)

-- the kernel of a plan is the term's
abbrev pub PlansGiveKernels : Type 0
PlansGiveKernels =
    (plan : Plan) → IsSoundTerm (declared_in plan) (tree_in plan) (types_in plan) → IsTold plan
    → IsKernelFor (declared_in plan) (local_in plan) (tree_in plan) (types_in plan)
    (tidied_for plan)
