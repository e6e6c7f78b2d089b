-- Plans of which a kernel can be made.
use Rattle.std.specs.Prelude.{◌≡◌, ◌<◌, ◌^◌, true, length}
use Rattle.kernel_tree.specs.Grammar.{is_kernel}
use Rattle.lowering.specs.Terms.{term_of}
use Rattle.item_emit.specs.Copies.{HasShortCopies}
use Rattle.phase_plan.specs.declared.planned.Plan.{Plan}
use Rattle.kernel_emit.specs.Plans.{printed_for}

-- what is printed is of the kernel grammar, with few arrays, and the copies are of words
pub record IsEmittable (plan : Plan) : Type 0 where
  pub grammar : is_kernel (printed_for plan) ≡ true
  pub copies : HasShortCopies (term_of plan.root)
  pub locals : length plan.buffers.now.local.items < 2 ^ 32
  pub privates : length plan.buffers.now.private.items < 2 ^ 32
