-- What nests within the limits.
use Rattle.std.proofs.Common.{ℕ, ◌≤◌, [], get_or, arith}
use Rattle.lift_tree.specs.Tree.{height}
use Rattle.lift_ir.specs.Lowering.{Written, lower}
use Rattle.kernel_premises.specs.Within.{TermsNestWithin}
use Rattle.kernel_premises.proofs.Heights.{lower_low, low_more}
use Rattle.kernel_premises.proofs.Stacks.{Under, write}

none_under : Under (λ v. 0) []
none_under v = let z : 0 ≤ get_or {A = ℕ} [] v 0 = omega arith in z

pub nests_within : TermsNestWithin
nests_within d most t n ty out staged can few counted high =
    let l = low_more (height t) 1023 (lower d.names Written t n) (omega arith) (lower_low d.names Written t n) in
    (write d most few [] (λ v. 0) [] 0 0 (omega arith) t n ty staged can none_under high (omega arith) counted, l.elements, (let x = l.loops in omega arith))
