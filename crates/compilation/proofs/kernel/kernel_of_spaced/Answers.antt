use Rattle.std.proofs.Common.{ap}
use Rattle.kernel_tree.specs.Kernels.{kernel_of}
use Rattle.lowered_tree.specs.declared.lowered.Spaced.{Spaced}
use Rattle.compilation.proofs.Emitting.{kernel_of_plan}
use Rattle.compilation.proofs.kernel.kernel_of_spaced.Goals as goal

pub returns-clause-kernel : goal.returns-clause-kernel
returns-clause-kernel c =
    let lowered = c.args.spaced.now.mapped.lowered in
    let same = ap (λ (s : Spaced). s.mapped.lowered) c.in_ok-plan.ensures.spaced in
    let fixed = ap (λ (s : Spaced). s.mapped.local) c.in_ok-plan.ensures.spaced in
    kernel_of_plan lowered c.requires.sound c.args.spaced.now.mapped.local c.in_ok-plan.plan fixed same c.plans_give_kernels.ensures c.in_ok-plan.ensures.told (kernel_of c.in_ok-kernel.kernel) c.in_ok-kernel.ensures.printed
