use Rattle.std.proofs.lemmas.Result.{IfOk-weaker}
use Rattle.std.proofs.Common.{Ok, subst}
use Rattle.std.specs.Prelude.{IfErr, IfOk}
use Rattle.lift_tree.specs.Annotations.{annotation_of, type_in}
use Rattle.lift_tree.specs.FixedSizes.{size_fixed}
use Rattle.lift_tree.specs.Programs.{program_of}
use Rattle.lift_tree.specs.Tree.{tree_of}
use Rattle.lift_tree.specs.Typing.{Declared, declared_by}
use Rattle.kernel_tree.specs.Kernels.{kernel_of}
use Rattle.kernel_emit.specs.Kernels.{IsKernelFor}
use Rattle.lowered_tree.specs.Named.{declared_of}
use Rattle.program_source.specs.Program.{StopsFor}
use Rattle.strategy_script.specs.Steps.{State, state_of}
use Rattle.compilation.specs.Legal.{CompilesTerm, lowered_state}
use Rattle.compilation.specs.Meets.{CanBeLaidOut}
use Rattle.compilation.proofs.Legality.{accepted_term, sound_as}
use Rattle.compilation.proofs.kernel.compiled_kernel.Goals as goal

pub returns-clause-kernel : goal.returns-clause-kernel
returns-clause-kernel c =
    let h = c.in_ok-lowered.ensures in
    let local = size_fixed c.args.local in
    let r = c.kernel_of_lowered.result in
    subst (λ (d : Declared). IfOk r (λ k. IsKernelFor d local (tree_of c.args.last.now.term) (annotation_of c.args.last.now.types) (kernel_of k))) h.declared
    (subst (λ (s : State). IfOk r (λ k. IsKernelFor (declared_of c.in_ok-lowered.lowered) local s.tree s.types (kernel_of k))) h.state c.kernel_of_lowered.ensures.kernel)

pub returns-clause-accepted : goal.returns-clause-accepted
returns-clause-accepted c =
    let h = c.in_ok-lowered.ensures in
    let s = lowered_state c.in_ok-lowered.lowered in
    let last = state_of c.args.last.now in
    let p = program_of c.args.last.now.program in
    let local = size_fixed c.args.local in
    let sound = sound_as (declared_of c.in_ok-lowered.lowered) (declared_by p) s last h.declared h.state h.sound in
    IfOk-weaker c.kernel_of_lowered.result _ _ (λ k compiled. accepted_term p local last sound (subst (λ (z : State). CompilesTerm local z (Ok z)) h.state compiled)) c.kernel_of_lowered.ensures.compiles

pub returns-clause-compiles : goal.returns-clause-compiles
returns-clause-compiles c =
    subst (λ (s : State). IfOk c.kernel_of_lowered.result (λ _. CompilesTerm (size_fixed c.args.local) s (Ok s))) c.in_ok-lowered.ensures.state c.kernel_of_lowered.ensures.compiles

pub returns-clause-laid_out : goal.returns-clause-laid_out
returns-clause-laid_out c =
    let h = c.in_ok-lowered.ensures in
    let r = c.kernel_of_lowered.result in
    subst (λ (d : Declared). IfOk r (λ _. CanBeLaidOut d.names (type_in (annotation_of c.args.last.now.types)))) h.declared
    (subst (λ (s : State). IfOk r (λ _. CanBeLaidOut (declared_of c.in_ok-lowered.lowered).names (type_in s.types))) h.state c.kernel_of_lowered.ensures.laid_out)

pub returns-clause-refused : goal.returns-clause-refused
returns-clause-refused c =
    subst (λ (s : State). IfErr c.kernel_of_lowered.result (StopsFor (CompilesTerm (size_fixed c.args.local) s))) c.in_ok-lowered.ensures.state c.kernel_of_lowered.ensures.refused
