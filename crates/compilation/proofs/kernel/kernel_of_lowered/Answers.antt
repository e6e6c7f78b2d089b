use Rattle.std.proofs.Common.{subst, sym}
use Rattle.lift_tree.specs.Annotations.{annotation_of}
use Rattle.lift_tree.specs.FixedSizes.{size_fixed}
use Rattle.lift_tree.specs.Tree.{tree_of}
use Rattle.kernel_tree.specs.Kernels.{kernel_of}
use Rattle.lowered_tree.specs.Named.{declared_of}
use Rattle.lowered_tree.specs.declared.lowered.Lowered.{Lowered}
use Rattle.stages.proofs.HandedOn.{handed_on}
use Rattle.program_source.specs.Program.{StopsFor}
use Rattle.compilation.specs.Legal.{CompilesTerm, IsSoundLowered, lowered_state}
use Rattle.compilation.proofs.Emitting.{kernel_of_same, laid_out}
use Rattle.compilation.proofs.Legality.{legal_term}
use Rattle.compilation.proofs.kernel.kernel_of_lowered.Goals as goal

pub returns-in_err-term-clause-refused : goal.returns-in_err-term-clause-refused
returns-in_err-term-clause-refused c =
    handed_on (StopsFor (CompilesTerm (size_fixed c.args.local) (lowered_state c.args.lowered))) _ _ c.from_residual.ensures.1 c.in_err-term.ensures.refused

pub kernel_of_spaced-requires : goal.kernel_of_spaced-requires
kernel_of_spaced-requires c =
    let placed = c.in_ok-term.ensures.placed in
    record { sound = subst (λ (m : Lowered). IsSoundLowered m) (sym placed.lowered) c.requires.sound; allocated = placed.arrays }

pub returns-clause-kernel : goal.returns-clause-kernel
returns-clause-kernel c =
    let placed = c.in_ok-term.ensures.placed in
    kernel_of_same c.args.lowered (size_fixed c.args.local) c.in_ok-term.term.spaced placed.lowered placed.fixed (kernel_of c.in_ok-kernel.kernel) c.in_ok-kernel.ensures.kernel

pub returns-clause-laid_out : goal.returns-clause-laid_out
returns-clause-laid_out c =
    let l = c.args.lowered in
    let sound = c.requires.sound in
    let placed = c.in_ok-term.ensures.placed in
    let k = kernel_of c.in_ok-kernel.kernel in
    let for = kernel_of_same l (size_fixed c.args.local) c.in_ok-term.term.spaced placed.lowered placed.fixed k c.in_ok-kernel.ensures.kernel in
    let legal = legal_term (declared_of l) (lowered_state l) sound c.in_ok-term.ensures.compiles.1.nest in
    laid_out (declared_of l) (tree_of l.term) (annotation_of l.types) k legal (c.legal_terms_can_be_lowered.ensures (declared_of l) (tree_of l.term) (annotation_of l.types) legal sound.copies) for.parameters.outputs c.in_ok-kernel.ensures.outputs
