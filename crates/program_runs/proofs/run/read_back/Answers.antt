use Rattle.std.proofs.Common.{Err, subst, sym}
use Rattle.std.proofs.Props.{props}
use Rattle.std.proofs.Math.Logic.{∥∥₁_elim}
use Rattle.kernel_tree.specs.KernelText.{IsKernelText, lift}
use Rattle.kernel_reader.specs.Exactly.{Answers}
use Rattle.program_runs.proofs.run.read_back.Goals as goal

pub unreachable-requires : goal.unreachable-requires
unreachable-requires c =
    let compiled = c.args.compiled.now in
    ∥∥₁_elim compiled.text_for (Prim.hlevel props) (λ t.
    subst (λ e. Answers t.kernel (Err e)) c.in-Err-Syntax.field-0-is (c.in-Err-Syntax.ensures.only t.kernel (subst (λ bytes. IsKernelText lift bytes t.kernel) (sym c.as_slice.ensures.value) t.written)))
