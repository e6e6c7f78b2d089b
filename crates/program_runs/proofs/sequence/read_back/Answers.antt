use Rattle.std.proofs.Common.{Err, map, subst, sym}
use Rattle.std.proofs.Props.{props}
use Rattle.std.proofs.Math.Logic.{∥∥₁_elim}
use Rattle.kernel_reader.specs.Sequences.{AnswersAll}
use Rattle.kernel_spelling.specs.SequenceText.{IsSequenceText}
use Rattle.sequence_runs.specs.Runs.{Stage}
use Rattle.program_runs.proofs.sequence.read_back.Goals as goal

pub unreachable-requires : goal.unreachable-requires
unreachable-requires c =
    let compiled = c.args.compiled.now in
    ∥∥₁_elim compiled.text_for (Prim.hlevel props) (λ t.
    let ks = map (λ (k : Stage). k.kernel) t.kernels in
    subst (λ e. AnswersAll ks (Err e)) c.in-Err-Syntax.field-0-is (c.in-Err-Syntax.ensures.only ks (subst (λ bytes. IsSequenceText bytes ks) (sym c.as_slice.ensures.value) t.written)))
