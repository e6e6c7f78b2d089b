use Rattle.std.proofs.Common.{arith, rules}
use Rattle.lift_tree.specs.Annotations.{annotation_of}
use Rattle.lift_tree.specs.Tree.{tree_of}
use Rattle.stages.proofs.HandedOn.{handed_on}
use Rattle.kernel_sequence.specs.Refused.{Refuses}
use Rattle.kernel_sequence.specs.declared.no.CutNo.{CutNo}
use Rattle.kernel_sequence.proofs.Whole.{all_parts, few_inputs, kernels_of, sound_parts}
use Rattle.kernel_sequence.proofs.sequence.cut.Goals as goal

pub overflow_cast-inputs : goal.overflow_cast-inputs
overflow_cast-inputs c = omega (arith, few_inputs c.args.lowered.now)

pub returns-in_err-judge-clause-refused : goal.returns-in_err-judge-clause-refused
returns-in_err-judge-clause-refused c =
    handed_on (λ (no : CutNo). Refuses no (tree_of c.args.lowered.now.term) (annotation_of c.args.lowered.now.types)) _ _ c.from_residual.ensures.1 c.in_err-judge.ensures.refused

pub kernels-requires : goal.kernels-requires
kernels-requires c =
    sound_parts c.args.lowered.now _ c.in_ok-judge.ensures.unbound c.in_ok-judge.ensures.few
    (all_parts c.args.lowered.now c.in_ok-cutting.cutting _ _ _ c.in_ok-cutting.ensures c.in_ok-push.ensures.items (omega arith) (search rules))

pub returns-clause-kernels : goal.returns-clause-kernels
returns-clause-kernels c =
    kernels_of c.args.lowered.now _ _ c.in_ok-judge.ensures.unbound c.in_ok-judge.ensures.few
    (all_parts c.args.lowered.now c.in_ok-cutting.cutting _ _ _ c.in_ok-cutting.ensures c.in_ok-push.ensures.items (omega arith) (search rules)) c.in_ok-kernels.ensures
