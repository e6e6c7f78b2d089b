use Rattle.lift_tree.specs.Annotations.{annotation_of}
use Rattle.lift_tree.specs.Programs.{program_of}
use Rattle.lift_tree.specs.Tree.{tree_of}
use Rattle.lowered_tree.proofs.Whole.{sound_as_lowered}
use Rattle.lowered_tree.proofs.typed.lowered.Goals as goal

pub invariant_of-result : goal.invariant_of-result
invariant_of-result c =
    let t = c.args.typed.now in
    record {
      sound = ∣ sound_as_lowered (program_of t.program) (tree_of t.term) _ (annotation_of t.types) _ _ _ c.requires c.forms_have_words.ensures
          c.in_ok-names.ensures c.in_ok-input_types.ensures c.in_ok-copy.ensures c.in_ok-copied_types.ensures ∣₁;
    }
