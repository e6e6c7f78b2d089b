use Rattle.std.proofs.lemmas.Result.{err_from_is_err_and}
use Rattle.lift_tree.specs.Tree.{tree_of}
use Rattle.lift_tree.specs.Programs.{program_of}
use Rattle.lift_tree.specs.Annotations.{annotation_of}
use Rattle.pattern_types.proofs.Whole.{judged_types_are_right}
use Rattle.pattern_types.proofs.Proper.{judged_inputs_are_proper}
use Rattle.pattern_types.proofs.Reached.{judged_within, explained}
use Rattle.pattern_types.proofs.programs.typed_next.Goals as goal

pub returns-clause-typed : goal.returns-clause-typed
returns-clause-typed c =
    let p = c.args.program in
    let r = judged_types_are_right (program_of p) (tree_of c.args.term) (annotation_of c.in_ok-types.types) c.requires.proper.few c.requires.proper.sizes c.requires.proper.types c.in_ok-types.ensures.numbers c.requires.term c.in_ok-types.ensures.types in
    record { declared = r.declared; nodes = r.nodes; output = r.output }

pub returns-clause-within : goal.returns-clause-within
returns-clause-within c =
    let p = c.args.program in
    let r = judged_types_are_right (program_of p) (tree_of c.args.term) (annotation_of c.in_ok-types.types) c.requires.proper.few c.requires.proper.sizes c.requires.proper.types c.in_ok-types.ensures.numbers c.requires.term c.in_ok-types.ensures.types in
    judged_within (program_of p) (tree_of c.args.term) (annotation_of c.in_ok-types.types) r c.in_ok-types.ensures.types

pub returns-clause-inputs : goal.returns-clause-inputs
returns-clause-inputs c =
    let proper = c.requires.proper in
    judged_inputs_are_proper (program_of c.args.program) (tree_of c.args.term) (annotation_of c.in_ok-types.types) proper.few proper.sizes proper.types c.in_ok-types.ensures.types

pub returns-in_err-types-clause-explained : goal.returns-in_err-types-clause-explained
returns-in_err-types-clause-explained c =
    let p = err_from_is_err_and c.from_residual.result c.from_residual.ensures.1 in
    rw (p.1, p.2) (explained (program_of c.args.program) (tree_of c.args.term) _ c.in_err-types.ensures.refused)
