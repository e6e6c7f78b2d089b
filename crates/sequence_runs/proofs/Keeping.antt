-- Kernels in order keep the program's value.
use Rattle.std.proofs.Common.{◌≡◌, ℕ, List, [], length, take, drop, take-append-drop, sym, ap, ◌∙◌, subst}
use Rattle.std.proofs.lemmas.List.{length-map, length-take-le}
use Rattle.lift_tree.specs.Annotations.{AnnotatedIsTyped, annotation_of, type_in}
use Rattle.lift_tree.specs.Belonging.{Belongs}
use Rattle.lift_tree.specs.Launches.{buffers_of}
use Rattle.lift_tree.specs.Meaning.{meaning}
use Rattle.lift_tree.specs.Programs.{PlainInput}
use Rattle.lift_tree.specs.Tree.{tree_of}
use Rattle.lift_tree.specs.Types.{ty_of}
use Rattle.lift_tree.specs.Typing.{Declared, HasOutput, IsAdmissible, IsDeclared, ValuesHaveTypes, declared_by}
use Rattle.lift_tree.specs.Values.{Value}
use Rattle.lift_tree.specs.WorkedOut.{worked_out}
use Rattle.lowered_tree.specs.Named.{declared_of}
use Rattle.pattern_types.specs.Judgement.{OutputsBelong}
use Rattle.value_lists.specs.Laws.{ListsHaveLengths}
use Rattle.kernel_sequence.specs.Cut.{cut_off}
use Rattle.kernel_sequence.specs.Laws.{MoreInputsKeepTheValue, SequencesLeaveTheValue}
use Rattle.sequence_runs.specs.Laws.{SequencesKeep}
use Rattle.sequence_runs.specs.Runs.{AllKeep, BeginsWith, StageRun}
use Rattle.sequence_runs.specs.Stages.{stages_of}
use Rattle.sequence_runs.proofs.Buffers.{buffers_taken, enough, types_taken}
use Rattle.sequence_runs.proofs.Order.{InputsStay, in_order, no_binders}
use Rattle.sequence_runs.proofs.Values.{last_value, left_at_last, left_type, with_inputs}

-- the laws that it rests on
pub record Laws : Type 0 where
  pub stay : InputsStay
  pub lengths : ListsHaveLengths
  pub more : MoreInputsKeepTheValue
  pub belong : OutputsBelong
  pub sequences : SequencesLeaveTheValue
  pub typed : AnnotatedIsTyped
  pub values : ValuesHaveTypes

begun : (rs : List StageRun) (p q : List (List ℕ)) → p ≡ q → BeginsWith p rs → BeginsWith q rs
begun rs p q e h = subst (λ z. BeginsWith z rs) e h

pub sequences_keep : Laws → SequencesKeep
sequences_keep laws p l local ls ks same typed keeps cut each w rs admissible begins runs =
    let d = declared_of l in
    let t = tree_of l.term in
    let n = annotation_of l.types in
    let xs = d.inputs in
    let vs = take (length xs) w.inputs in
    let ok : IsAdmissible d w = subst (λ (e : Declared). IsAdmissible e w) (sym same) admissible in
    let proper : IsDeclared d = subst IsDeclared (sym same) typed.declared in
    let long : length vs ≡ length xs = length-take-le (length xs) w.inputs (enough w.bases xs w.inputs proper.arrays ok.inputs) in
    let own : HasOutput p t (type_in n) = record { declared = typed.declared; typed = keeps.typed (type_in n) typed.typed; output = typed.output } in
    let counted : length p.inputs ≡ length l.inputs.items =
    sym (length-map p.inputs (λ (i : PlainInput). worked_out (declared_by p).names i.ty)) ∙ ap (λ (e : Declared). length e.inputs) (sym same) ∙ length-map l.inputs.items ty_of in
    let named : Belongs (length p.sizes) (length l.inputs.items) 0 t = subst (λ i. Belongs (length p.sizes) i 0 t) counted (laws.belong p t (type_in n) own).0 in
    let i = length l.inputs.items in
    let taken : length vs ≡ i = long ∙ length-map l.inputs.items ty_of in
    let value : last_value w vs (cut_off i [] t n).made (cut_off i [] t n).left ≡ meaning w [] p.body =
    left_at_last laws.sequences (with_inputs w vs) (length p.sizes) i t n taken named
    ∙ sym (laws.more (with_inputs w vs) (drop (length xs) w.inputs) [] (length p.sizes) i 0 t taken named)
    ∙ ap (λ (z : List Value). meaning (with_inputs w z) [] t) (take-append-drop (length xs) w.inputs)
    ∙ keeps.value w [] admissible (no_binders w.bases) in
    subst (λ v. AllKeep w.bases (type_in n) v (stages_of ls ks) rs) value
    (in_order laws.stay laws.lengths laws.typed laws.values local w l.names ok.bases ok.sizes (type_in n) xs vs (cut_off i [] t n).made (cut_off i [] t n).left ls ks rs
    (sym long) (types_taken w.bases xs w.inputs ok.inputs) cut.kernels.terms (left_type i [] t n) cut.kernels.names cut.kernels.inputs each
    (begun rs _ _ (ap (λ (e : Declared). buffers_of e.inputs w.inputs) (sym same) ∙ buffers_taken xs w.inputs) begins) runs)
