-- Kernels run in order, one after another.
use Rattle.std.proofs.Common.{◌≡◌, ℕ, suc, ◌<◌, true, List, [], ◌∷◌, ◌++◌, length, length-append, take, map, Option, Some, append-nil, append_assoc, refl, sym, ap, ◌∙◌, subst, arith}
use Rattle.std.specs.Prelude.{slice_get, slice_index}
use Rattle.size_arith.specs.declared.names.Name.{Name}
use Rattle.size_arith.specs.Ranges.{Admissible, sizes_at}
use Rattle.kernel_tree.specs.declared.events.Event.{Event}
use Rattle.kernel_tree.specs.Code.{Kernel}
use Rattle.kernel_tree.specs.Device.{State, IsStart, IsRun, IsStuck, device_of, row}
use Rattle.kernel_tree.specs.Grammar.{is_kernel}
use Rattle.kernel_tree.specs.Inputs.{LeavesInputs}
use Rattle.kernel_tree.specs.Launch.{Cells, Launch}
use Rattle.lift_tree.specs.Annotations.{AnnotatedIsTyped, annotation_of, type_in}
use Rattle.lift_tree.specs.Launches.{buffers_of, lists_of}
use Rattle.lift_tree.specs.Meaning.{World}
use Rattle.lift_tree.specs.Tree.{tree_of}
use Rattle.lift_tree.specs.Types.{HasType, HaveTypes, HoldsElements, IsOutput, PlainTy, U32, U32x4, PairOf, ArrayOf, ty_of}
use Rattle.lift_tree.specs.Typing.{Declared, IsAdmissible, ValuesHaveTypes}
use Rattle.lift_tree.specs.Values.{Value}
use Rattle.lowered_tree.specs.Kinds.{asks_of}
use Rattle.lowered_tree.specs.Named.{declared_of}
use Rattle.lowered_tree.specs.declared.lowered.Lowered.{Lowered}
use Rattle.value_lists.specs.Laws.{ListsHaveLengths}
use Rattle.printed_form.specs.Programs.{AreBuffersOf, IsLaunchOf}
use Rattle.kernel_sequence.specs.Cut.{Part}
use Rattle.kernel_sequence.specs.Parts.{term_part}
use Rattle.kernel_sequence.specs.Sequence.{scratch_of}
use Rattle.sequence_runs.specs.Runs.{AllKeep, AreRuns, BeginsWith, GoesOver, IsStageRun, Passes, StageKeeps, StageRun, device, left}
use Rattle.sequence_runs.specs.Stages.{AreKernelsOfEach, IsKernelOf, stage_of, stages_of}
use Rattle.sequence_runs.proofs.Buffers.{buffers_more, passed, rows_long, types_more}
use Rattle.sequence_runs.proofs.Values.{last_value, value_with, with_inputs}

-- a run writes no input
abbrev pub InputsStay : Type 0
InputsStay = (k : Kernel) (l : Launch) (c : Cells) (s : State) (es : List Event) → is_kernel k ≡ true → IsStart k l c s → IsRun (device_of k l c) s es → LeavesInputs (device_of k l c) c s es

pub elements : (a : PlainTy) → IsOutput a → HoldsElements a
elements U32 h = absurd h
elements U32x4 h = absurd h
elements (PairOf a b) h = absurd h
elements (ArrayOf a n) h = h

pub no_binders : (ys : List ℕ) → HaveTypes ys [] []
no_binders ys n a e = absurd (cc)

-- the list isn't empty
some_part : (ps : List Part) (p : Part) → [] ≡ ps ++ p ∷ [] → ⊥
some_part [] p e = absurd (cc)
some_part (q ∷ ps) p e = absurd (cc)

module _ (stay : InputsStay) (lengths : ListsHaveLengths) (typing : AnnotatedIsTyped) (sound : ValuesHaveTypes) (local : Option (ℕ × ℕ)) (w : World) (names : List Name) (ok : Admissible names w.bases) (sizes : w.sizes ≡ sizes_at names w.bases) where
  -- one kernel, where the inputs have these types and values
  module _ (xs : List PlainTy) (vs : List Value) (even : length xs ≡ length vs) (types : HaveTypes w.bases xs vs) (l : Lowered) (named : l.names ≡ names) (inputs : map ty_of l.inputs.items ≡ xs) (k : Kernel) (of : IsKernelOf local l k) (r : StageRun) (ins : r.cells.ins ≡ buffers_of xs vs) (its : IsStageRun local w.bases (stage_of l k) r) where
    own : PlainTy
    own = type_in (annotation_of l.types)

    admissible : IsAdmissible (declared_of l) (with_inputs w vs)
    admissible =
        subst (λ (d : Declared). IsAdmissible d (with_inputs w vs)) (λ i. record { names = sym named i; inputs = sym inputs i })
        (record { bases = ok; sizes = sizes; inputs = types })

    pub typed : HasType w.bases (type_in (annotation_of l.types)) (value_with w vs (term_part l))
    typed =
        sound (declared_of l) (with_inputs w vs) [] [] (tree_of l.term) (type_in (annotation_of l.types)) of.sound.declared admissible tt (no_binders w.bases)
        (typing (declared_of l) [] (tree_of l.term) (annotation_of l.types) of.sound.nodes)

    buffers : AreBuffersOf (declared_of l) (with_inputs w vs) (tree_of l.term) (annotation_of l.types) r.cells
    buffers = record {
      inputs = ins ∙ ap (λ z. buffers_of z vs) (sym inputs);
      outputs = its.outputs ∙ sym (lengths w.bases (type_in (annotation_of l.types)) (value_with w vs (term_part l)) (elements (type_in (annotation_of l.types)) of.sound.output) typed);
    }

    launch : IsLaunchOf (declared_of l) (asks_of local (tree_of l.term)) w.bases (tree_of l.term) (annotation_of l.types) r.launch
    launch = record { admissible = its.launch; sizes = its.sizes; asked = of.asked }

    pub keeps : StageKeeps w.bases (stage_of l k) r (type_in (annotation_of l.types)) (value_with w vs (term_part l))
    keeps = record {
      starts = of.kernel.starts (with_inputs w vs) r.launch r.cells admissible launch buffers;
      keeps = of.kernel.keeps (with_inputs w vs) r.launch r.cells admissible launch buffers r.state r.events its.start its.run;
    }

    pub passes : (c : Cells) → IsStuck (device (stage_of l k) r) (left (stage_of l k) r) → Passes (stage_of l k) r c
        → c.ins ≡ buffers_of (xs ++ type_in (annotation_of l.types) ∷ []) (vs ++ value_with w vs (term_part l) ∷ [])
    passes c stuck p =
        let a = type_in (annotation_of l.types) in
        let v = value_with w vs (term_part l) in
        let leaves = keeps.keeps.leaves in
        let held = (stay k r.launch r.cells r.state r.events of.grammar its.start its.run).held in
        passed r.cells.ins r.cells.outs (lists_of a v) c.ins leaves.shape p.shape
        (λ b i lt. p.inputs b i lt ∙ held b i lt)
        (λ m b i e lt. ap (λ z. slice_index (row c.ins z) i) e ∙ p.outputs b i (subst (λ z. i < z) (rows_long (lists_of a v) r.cells.outs leaves.shape b) lt) ∙ leaves.left stuck b i lt)
        ∙ ap (λ z. z ++ lists_of a v) ins ∙ sym (buffers_more xs vs a v even)

    pub begins : (rs : List StageRun) → GoesOver (stage_of l k) r rs → BeginsWith (buffers_of (xs ++ type_in (annotation_of l.types) ∷ []) (vs ++ value_with w vs (term_part l) ∷ [])) rs
    begins [] over = tt
    begins (next ∷ rs) over = passes next.cells over.0 over.1

  -- kernels in order, each behind those before it
  pub in_order : (output : PlainTy) (xs : List PlainTy) (vs : List Value) (made : List Part) (last : Part) (ls : List Lowered) (ks : List Kernel) (rs : List StageRun)
      → length xs ≡ length vs → HaveTypes w.bases xs vs
      → map term_part ls ≡ made ++ last ∷ [] → type_in last.types ≡ output
      → ((i : ℕ) (l : Lowered) → slice_get ls i ≡ Some l → l.names ≡ names)
      → ((i : ℕ) (l : Lowered) → slice_get ls i ≡ Some l → map ty_of l.inputs.items ≡ xs ++ scratch_of (take i (made ++ last ∷ [])))
      → AreKernelsOfEach local ls ks → BeginsWith (buffers_of xs vs) rs → AreRuns local w.bases (stages_of ls ks) rs
      → AllKeep w.bases output (last_value w vs made last) (stages_of ls ks) rs
  in_order output xs vs made last ls ks [] even types parts own named inputs each ins runs = tt
  in_order output xs vs made last [] ks (r ∷ rs) even types parts own named inputs each ins runs = absurd (some_part made last parts)
  in_order output xs vs made last (l ∷ ls) [] (r ∷ rs) even types parts own named inputs each ins runs = absurd each
  in_order output xs vs [] last (l ∷ []) (k ∷ []) (r ∷ rs) even types parts own named inputs each ins runs =
      let this : term_part l ≡ last = cc in
      let is : type_in (annotation_of l.types) ≡ output = ap (λ (p : Part). type_in p.types) this ∙ own in
      subst (λ (p : Part). StageKeeps w.bases (stage_of l k) r output (value_with w vs p)) this
      (subst (λ a. StageKeeps w.bases (stage_of l k) r a (value_with w vs (term_part l))) is
      (keeps xs vs even types l (named 0 l refl) (inputs 0 l refl ∙ append-nil xs) k each.0 r ins runs.0))
  in_order output xs vs [] last (l ∷ []) (k ∷ m ∷ ks) (r ∷ rs) even types parts own named inputs each ins runs = absurd each.1
  in_order output xs vs [] last (l ∷ m ∷ ls) (k ∷ ks) (r ∷ rs) even types parts own named inputs each ins runs = absurd (cc)
  in_order output xs vs (p ∷ made) last (l ∷ []) (k ∷ ks) (r ∷ rs) even types parts own named inputs each ins runs = absurd (some_part made last (cc))
  in_order output xs vs (p ∷ made) last (l ∷ m ∷ ls) (k ∷ []) (r ∷ rs) even types parts own named inputs each ins runs = absurd each.1
  in_order output xs vs (p ∷ made) last (l ∷ m ∷ ls) (k ∷ j ∷ ks) (r ∷ rs) even types parts own named inputs each ins runs =
      let this : term_part l ≡ p = cc in
      let rest : map term_part (m ∷ ls) ≡ made ++ last ∷ [] = cc in
      let a = type_in (annotation_of l.types) in
      let v = value_with w vs (term_part l) in
      let mine : map ty_of l.inputs.items ≡ xs = inputs 0 l refl ∙ append-nil xs in
      let long : length (xs ++ a ∷ []) ≡ length (vs ++ v ∷ []) = omega (arith, even, length-append xs (a ∷ []), length-append vs (v ∷ [])) in
      let here = typed xs vs even types l (named 0 l refl) mine k each.0 r ins runs.0 in (
        (v, here, keeps xs vs even types l (named 0 l refl) mine k each.0 r ins runs.0),
        subst (λ (q : Part). AllKeep w.bases output (last_value w (vs ++ value_with w vs q ∷ []) made last) (stages_of (m ∷ ls) (j ∷ ks)) rs) this
            (in_order output (xs ++ a ∷ []) (vs ++ v ∷ []) made last (m ∷ ls) (j ∷ ks) rs long (types_more w.bases xs vs a v even types here) rest own
            (λ i q. named (suc i) q)
            (λ i q e. inputs (suc i) q e ∙ ap (λ (z : Part). xs ++ type_in z.types ∷ scratch_of (take i (made ++ last ∷ []))) (sym this) ∙ sym (append_assoc xs (a ∷ []) (scratch_of (take i (made ++ last ∷ [])))))
            each.1 (begins xs vs even types l (named 0 l refl) mine k each.0 r ins runs.0 rs runs.1) runs.2),
      )
