-- Kernels printed for a program's typed term that is a map over work-groups: the printer's kernel
-- is one, and they keep what they owe, at every admissible launch.
use Rattle.std.proofs.Common.{ℕ, List, [], length, sym, ◌∙◌, subst}
use Rattle.size_arith.specs.declared.poly.Monomial.{Monomial}
use Rattle.lift_tree.specs.Launches.{Asks}
use Rattle.lift_tree.specs.Tree.{Tree}
use Rattle.lift_tree.specs.Typing.{Declared, IsAdmissible}
use Rattle.lift_tree.specs.Values.{nth}
use Rattle.lift_tree.specs.Annotations.{Annotation, type_in}
use Rattle.lift_tree.specs.Meaning.{World, meaning}
use Rattle.lift_tree.specs.Launches as launches
use Rattle.kernel_tree.specs.Code.{Kernel}
use Rattle.kernel_tree.specs.Formula.{Formula}
use Rattle.kernel_tree.specs.Launch.{Launch, Cells}
use Rattle.kernel_tree.specs.Device.{Cell}
use Rattle.barrier_placement.specs.Fencing.{Fencing}
use Rattle.lift_ir.specs.Types.{Ty, measured, IsFlat}
use Rattle.lift_ir.specs.Terms.{HasType, no_type}
use Rattle.lift_ir.specs.Scalars.{Scalars, HasScalars, scalars_in, scalars_of, no_scalars, lists_of}
use Rattle.lift_ir.specs.AtLaunch.{length_at, ty_at, shape_of}
use Rattle.lift_ir.specs.Fours.{KeepsFours}
use Rattle.lift_ir.specs.Lowerable.{IsStaged}
use Rattle.lift_ir.specs.Lowering.{Lowered, Written}
use Rattle.lift_ir.proofs.Lists.{are_lists, lists_long}
use Rattle.lift_ir.proofs.Named.{names_suffice}
use Rattle.lift_ir.proofs.Values.{same_lists, shape_is}
use Rattle.printed_form.specs.Headline.{EveryRunKeeps}
use Rattle.printed_form.specs.MapForms.{MapForms}
use Rattle.printed_form.specs.Printer.{input_marks}
use Rattle.printed_form.specs.Programs.{input_shape, first_buffer, lowered_root, cell_owner, IsLaunchOf, IsLowerableProgram, IsSpelling, AreBuffersOf, FitsBuffers}
use Rattle.printed_form.specs.Whole.{no_marks, output_marks}
use Rattle.printed_form.proofs.Programs as own
use Rattle.group_phases.specs.Outcome.{BarriersServeAll}
use Rattle.group_form.specs.ChosenForms.{forms_of}
use Rattle.group_form.specs.Theorem.{IsPrintedOverGroups, NeededGroupsKeep, NeededKeepApart, SeparatedGroupsServe}
use Rattle.group_form.specs.Form.{IsOverGroups}
use Rattle.group_form.specs.Forms.{StandsOverGroups}
use Rattle.group_form.specs.Kernels.{AreNeededBy, OfGroups}
use Rattle.group_form.specs.Printer.{group_kernel_code, printed_group_kernel, GroupPrinterPrints}
use Rattle.group_form.specs.Programs.{PrintsGroups}
use Rattle.group_form.proofs.ChosenForms.{forms_make_turns}

module _ (d : Declared) (asks : Asks) (w : World) (t : Tree) (a : Annotation) (l : Launch) (k : Kernel) (c : Cells) (program : IsLowerableProgram d w.bases t a) (stands : StandsOverGroups (lowered_root d.names t a)) (ok : IsAdmissible d w) (launch : IsLaunchOf d asks w.bases t a l) (buffers : AreBuffersOf d w t a c) (printed : PrintsGroups d asks.local w.bases t a l k) where
  abbrev num : List Monomial → ℕ
  num = length_at w.bases

  abbrev result : Ty
  result = ty_at w.bases (type_in a)

  abbrev src : ℕ → Ty
  src v = measured (length_at w.bases) (input_shape d.inputs v)

  abbrev sources : ℕ → Scalars
  sources v = scalars_in (src v) (nth w.inputs v)

  abbrev forms : MapForms (List Monomial)
  forms = forms_of d.names asks.local

  abbrev low : Lowered
  low = lowered_root d.names t a

  flat : IsFlat result
  flat = own.flat_type d asks w t a l c program ok launch buffers

  -- the source value has the term's scalars
  valued : HasScalars result (meaning w [] t) (scalars_of num sources no_scalars low)
  valued = own.valued d asks w t a l c program ok launch buffers

  is_printed : IsPrintedOverGroups l num forms src (input_marks num (first_buffer d.inputs) (input_shape d.inputs)) sources printed.fence low result k c
  is_printed = record {
    made = own.made d asks w t a l c program ok launch buffers k printed.declares;
    makes = forms_make_turns d.names w.bases program.declared.names launch.admissible.sizes l asks.local launch.admissible.fixed;
    stands = stands;
    code = printed.code;
    locals = printed.declares.locals;
  }

  pub keeps : NeededGroupsKeep (List Monomial) → EveryRunKeeps k l c (cell_owner d.names w.bases l t a) (launches.lists_of (type_in a) (meaning w [] t))
  keeps keep =
      subst (EveryRunKeeps k l c (cell_owner d.names w.bases l t a)) (sym (same_lists w.bases (type_in a) (meaning w [] t)))
      (keep num forms l w t (length d.inputs) src (input_marks num (first_buffer d.inputs) (input_shape d.inputs)) sources printed.fence low result k c (own.lowers d asks w t a l c program ok launch buffers) (own.given d asks w t a l c program ok launch buffers) is_printed printed.needed)

  pub serves : SeparatedGroupsServe (List Monomial) → NeededKeepApart (List Monomial) → (filler : Cell → ℕ) × BarriersServeAll k l c filler
  serves serve apart =
      serve num forms l src (input_marks num (first_buffer d.inputs) (input_shape d.inputs)) sources printed.fence low result k c (lists_of result (meaning w [] t)) is_printed
      (apart forms low printed.fence stands printed.needed) (lists_long result (meaning w [] t) (scalars_of num sources no_scalars low) flat valued ∙ sym is_printed.made.outputs) (are_lists result (meaning w [] t) (scalars_of num sources no_scalars low) flat valued)

-- what the printer makes of a typed term, with the needed barriers, is printed for it
pub groups_are_printed : GroupPrinterPrints (List Monomial) → (d : Declared) (asks : Asks) (bases : List ℕ) (t : Tree) (a : Annotation) (l : Launch) (spell : List Monomial → Formula) (fence : ℕ → Fencing)
    → IsLowerableProgram d bases t a → IsLaunchOf d asks bases t a l → IsStaged Written t a → StandsOverGroups (lowered_root d.names t a) → KeepsFours (lowered_root d.names t a) → FitsBuffers d bases a → IsSpelling spell bases l → AreNeededBy OfGroups d asks.local fence t a
    → PrintsGroups d asks.local bases t a l (printed_group_kernel spell fence d asks.local t a)
groups_are_printed prints d asks bases t a l spell fence program launch staged stands fours placed spelled needed =
    let num = length_at bases in
    let low = lowered_root d.names t a in
    let same = shape_is bases (type_in a) in
    let forms = forms_of d.names asks.local in
    let makes = forms_make_turns d.names bases program.declared.names launch.admissible.sizes l asks.local launch.admissible.fixed in
    record {
      declares = own.declares_so d asks.local t a (group_kernel_code spell forms (first_buffer d.inputs) (input_shape d.inputs) fence low (shape_of (type_in a)));
      fence = fence;
      needed = needed;
      code =
          subst (λ z. IsOverGroups num forms l (input_marks num (first_buffer d.inputs) (input_shape d.inputs)) fence no_marks low (output_marks z) (group_kernel_code spell forms (first_buffer d.inputs) (input_shape d.inputs) fence low (shape_of (type_in a)))) same
          (prints l num forms makes spell spelled (first_buffer d.inputs) (input_shape d.inputs) fence low (shape_of (type_in a)) stands fours
          (subst (λ z. HasType num (λ v. measured num (input_shape d.inputs v)) no_type low z) (sym same) (own.lowered_has d asks bases t a l program launch)) (names_suffice d bases t a program.nodes program.lowerable staged) placed.0 (own.inputs_placed bases d.inputs placed.1));
    }
