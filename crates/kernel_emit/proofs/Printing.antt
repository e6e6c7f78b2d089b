-- What is printed for a plan is what the printer of the term's kind makes of it.
use Rattle.std.proofs.Common.{◌≡◌, ◌∙◌, ◌≤◌, ◌<◌, ◌^◌, ℕ, List, Bool, true, false, cond, Option, None, Some, refl, sym, ap, subst, arith, length}
use Rattle.std.specs.Prelude.{nat_lt}
use Rattle.std.proofs.lemmas.Bool.{ltb-false}
use Rattle.std.proofs.lemmas.Option.{none-some}
use Rattle.size_arith.specs.Ranges.{leasts}
use Rattle.lift_tree.specs.Annotations.{Annotation}
use Rattle.lift_tree.specs.LocalSizes.{IsLocalSize}
use Rattle.lift_tree.specs.Tree.{Tree}
use Rattle.lift_tree.specs.Typing.{Declared}
use Rattle.kernel_tree.specs.Code.{Kernel}
use Rattle.kernel_tree.specs.Grammar.{is_kernel}
use Rattle.lift_ir.specs.Loads.{LoadsSuffice}
use Rattle.lift_ir.specs.Lowering.{Lowered}
use Rattle.lift_ir.specs.Promises.{LoweredTermsServe}
use Rattle.lift_ir.specs.Terms.{LocalMemory, PrivateMemory}
use Rattle.lowered_tree.specs.Kind.{nest_kind}
use Rattle.lowered_tree.specs.Nest.{IsLegalNest}
use Rattle.lowered_tree.specs.Whole.{IsSoundTerm}
use Rattle.lowered_tree.specs.declared.kind.NestKind.{NestKind}
use Rattle.buffer_allocation.specs.Allocated.{AreAllocated}
use Rattle.buffer_allocation.specs.Layouts.{layouts}
use Rattle.buffer_allocation.specs.Limits.{passed_limit}
use Rattle.buffer_allocation.specs.declared.copies.Memory.TheVariants.{Local, Private}
use Rattle.nest_premises.specs.Groups.{LegalTermsArePrintable}
use Rattle.nest_premises.specs.Legal.{IsLegalTerm}
use Rattle.nest_premises.specs.Printable.{IsPrintable, printer_for, printer_of}
use Rattle.barrier_placement.specs.Fencing.{Fencing, Open, fence}
use Rattle.barrier_placement.specs.Needed.{Needed}
use Rattle.group_form.specs.ChosenForms.{forms_of}
use Rattle.group_form.specs.Form.{is_once}
use Rattle.group_form.specs.GridChosen.{grid_forms_of}
use Rattle.group_form.specs.GridTerms.{grid_touches}
use Rattle.group_form.specs.GridTheorem.{grid_phase_count, is_once_over}
use Rattle.group_form.specs.Kernels.{AreNeededBy, Printer, OfItems, OfGroups, OfGrids}
use Rattle.group_form.specs.Uses.{group_touches, phase_count}
use Rattle.printed_form.specs.Counts.{copy_lengths}
use Rattle.printed_form.specs.Programs.{lowered_root}
use Rattle.kernel_premises.specs.Arrays.{AllocatedAreDeclared, DeclaredAreFew}
use Rattle.kernel_premises.specs.Sound.{HasSoundParts}
use Rattle.kernel_premises.specs.Soundness.{LeastSizesAreAdmissible, LoweredTermsHaveSoundParts}
use Rattle.kernel_premises.specs.Terms.{KernelsAreInTheGrammar, kernel_for}
use Rattle.item_emit.specs.Copies.{HasShortCopies}
use Rattle.phase_plan.specs.Planned.{IsKindOf}
use Rattle.phase_plan.specs.declared.phases.Phases.{Phases}
use Rattle.phase_plan.specs.declared.kind.Kind.{Kind}
use Rattle.phase_plan.specs.declared.kind.Kind.TheVariants.{Task, OverLaunch, OverGroups, OverGrid}
use Rattle.kernel_emit.specs.Plain.{IsPlainFor}
use Rattle.kernel_emit.specs.Plans.{printed_with}

not_chosen : {A : Type 0} (b : Bool) (x : A) (rest : Option A) → cond b (Some x) rest ≡ None → b ≡ false
not_chosen true x rest h = absurd (none-some x (sym h))
not_chosen false x rest h = refl

few_layouts : (t : Tree) (n : Annotation) → passed_limit t n ≡ None → layouts t n ≤ 24
few_layouts t n h = let few = ltb-false 24 (layouts t n) (not_chosen (nat_lt 24 (layouts t n)) _ _ h) in omega (arith, few)

-- a sound term whose nest is legal
pub legal_term : (d : Declared) (t : Tree) (n : Annotation) → IsSoundTerm d t n → IsLegalNest t n → IsLegalTerm d t n
legal_term d t n sound legal = record {
  declared = sound.declared;
  nodes = sound.nodes;
  output = sound.output;
  within = sound.within;
  words = sound.words;
  legal = legal;
}

-- copies are short where loads suffice
abbrev pub CopiesAreShort : Type 0
CopiesAreShort = (h : ℕ → List Bool → Bool) (t : Lowered) → LoadsSuffice h t → HasShortCopies t

-- what is known of legal terms
pub record Known : Type 0 where
  pub allocated : AllocatedAreDeclared
  pub short : CopiesAreShort
  pub few : DeclaredAreFew
  pub grammar : KernelsAreInTheGrammar
  pub least : LeastSizesAreAdmissible
  pub printable : LegalTermsArePrintable
  pub sound : LoweredTermsHaveSoundParts
  pub serve : LoweredTermsServe

-- what is printed is of the grammar, with few arrays and short copies, and made by
-- the printer of the term's kind
pub record IsPrintedWell (d : Declared) (local : Option (ℕ × ℕ)) (t : Tree) (n : Annotation) (ls ps : List ℕ) (root : Lowered) (kind : Kind) : Type 0 where
  pub grammar : is_kernel (printed_with d local n ls ps root kind) ≡ true
  pub copies : HasShortCopies root
  pub locals : length ls < 2 ^ 32
  pub privates : length ps < 2 ^ 32
  pub plain : IsPlainFor d local t n (printed_with d local n ls ps root kind)

-- made by this printer, with the barriers that it needs
abbrev IsPlainBy : Printer → Declared → (local : Option (ℕ × ℕ)) → Tree → Annotation → Kernel → Type 0
IsPlainBy p d local t n k = (fence : ℕ → Fencing) × AreNeededBy p d local fence t n × (k ≡ kernel_for p d local fence t n)

module _ (d : Declared) (local : Option (ℕ × ℕ)) (t : Tree) (n : Annotation) (locals privates : List ℕ) (root : Lowered) (l : locals ≡ copy_lengths LocalMemory (lowered_root d.names t n)) (p : privates ≡ copy_lengths PrivateMemory (lowered_root d.names t n)) (r : root ≡ lowered_root d.names t n) where
  -- of these arrays, and of what the term is lowered to, the printers make this
  by_items : (fence : ℕ → Fencing) → printed_with d local n locals privates root Task ≡ kernel_for OfItems d local fence t n
  by_items fence = rw (l, p, r) refl

  by_groups : (phases : Phases) → phases.count ≡ phase_count root → printed_with d local n locals privates root (OverGroups phases) ≡ kernel_for OfGroups d local (fence (phase_count (lowered_root d.names t n)) phases.barriers.items) t n
  by_groups phases c = rw (l, p, c, r) refl

  by_grids : (phases : Phases) → phases.count ≡ grid_phase_count root → printed_with d local n locals privates root (OverGrid phases) ≡ kernel_for OfGrids d local (fence (grid_phase_count (lowered_root d.names t n)) phases.barriers.items) t n
  by_grids phases c = rw (l, p, c, r) refl

  by_kind : (kind : NestKind) (k : Kernel) → nest_kind t ≡ kind → IsPlainBy (printer_of kind) d local t n k → IsPlainFor d local t n k
  by_kind kind k is made = subst (λ (j : NestKind). IsPlainBy (printer_of j) d local t n k) (sym is) made

  -- by the printer of the kind that the plan tells
  made_plain : (kind : Kind) → IsKindOf d.names local t root kind → IsPlainFor d local t n (printed_with d local n locals privates root kind)
  made_plain Task told = by_kind _ _ told (λ q. Open, tt, by_items (λ q. Open))
  made_plain OverLaunch told = by_kind _ _ told (λ q. Open, tt, by_items (λ q. Open))
  made_plain (OverGroups phases) told =
      let barriers = phases.barriers.items in
      let fences = fence (phase_count (lowered_root d.names t n)) barriers in
      let needed : AreNeededBy OfGroups d local fences t n = subst (λ (x : Lowered). Needed (group_touches x) (is_once (forms_of d.names local) x) (phase_count x) (fence (phase_count x) barriers)) r told.1.needed in
      by_kind _ _ told.0 (fences, needed, by_groups phases told.1.count)
  made_plain (OverGrid phases) told =
      let barriers = phases.barriers.items in
      let fences = fence (grid_phase_count (lowered_root d.names t n)) barriers in
      let needed : AreNeededBy OfGrids d local fences t n = subst (λ (x : Lowered). Needed (grid_touches x) (is_once_over (grid_forms_of d.names local) x) (grid_phase_count x) (fence (grid_phase_count x) barriers)) r told.1.needed in
      by_kind _ _ told.0 (fences, needed, by_grids phases told.1.count)

module _ (known : Known) (d : Declared) (local : Option (ℕ × ℕ)) (t : Tree) (n : Annotation) (typed : IsSoundTerm d t n) (sized : IsLocalSize local) (nest_legal : IsLegalNest t n) (within : passed_limit t n ≡ None) where
  legal : IsLegalTerm d t n
  legal = legal_term d t n typed nest_legal

  printable : IsPrintable (printer_for t) d t n
  printable = known.printable d t n legal typed.copies

  sound : HasSoundParts d t n
  sound = known.sound d t n legal printable.can

  in_grammar : (k : Kernel) → IsPlainFor d local t n k → is_kernel k ≡ true
  in_grammar k plain = ap is_kernel plain.2 ∙ known.grammar (printer_for t) d local plain.0 t n sized legal printable plain.1 (few_layouts t n within) (let low = typed.low in omega (arith, low))

  copies_short : HasShortCopies (lowered_root d.names t n)
  copies_short = known.short _ (lowered_root d.names t n) (known.serve.loads d (leasts d.names) t n legal.nodes (printable.can.lowerable (leasts d.names) (known.least d.names legal.declared.names)).lowerable printable.can.staged)

  pub printed_well : (locals privates : List ℕ) (root : Lowered) → AreAllocated locals privates t n → root ≡ lowered_root d.names t n → (kind : Kind) → IsKindOf d.names local t root kind → IsPrintedWell d local t n locals privates root kind
  printed_well locals privates root arrays is kind told =
      let few = known.few d t n printable.can.staged sound within in
      let locals_are = arrays.local ∙ known.allocated d t n printable.can.staged sound Local in
      let privates_are = arrays.private ∙ known.allocated d t n printable.can.staged sound Private in
      let plain = made_plain d local t n locals privates root locals_are privates_are is kind told in
      record {
        grammar = in_grammar (printed_with d local n locals privates root kind) plain;
        copies = subst HasShortCopies (sym is) copies_short;
        locals = let most = few.locals in let same = ap length locals_are in omega (arith, most, same);
        privates = let most = few.privates in let same = ap length privates_are in omega (arith, most, same);
        plain = plain;
      }
