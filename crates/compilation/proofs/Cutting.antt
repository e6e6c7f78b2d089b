-- What is compiled of a last term that is cut into the terms of kernels.
use Rattle.std.proofs.Common.{◌≡◌, ◌∙◌, ◌+◌, ◌≤◌, arith, ℕ, zero, suc, List, [], ◌∷◌, ◌++◌, Option, Some, None, Result, Ok, Err, ap, append-nil, append_assoc, inl, inr, length, map, refl, subst, sym, take}
use Rattle.std.specs.Prelude.{slice_get, if◌then◌else◌}
use Rattle.std.proofs.lemmas.Bool.{le-ltb}
use Rattle.std.proofs.lemmas.List.{length-map, map-append}
use Rattle.size_arith.specs.declared.names.Name.{Name}
use Rattle.kernel_tree.specs.Code.{Kernel}
use Rattle.kernel_spelling.specs.SequenceText.{AreTexts, IsSequenceText}
use Rattle.lift_tree.specs.Annotations.{Annotation, annotation_of, type_in}
use Rattle.lift_tree.specs.Lists.{Every}
use Rattle.lift_tree.specs.Programs.{PlainInput, PlainProgram, program_of}
use Rattle.lift_tree.specs.Tree.{Tree, tree_of}
use Rattle.lift_tree.specs.Types.{PlainTy, ty_of}
use Rattle.lift_tree.specs.Typing.{Declared, HasOutput, declared_by}
use Rattle.lift_tree.specs.WorkedOut.{worked_out}
use Rattle.lift_tree.specs.declared.typed.Typed.{Typed}
use Rattle.lowered_tree.specs.Named.{declared_of}
use Rattle.lowered_tree.specs.declared.lowered.Lowered.{Lowered}
use Rattle.kernel_sequence.specs.Cut.{Part, cut_off, cuts}
use Rattle.kernel_sequence.specs.Laws.{KernelsAreCounted, KernelsAreSound}
use Rattle.kernel_sequence.specs.Parts.{term_part}
use Rattle.kernel_sequence.specs.Refused.{Refuses, kernel_count, passed_count}
use Rattle.kernel_sequence.specs.Sequence.{AreKernelsOf, scratch_of}
use Rattle.kernel_sequence.specs.declared.no.CutNo.{CutNo}
use Rattle.kernel_sequence.specs.declared.no.CutNo.TheVariants as no
use Rattle.sequence_runs.specs.Laws.{LastKernelsMakeTheOutput, SequencesKeep}
use Rattle.sequence_runs.specs.Runs.{SequenceKeeps, Stage}
use Rattle.sequence_runs.specs.Stages.{AreKernelsOfEach, stages_of}
use Rattle.rewriting.specs.Keeps.{Keeps}
use Rattle.strategy_script.specs.LocalSize.{local_fixed}
use Rattle.strategy_script.specs.Steps.{State, state_of}
use Rattle.fault_lines.specs.Refusal.{cut_refused}
use Rattle.fault_lines.specs.declared.refusal.Refusal.{Refusal}
use Rattle.program_source.specs.Program.{OnProgram, StopsFor}
use Rattle.program_source.specs.SourceTerms.{IsLastTerm}
use Rattle.program_source.specs.Terms.{LastOf, TermsOf}
use Rattle.stages.specs.Stages.{Then}
use Rattle.compilation.specs.Legal.{IsSoundLowered, lowered_state}
use Rattle.compilation.specs.Meets.{CanBeLaidOut}
use Rattle.compilation.specs.Sequence.{AreKernelsFor, AreMadeOf, CompilesInTurn, CompilesParts, CutOf, EndsWith, HasLegalTerm, HaveInputsBehind, IsCompiledSequence, IsLaidOut, IsSequenceFor, Outline, SequenceOf, outline_in, part_of, with_input}
use Rattle.compilation.proofs.Compiling.{stopped_before, stopped_behind}
use Rattle.compilation.proofs.Legality.{legal_term}

-- ---- each term is sound

pub all_sound : (ls : List Lowered) → ((k : ℕ) (x : Lowered) → slice_get ls k ≡ Some x → IsSoundLowered x) → Every IsSoundLowered ls
all_sound [] h = tt
all_sound (l ∷ ls) h = (h zero l refl, all_sound ls (λ k x is. h (suc k) x is))

pub kernels_sound : KernelsAreSound → (l : Lowered) (ls : List Lowered) → IsSoundLowered l → AreKernelsOf l ls → Every IsSoundLowered ls
kernels_sound law l ls sound are = all_sound ls (law l ls sound are)

-- ---- the cut of a last term

not_passed : (t : Tree) (n : Annotation) → cuts t n + 1 ≤ 16 → passed_count t n ≡ None
not_passed t n few = ap (λ b. if b then Some (kernel_count t n) else None) (le-ltb 16 (kernel_count t n) (omega (arith, few)))

pub count_of : KernelsAreCounted → (l : Lowered) (ls : List Lowered) → AreKernelsOf l ls → length ls ≡ cuts (tree_of l.term) (annotation_of l.types) + 1
count_of counts l ls are =
    sym (length-map ls term_part) ∙ ap length are.kernels.terms ∙ counts (length l.inputs.items) (tree_of l.term) (annotation_of l.types)

-- of the state that is lowered so
module _ (p : PlainProgram) (s : State) (l : Lowered) (declared : declared_of l ≡ declared_by p) (state : lowered_state l ≡ s) where
  counted : length l.inputs.items ≡ length p.inputs
  counted =
      sym (length-map l.inputs.items ty_of) ∙ ap (λ (e : Declared). length e.inputs) declared
      ∙ length-map p.inputs (λ (i : PlainInput). worked_out (declared_by p).names i.ty)

  cut_of : (r : Result (List Part) CutNo) → CutOf (length l.inputs.items) (lowered_state l) r → CutOf (length p.inputs) s r
  cut_of r h = subst (λ i. CutOf i s r) counted (subst (λ (z : State). CutOf (length l.inputs.items) z r) state h)

  pub cut_made : KernelsAreCounted → (ls : List Lowered) → AreKernelsOf l ls → CutOf (length p.inputs) s (Ok (map term_part ls))
  cut_made counts ls are =
      let few = are.few in
      let count = count_of counts l ls are in
      cut_of (Ok (map term_part ls)) (are.unbound, not_passed (tree_of l.term) (annotation_of l.types) (omega (arith, few, count)), are.kernels.terms)

  pub cut_stops : (local : Option (ℕ × ℕ)) (why : CutNo) → Refuses why (tree_of l.term) (annotation_of l.types) → StopsFor (CompilesParts (length p.inputs) local s) (cut_refused why)
  cut_stops local (no.Nest place rule) h = inr (inl (no.Nest place rule, cut_of (Err (no.Nest place rule)) h, refl))
  cut_stops local (no.Limit count) h = inr (inl (no.Limit count, cut_of (Err (no.Limit count)) h, refl))
  cut_stops local no.Memory h = inl refl

  pub turn_stops : (local : Option (ℕ × ℕ)) (parts : List Part) (why : Refusal) → CutOf (length p.inputs) s (Ok parts) → StopsFor (CompilesInTurn local parts) why → StopsFor (CompilesParts (length p.inputs) local s) why
  turn_stops local parts why cut (inl memory) = inl memory
  turn_stops local parts why cut (inr h) = inr (inr (parts, cut, inl h))

-- ---- why a sequence isn't compiled

pub sequence_terms_first : (program script : List ℕ) (why : Refusal) → StopsFor (OnProgram program (λ p. TermsOf p script)) why → StopsFor (OnProgram program (λ p. SequenceOf p script)) why
sequence_terms_first program script =
    stopped_before (λ p terms. Then (LastOf terms) (CompilesParts (length p.inputs) (local_fixed script))) program script

pub sequence_stops : (program script : List ℕ) (t : Typed) (why : Refusal) → IsLastTerm program script t → (local : Option (ℕ × ℕ)) → local ≡ local_fixed script
    → StopsFor (CompilesParts (length (program_of t.program).inputs) local (state_of t)) why → StopsFor (OnProgram program (λ p. SequenceOf p script)) why
sequence_stops program script t why last local fixed stops =
    stopped_behind (λ p. CompilesParts (length p.inputs) (local_fixed script)) program script t why last
    (subst (λ (o : Option (ℕ × ℕ)). StopsFor (CompilesParts (length (program_of t.program).inputs) o (state_of t)) why) fixed stops)

-- ---- terms and their kernels, one by one

stage_parts : (local : Option (ℕ × ℕ)) (ls : List Lowered) (ks : List Kernel) → AreKernelsOfEach local ls ks → map part_of (stages_of ls ks) ≡ map term_part ls
stage_parts local [] ks each = refl
stage_parts local (l ∷ ls) [] each = absurd each
stage_parts local (l ∷ ls) (k ∷ ks) each = ap (λ xs. term_part l ∷ xs) (stage_parts local ls ks each.1)

stage_kernels : (local : Option (ℕ × ℕ)) (ls : List Lowered) (ks : List Kernel) → AreKernelsOfEach local ls ks → map (λ (k : Stage). k.kernel) (stages_of ls ks) ≡ ks
stage_kernels local [] [] each = refl
stage_kernels local [] (k ∷ ks) each = absurd each
stage_kernels local (l ∷ ls) [] each = absurd each
stage_kernels local (l ∷ ls) (k ∷ ks) each = ap (λ xs. k ∷ xs) (stage_kernels local ls ks each.1)

stage_outlines : (local : Option (ℕ × ℕ)) (ls : List Lowered) (ks : List Kernel) → AreKernelsOfEach local ls ks → map (λ (k : Stage). outline_in local (part_of k)) (stages_of ls ks) ≡ map (outline_in local) (map term_part ls)
stage_outlines local [] ks each = refl
stage_outlines local (l ∷ ls) [] each = absurd each
stage_outlines local (l ∷ ls) (k ∷ ks) each = ap (λ xs. outline_in local (term_part l) ∷ xs) (stage_outlines local ls ks each.1)

as_many : (local : Option (ℕ × ℕ)) (ls : List Lowered) (ks : List Kernel) → AreKernelsOfEach local ls ks → length ls ≡ length ks
as_many local [] [] each = refl
as_many local [] (k ∷ ks) each = absurd each
as_many local (l ∷ ls) [] each = absurd each
as_many local (l ∷ ls) (k ∷ ks) each = let e = as_many local ls ks each.1 in omega (arith, e)

stage_kernels_for : (local : Option (ℕ × ℕ)) (ls : List Lowered) (ks : List Kernel) → AreKernelsOfEach local ls ks → AreKernelsFor local (stages_of ls ks)
stage_kernels_for local [] ks each = tt
stage_kernels_for local (l ∷ ls) [] each = absurd each
stage_kernels_for local (l ∷ ls) (k ∷ ks) each = (each.0.kernel, stage_kernels_for local ls ks each.1)

-- the term of each is legal
stage_legal : (local : Option (ℕ × ℕ)) (ls : List Lowered) (ks : List Kernel) → AreKernelsOfEach local ls ks → CompilesInTurn local (map term_part ls) (Ok tt) → Every HasLegalTerm (stages_of ls ks)
stage_legal local [] ks each compiled = tt
stage_legal local (l ∷ ls) [] each compiled = absurd each
stage_legal local (l ∷ ls) (k ∷ ks) each compiled =
    let sound = each.0.sound in
    (record { legal = legal_term (declared_of l) (lowered_state l) sound compiled.1.1.nest; copies = sound.copies }, stage_legal local ls ks each.1 compiled.2)

-- each names these sizes
abbrev NamesAll : List Name → List Lowered → Type 0
NamesAll names ls = (k : ℕ) (x : Lowered) → slice_get ls k ≡ Some x → x.names ≡ names

stage_names : (names : List Name) (ls : List Lowered) (ks : List Kernel) → NamesAll names ls → Every (λ (k : Stage). k.declared.names ≡ names) (stages_of ls ks)
stage_names names [] ks named = tt
stage_names names (l ∷ ls) [] named = tt
stage_names names (l ∷ ls) (k ∷ ks) named = (named zero l refl, stage_names names ls ks (λ i x is. named (suc i) x is))

outlines_laid_out : (local : Option (ℕ × ℕ)) (names : List Name) (ls : List Lowered) → NamesAll names ls → Every IsLaidOut ls → Every (λ (o : Outline). CanBeLaidOut names o.output) (map (outline_in local) (map term_part ls))
outlines_laid_out local names [] named all = tt
outlines_laid_out local names (l ∷ ls) named all = (
  subst (λ (ns : List Name). CanBeLaidOut ns (type_in (annotation_of l.types))) (named zero l refl) all.0,
  outlines_laid_out local names ls (λ i x is. named (suc i) x is) all.1,
)

stage_inputs : (d : Declared) (ls : List Lowered) (ks : List Kernel) → NamesAll d.names ls
    → ((k : ℕ) (x : Lowered) → slice_get ls k ≡ Some x → map ty_of x.inputs.items ≡ d.inputs ++ scratch_of (take k (map term_part ls)))
    → HaveInputsBehind d (stages_of ls ks)
stage_inputs d [] ks named inputs = tt
stage_inputs d (l ∷ ls) [] named inputs = tt
stage_inputs d (l ∷ ls) (k ∷ ks) named inputs =
    let a = type_in (annotation_of l.types) in
    let names = named zero l refl in
    let own = inputs zero l refl ∙ append-nil d.inputs in (
      (λ i. record { names = names i; inputs = own i }),
      stage_inputs (with_input d a) ls ks (λ i x is. named (suc i) x is)
          (λ i x is. inputs (suc i) x is ∙ sym (append_assoc d.inputs (a ∷ []) (scratch_of (take i (map term_part ls))))),
    )

-- ---- what is compiled

module _ (program script : List ℕ) (t : Typed) (last : IsLastTerm program script t) (l : Lowered) (declared : declared_of l ≡ declared_by (program_of t.program)) (state : lowered_state l ≡ state_of t) (local : Option (ℕ × ℕ)) (ls : List Lowered) (are : AreKernelsOf l ls) (counts : KernelsAreCounted) (ks : List Kernel) (os : List Outline) (made : AreMadeOf local ls ks os) (text : List ℕ) (texts : AreTexts 0 text ks) (keeping : SequencesKeep) where
  abbrev source : PlainProgram
  source = program_of t.program

  abbrev whole : PlainTy
  whole = type_in (annotation_of l.types)

  typed : HasOutput source source.body whole
  typed = subst (λ (z : State). HasOutput source source.body (type_in z.types)) (sym state) last.output

  keep : SequenceKeeps (declared_by source) local source.body whole (stages_of ls ks)
  keep =
      keeping source l local ls ks declared typed (subst (λ (z : State). Keeps (declared_by source) [] source.body z.tree) (sym state) last.term.keeps)
      are made.each

  written : IsSequenceText text (map (λ (k : Stage). k.kernel) (stages_of ls ks))
  written =
      let count = count_of counts l ls are in
      let long = as_many local ls ks made.each in
      subst (IsSequenceText text) (sym (stage_kernels local ls ks made.each)) (record { some = omega (arith, count, long); texts = texts })

  named : NamesAll (declared_by source).names ls
  named k x is = are.kernels.names k x is ∙ ap (λ (d : Declared). d.names) declared

  behind : (k : ℕ) (x : Lowered) → slice_get ls k ≡ Some x → map ty_of x.inputs.items ≡ (declared_by source).inputs ++ scratch_of (take k (map term_part ls))
  behind k x is =
      are.kernels.inputs k x is ∙ ap (λ ps. map ty_of l.inputs.items ++ scratch_of (take k ps)) (sym are.kernels.terms)
      ∙ ap (λ (d : Declared). d.inputs ++ scratch_of (take k (map term_part ls))) declared

  compiled_at : local ≡ local_fixed script → IsCompiledSequence program script source whole os text
  compiled_at fixed =
      record {
        read = last.read;
        typed = typed;
        parts = map term_part ls;
        compiled = (
          last.terms,
          last.made,
          (
            state_of t,
            last.is_last,
            (
              map term_part ls,
              cut_made source (state_of t) l declared state counts ls are,
              (tt, subst (λ (o : Option (ℕ × ℕ)). CompilesInTurn o (map term_part ls) (Ok tt)) fixed made.compiled, refl),
            ),
          ),
        );
        outlined = subst (λ (o : Option (ℕ × ℕ)). map (outline_in o) (map term_part ls) ≡ os) fixed (sym made.outlined);
        kernels = stages_of ls ks;
        terms = stage_parts local ls ks made.each;
        inputs = stage_inputs (declared_by source) ls ks named behind;
        legal = stage_legal local ls ks made.each made.compiled;
        each = subst (λ (o : Option (ℕ × ℕ)). AreKernelsFor o (stages_of ls ks)) fixed (stage_kernels_for local ls ks made.each);
        written = written;
        keep = subst (λ (o : Option (ℕ × ℕ)). SequenceKeeps (declared_by source) o source.body whole (stages_of ls ks)) fixed keep;
      }

  pub sequence_found : (output : PlainTy) → output ≡ whole → local ≡ local_fixed script → IsCompiledSequence program script source output os text
  sequence_found output same fixed = subst (λ (a : PlainTy). IsCompiledSequence program script source a os text) (sym same) (compiled_at fixed)

  ends : LastKernelsMakeTheOutput → EndsWith os whole
  ends law =
      let c = cut_off (length l.inputs.items) [] (tree_of l.term) (annotation_of l.types) in (
        map (outline_in local) c.made,
        outline_in local c.left,
        made.outlined ∙ ap (map (outline_in local)) are.kernels.terms ∙ map-append (outline_in local) c.made (c.left ∷ []),
        law (length l.inputs.items) (tree_of l.term) (annotation_of l.types),
      )

  -- what a type keeps of it
  pub sequence_for : LastKernelsMakeTheOutput → (output : PlainTy) → output ≡ whole → IsSequenceFor source output os text
  sequence_for law output same =
      subst (λ (a : PlainTy). IsSequenceFor source a os text) (sym same)
      (record {
        typed = typed;
        laid_out = subst (Every (λ (o : Outline). CanBeLaidOut (declared_by source).names o.output)) (sym made.outlined) (outlines_laid_out local (declared_by source).names ls named made.laid_out);
        last = ends law;
        local = local;
        kernels = stages_of ls ks;
        outlined = stage_outlines local ls ks made.each ∙ sym made.outlined;
        names = stage_names (declared_by source).names ls ks named;
        written = written;
        keep = keep;
      })
