-- Each kernel's term is sound over what it may name.
use Rattle.std.proofs.Common.{◌≡◌, ℕ, zero, suc, ◌+◌, ◌<◌, ◌≤◌, List, [], ◌∷◌, ◌++◌, append-nil, append_assoc, length, length-append, map, take, Bool, true, false, None, Some, refl, sym, ap, ◌∙◌, subst, arith}
use Rattle.std.specs.Prelude.{slice_get}
use Rattle.std.specs.Coded.{le_prop}
use Rattle.std.proofs.lemmas.List.{length-map, map-append}
use Rattle.std.proofs.Math.Bool.{Bool-set}
use Rattle.std.proofs.Math.Logic.{∥∥₁_elim, ∥∥₁_prop}
use Rattle.lift_tree.specs.Annotations.{Annotation, annotation_of, type_in}
use Rattle.lift_tree.specs.Limits.{TypeFits}
use Rattle.lift_tree.specs.Lists.{Every}
use Rattle.lift_tree.specs.Tree.{Tree, height, tree_of}
use Rattle.lift_tree.specs.Types.{PlainTy, IsOutput, ty_of}
use Rattle.lift_tree.specs.Typing.{Declared, IsDeclared}
use Rattle.lift_tree.proofs.EveryAt.{every_at, every_more}
use Rattle.lowered_tree.specs.declared.lowered.Lowered.{Lowered}
use Rattle.lowered_tree.specs.Forms.{has_then}
use Rattle.lowered_tree.specs.Named.{declared_of}
use Rattle.lowered_tree.specs.Whole.{IsSoundTerm}
use Rattle.kernel_sequence.specs.Bound.{first_bound}
use Rattle.kernel_sequence.specs.Cut.{Cutting, Part, cut_off, cuts, kernel_parts}
use Rattle.kernel_sequence.specs.declared.cutting.Cutting as held
use Rattle.kernel_sequence.specs.declared.parts.Part as parts
use Rattle.kernel_sequence.specs.Parts.{cutting_of, part_of, term_part}
use Rattle.kernel_sequence.specs.Sequence.{AreKernels, AreKernelsOf, AreSoundParts, declared_behind, parts_of, scratch_of}
use Rattle.kernel_sequence.specs.Laws.{KernelsAreSound, KernelsHaveNoCut}
use Rattle.kernel_sequence.proofs.Count.{parts_count}
use Rattle.kernel_sequence.proofs.Cutless.{IsUncut, no_cuts, parts_are_uncut}
use Rattle.kernel_sequence.proofs.Fits.{formed_and_fit}
use Rattle.kernel_sequence.proofs.Sound.{ArePartsBehind, IsKernelPart, kernels_more, scratch_append, scratch_length, walk, with_arrays}

-- what may be named is declared, and passes no limit
pub record MayBeNamed (d : Declared) : Type 0 where
  pub declared : IsDeclared d
  pub fits : Every (TypeFits d.names) d.inputs

-- so with the array of one kernel more
one_more : (d : Declared) (high : ℕ) (before : List Part) (p : Part) → MayBeNamed (with_arrays d (scratch_of before)) → IsKernelPart d high before p → MayBeNamed (with_arrays d (scratch_of (before ++ p ∷ [])))
one_more d high before p named h =
    let e = with_arrays d (scratch_of before) in
    let a = type_in p.types in
    let new = formed_and_fit e p.tree p.types named.declared.inputs named.fits h.part.nodes h.part.fits in
    let same : e.inputs ++ a ∷ [] ≡ d.inputs ++ scratch_of (before ++ p ∷ []) =
    append_assoc d.inputs (scratch_of before) (a ∷ []) ∙ ap (λ z. d.inputs ++ z) (sym (scratch_append before (p ∷ []))) in
    subst (λ (z : List PlainTy). MayBeNamed (record d { inputs = z })) same (record {
      declared = record {
        few = named.declared.few;
        names = named.declared.names;
        arrays = every_more _ e.inputs a named.declared.arrays h.output;
        inputs = every_more _ e.inputs a named.declared.inputs new.0;
      };
      fits = every_more _ e.inputs a named.fits new.1;
    })

-- what the k-th of these kernels may name, and its term
record IsReady (d : Declared) (high : ℕ) (before : List Part) (p : Part) : Type 0 where
  named : MayBeNamed (with_arrays d (scratch_of before))
  part : IsKernelPart d high before p

ready : (d : Declared) (high : ℕ) (before ps : List Part) (k : ℕ) (p : Part) → MayBeNamed (with_arrays d (scratch_of before)) → ArePartsBehind d high before ps → slice_get ps k ≡ Some p → IsReady d high (before ++ take k ps) p
ready d high before [] k p named h e = absurd (cc)
ready d high before (q ∷ ps) zero p named h e =
    let own : q ≡ p = cc in
    subst (λ z. IsReady d high z p) (sym (append-nil before)) (record { named = named; part = subst (IsKernelPart d high before) own h.0 })
ready d high before (q ∷ ps) (suc k) p named h e =
    subst (λ z. IsReady d high z p) (append_assoc before (q ∷ []) (take k ps))
    (ready d high (before ++ q ∷ []) ps k p (one_more d high before q named h.0) h.1 e)

-- all kernels of a term
parts_behind : (d : Declared) (high : ℕ) (t : Tree) (n : Annotation) → IsSoundTerm d t n → high ≡ 256 → ArePartsBehind d high [] (kernel_parts (length d.inputs) t n)
parts_behind d high t n s top =
    let low = s.low in
    let c = cut_off (length d.inputs) [] t n in
    let fine : height t ≤ high = omega (arith, low, top) in
    let r = walk d high [] t n s.nodes s.within.nodes s.copies s.words fine tt in
    kernels_more d high [] c.made c.left r.0 (record {
      part = record { nodes = r.1.nodes; own = refl; fits = r.1.fits; copies = r.1.copies; words = r.1.words; low = (let l = r.1.low in omega (arith, l, low, top)) };
      output = subst IsOutput (sym r.1.own) s.output;
    })

taken : {A : Type 0} (xs : List A) (k : ℕ) (x : A) → slice_get xs k ≡ Some x → (k < length xs) × (length (take k xs) ≡ k)
taken [] k x e = absurd (cc)
taken (y ∷ xs) zero x e = (omega arith, refl)
taken (y ∷ xs) (suc k) x e = let r = taken xs k x e in (omega (arith, r), omega (arith, r))

-- a program's inputs, and an array for each cut; a term without cuts makes none
room : (d : Declared) (t : Tree) (n : Annotation) (b : Bool) → has_then t ≡ b → IsSoundTerm d t n → cuts t n ≤ 15 → length d.inputs + cuts t n ≤ 23
room d t n true e s few = let h = s.first e in omega (arith, h, few)
room d t n false e s few = let h = s.few in let none = no_cuts t n e in omega (arith, h, none)

sound_at : (d : Declared) (t : Tree) (n : Annotation) (k : ℕ) (p : Part) → IsSoundTerm d t n → first_bound false t ≡ None → cuts t n ≤ 15 → slice_get (kernel_parts (length d.inputs) t n) k ≡ Some p
    → IsSoundTerm (with_arrays d (scratch_of (take k (kernel_parts (length d.inputs) t n)))) p.tree p.types
sound_at d t n k p s unbound few e =
    let ps = kernel_parts (length d.inputs) t n in
    let first : MayBeNamed (with_arrays d []) = subst (λ (z : List PlainTy). MayBeNamed (record d { inputs = z })) (sym (append-nil d.inputs)) (record { declared = s.declared; fits = s.within.inputs }) in
    let r = ready d 256 [] ps k p first (parts_behind d 256 t n s refl) e in
    let at = taken ps k p e in
    let none = every_at IsUncut ps k p (parts_are_uncut d (length d.inputs) t n s.nodes unbound) e in
    let inputs = room d t n (has_then t) refl s few in
    record {
      few = omega (arith, inputs, at, parts_count (length d.inputs) t n, length-append d.inputs (scratch_of (take k ps)), scratch_length (take k ps));
      first = λ has. absurd (cc);
      declared = r.named.declared;
      nodes = r.part.part.nodes;
      output = r.part.output;
      within = record { inputs = r.named.fits; nodes = r.part.part.fits };
      low = r.part.part.low;
      copies = r.part.part.copies;
      words = r.part.part.words;
    }

-- a program's inputs and an array of each kernel but the last are few
pub few_inputs : (l : Lowered) → length l.inputs.items ≤ 23
few_inputs l = ∥∥₁_elim l.sound le_prop (λ s. let h = s.few in omega (arith, h, length-map l.inputs.items ty_of))

-- over the inputs as they are declared
as_declared : (l : Lowered) → kernel_parts (length (declared_of l).inputs) (tree_of l.term) (annotation_of l.types) ≡ parts_of l
as_declared l = ap (λ i. kernel_parts i (tree_of l.term) (annotation_of l.types)) (length-map l.inputs.items ty_of)

pub parts_are_sound : (l : Lowered) (k : ℕ) (p : Part) → IsSoundTerm (declared_of l) (tree_of l.term) (annotation_of l.types) → first_bound false (tree_of l.term) ≡ None → cuts (tree_of l.term) (annotation_of l.types) ≤ 15 → slice_get (parts_of l) k ≡ Some p
    → IsSoundTerm (declared_behind l (take k (parts_of l))) p.tree p.types
parts_are_sound l k p s unbound few e =
    let d = declared_of l in
    let t = tree_of l.term in
    let n = annotation_of l.types in
    let ps = as_declared l in
    subst (λ z. IsSoundTerm (with_arrays d (scratch_of (take k z))) p.tree p.types) ps
    (sound_at d t n k p s unbound few (subst (λ z. slice_get z k ≡ Some p) (sym ps) e))

-- ---- of the kernels
-- the part of the k-th kernel
part_at : (ks : List Lowered) (k : ℕ) (x : Lowered) → slice_get ks k ≡ Some x → slice_get (map term_part ks) k ≡ Some (term_part x)
part_at [] k x e = absurd (cc)
part_at (y ∷ ks) zero x e = let own : y ≡ x = cc in ap (λ (z : Lowered). Some (term_part z)) own
part_at (y ∷ ks) (suc k) x e = part_at ks k x e

in_parts : (l : Lowered) (ls : List Lowered) (k : ℕ) (x : Lowered) → AreKernelsOf l ls → slice_get ls k ≡ Some x → slice_get (parts_of l) k ≡ Some (term_part x)
in_parts l ls k x h e = subst (λ z. slice_get z k ≡ Some (term_part x)) h.kernels.terms (part_at ls k x e)

few_cuts : (l : Lowered) (ls : List Lowered) → AreKernelsOf l ls → cuts (tree_of l.term) (annotation_of l.types) ≤ 15
few_cuts l ls h =
    let few = h.few in
    let same : length ls ≡ length (parts_of l) = sym (length-map ls term_part) ∙ ap length h.kernels.terms in
    omega (arith, few, same, parts_count (length l.inputs.items) (tree_of l.term) (annotation_of l.types))

pub kernels_have_no_cut : KernelsHaveNoCut
kernels_have_no_cut l ls h k x e =
    ∥∥₁_elim l.sound (Bool-set (has_then (tree_of x.term)) false) (λ s.
    every_at IsUncut (parts_of l) k (term_part x) (parts_are_uncut (declared_of l) (length l.inputs.items) (tree_of l.term) (annotation_of l.types) s.nodes h.unbound) (in_parts l ls k x h e))

pub kernels_are_sound : KernelsAreSound
kernels_are_sound l ls s h k x e =
    let part = parts_are_sound l k (term_part x) s h.unbound (few_cuts l ls h) (in_parts l ls k x h e) in
    let names = h.kernels.names k x e in
    let inputs = h.kernels.inputs k x e in
    let named : declared_behind l (take k (parts_of l)) ≡ declared_of x = λ i. record { names = sym names i; inputs = sym inputs i } in
    subst (λ (d : Declared). IsSoundTerm d (tree_of x.term) (annotation_of x.types)) named part

-- ---- of a lowered term, as it is cut
as_cut : (l : Lowered) (c : Cutting) (i : ℕ) (made : List Part) → i ≡ length l.inputs.items → made ≡ [] → c ≡ cut_off i made (tree_of l.term) (annotation_of l.types) → c.made ++ c.left ∷ [] ≡ parts_of l
as_cut l c i made inputs none are =
    ap (λ (z : Cutting). z.made ++ z.left ∷ [])
    (are ∙ ap (λ k. cut_off k made (tree_of l.term) (annotation_of l.types)) inputs ∙ ap (λ (ps : List Part). cut_off (length l.inputs.items) ps (tree_of l.term) (annotation_of l.types)) none)

-- all parts of a cutting in memory
pub all_parts : (l : Lowered) (c : held.Cutting) (i : ℕ) (made : List Part) (ps : List parts.Part) → cutting_of c ≡ cut_off i made (tree_of l.term) (annotation_of l.types) → ps ≡ c.made.items ++ c.left ∷ [] → i ≡ length l.inputs.items → made ≡ [] → map part_of ps ≡ parts_of l
all_parts l c i made ps are all inputs none =
    ap (map part_of) all ∙ map-append part_of c.made.items (c.left ∷ []) ∙ as_cut l (cutting_of c) i made inputs none are

pub sound_parts : (l : Lowered) (ps : List Part) → first_bound false (tree_of l.term) ≡ None → cuts (tree_of l.term) (annotation_of l.types) ≤ 15 → ps ≡ parts_of l → AreSoundParts l ps
sound_parts l ps unbound few are =
    subst (AreSoundParts l) (sym are) (λ k p e. ∥∥₁_elim l.sound ∥∥₁_prop (λ s. ∣ parts_are_sound l k p s unbound few e ∣₁))

pub kernels_of : (l : Lowered) (ps : List Part) (ks : List Lowered) → first_bound false (tree_of l.term) ≡ None → cuts (tree_of l.term) (annotation_of l.types) ≤ 15 → ps ≡ parts_of l → AreKernels l ps ks → AreKernelsOf l ks
kernels_of l ps ks unbound few are h =
    let k = subst (λ z. AreKernels l z ks) are h in
    let same : length ks ≡ length (parts_of l) = sym (length-map ks term_part) ∙ ap length k.terms in
    record { kernels = k; unbound = unbound; few = omega (arith, same, few, parts_count (length l.inputs.items) (tree_of l.term) (annotation_of l.types)) }
