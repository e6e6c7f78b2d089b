-- Kernels as they are made one by one.
use Rattle.std.proofs.Common.{◌≡◌, ℕ, zero, suc, ◌+◌, ◌<◌, List, [], ◌∷◌, ◌++◌, append_assoc, length, map, map-id, take, get_or, Some, ◌⊎◌, inl, inr, refl, sym, ap, ◌∙◌, subst, arith}
use Rattle.std.specs.Prelude.{slice_get}
use Rattle.std.proofs.lemmas.List.{length-map, map-append, take-append-le, take_more}
use Rattle.std.proofs.lemmas.Option.{slice_get_within}
use Rattle.std.proofs.Math.Seq.{take-append_seam}
use Rattle.size_arith.specs.declared.names.Name.{Name}
use Rattle.lift_tree.specs.declared.ty.Ty.{Ty}
use Rattle.lift_tree.specs.Annotations.{annotation_of, type_in}
use Rattle.lift_tree.specs.Tree.{tree_of}
use Rattle.lift_tree.specs.Types.{PlainTy, ty_of}
use Rattle.lift_tree.specs.Typing.{Declared}
use Rattle.lowered_tree.specs.declared.lowered.Lowered.{Lowered}
use Rattle.lowered_tree.specs.Whole.{IsSoundTerm}
use Rattle.kernel_sequence.specs.Cut.{Part}
use Rattle.kernel_sequence.specs.declared.parts.Part as held
use Rattle.kernel_sequence.specs.Parts.{part_of, term_part}
use Rattle.kernel_sequence.specs.Sequence.{AreKernels, AreSoundParts, declared_behind, inputs_behind, scratch_of}
use Rattle.kernel_sequence.proofs.Sound.{scratch_append}

-- ---- lists
last_or_before : {A : Type 0} (xs : List A) (x y : A) (k : ℕ) → slice_get (xs ++ x ∷ []) k ≡ Some y → (slice_get xs k ≡ Some y) ⊎ ((k ≡ length xs) × (x ≡ y))
last_or_before [] x y zero e = inr (refl, cc)
last_or_before [] x y (suc k) e = absurd (cc)
last_or_before (z ∷ xs) x y zero e = inl e
last_or_before (z ∷ xs) x y (suc k) e =
    elim (last_or_before xs x y k e) as (λ _. (slice_get (z ∷ xs) (suc k) ≡ Some y) ⊎ ((suc k ≡ length (z ∷ xs)) × (x ≡ y))) [
      | inl h ↦ inl h
      | inr h ↦ inr ((let g = h.0 in omega (arith, g)), h.1)
    ]

in_the_middle : {A : Type 0} (xs ys : List A) (x : A) → slice_get (xs ++ x ∷ ys) (length xs) ≡ Some x
in_the_middle [] ys x = refl
in_the_middle (z ∷ xs) ys x = in_the_middle xs ys x

-- those that were taken, the next, and the rest
pub record Turned {A : Type 0} (xs ys : List A) (x : A) : Type 0 where
  pub rest : List A
  pub are : xs ≡ ys ++ x ∷ rest

pub turned : {A : Type 0} (xs ys : List A) (x : A) → map (λ (y : A). y) ys ≡ take (length ys) xs → length ys < length xs → x ≡ get_or xs (length ys) x → Turned xs ys x
turned [] ys x same less next = absurd (omega (arith, less))
turned (z ∷ xs) [] x same less next = record { rest = xs; are = ap (λ w. w ∷ xs) (sym next) }
turned (z ∷ xs) (y ∷ ys) x same less next =
    let front : y ≡ z = cc in
    let behind : map (λ y. y) ys ≡ take (length ys) xs = cc in
    let r = turned xs ys x behind (omega (arith, less)) next in
    record { rest = r.rest; are = (let e = r.are in cc) }

pub one_type_more : (front : List PlainTy) (ts more : List Ty) (i : ℕ) (x y : Ty) → y ≡ get_or more i y → i < length more → ty_of x ≡ ty_of y → map ty_of ts ≡ front ++ map ty_of (take i more) → map ty_of (ts ++ x ∷ []) ≡ front ++ map ty_of (take (i + 1) more)
one_type_more front ts more i x y is h same so_far =
    map-append ty_of ts (x ∷ [])
    ∙ ap (λ z. z ++ ty_of x ∷ []) so_far
    ∙ append_assoc front (map ty_of (take i more)) (ty_of x ∷ [])
    ∙ ap (λ z. front ++ (map ty_of (take i more) ++ z ∷ [])) same
    ∙ ap (λ z. front ++ z) (sym (map-append ty_of (take i more) (y ∷ [])) ∙ ap (λ z. map ty_of (take i more ++ z ∷ [])) is ∙ ap (map ty_of) (sym (take_more more i y h)))

-- ---- sound parts
pub sound_behind : (l : Lowered) (all ps qs : List Part) (p : Part) → all ≡ ps ++ p ∷ qs → AreSoundParts l all → ∥ IsSoundTerm (declared_behind l ps) p.tree p.types ∥₁
sound_behind l all ps qs p e h =
    let f = subst (AreSoundParts l) e h in
    subst (λ z. ∥ IsSoundTerm (declared_behind l z) p.tree p.types ∥₁) (take-append_seam ps (p ∷ qs)) (f (length ps) p (in_the_middle ps qs p))

sound_over : (l : Lowered) (ps : List Part) (given : List Ty) (p : Part) → map ty_of given ≡ scratch_of ps → ∥ IsSoundTerm (declared_behind l ps) p.tree p.types ∥₁
    → ∥ IsSoundTerm (record { names = l.names; inputs = map ty_of l.inputs.items ++ map ty_of given }) p.tree p.types ∥₁
sound_over l ps given p same h =
    subst (λ (z : List PlainTy). ∥ IsSoundTerm (record { names = l.names; inputs = map ty_of l.inputs.items ++ z }) p.tree p.types ∥₁) (sym same) h

pub sound_as_kept : (l : Lowered) (scratch : List Ty) (p : held.Part) (names : List Name) (inputs : List PlainTy) → names ≡ l.names → inputs ≡ map ty_of l.inputs.items ++ map ty_of scratch
    → ∥ IsSoundTerm (record { names = l.names; inputs = map ty_of l.inputs.items ++ map ty_of scratch }) (part_of p).tree (part_of p).types ∥₁
    → ∥ IsSoundTerm (record { names = names; inputs = inputs }) (tree_of p.term) (annotation_of p.types) ∥₁
sound_as_kept l scratch p names inputs own_names own_inputs h =
    let as_declared : record { names = l.names; inputs = map ty_of l.inputs.items ++ map ty_of scratch } ≡ record { names = names; inputs = inputs } = λ i. record { names = sym own_names i; inputs = sym own_inputs i } in
    subst (λ (d : Declared). ∥ IsSoundTerm d (tree_of p.term) (annotation_of p.types) ∥₁) as_declared h

-- ---- kernels
pub no_kernels : (l : Lowered) → AreKernels l [] []
no_kernels l = record { terms = refl; names = λ k x e. absurd (cc); inputs = λ k x e. absurd (cc) }

pub one_kernel_more : (l : Lowered) (ps : List Part) (ks : List Lowered) (p : Part) (x : Lowered) → AreKernels l ps ks → term_part x ≡ p → x.names ≡ l.names → map ty_of x.inputs.items ≡ inputs_behind l ps → AreKernels l (ps ++ p ∷ []) (ks ++ x ∷ [])
one_kernel_more l ps ks p x h term names inputs =
    let same : length ks ≡ length ps = sym (length-map ks term_part) ∙ ap length h.terms in
    record {
      terms = map-append term_part ks (x ∷ []) ∙ ap (λ z. z ++ term_part x ∷ []) h.terms ∙ ap (λ z. ps ++ z ∷ []) term;
      names = λ k y e.
          elim (last_or_before ks x y k e) as (λ _. y.names ≡ l.names) [
            | inl g ↦ h.names k y g
            | inr g ↦ subst (λ (z : Lowered). z.names ≡ l.names) g.1 names
          ];
      inputs = λ k y e.
          elim (last_or_before ks x y k e) as (λ _. map ty_of y.inputs.items ≡ inputs_behind l (take k (ps ++ p ∷ []))) [
            | inl g ↦ h.inputs k y g ∙ ap (inputs_behind l) (sym (take-append-le k ps (p ∷ []) (let w = slice_get_within ks k y g in omega (arith, w, same))))
            | inr g ↦ ap (λ (z : Lowered). map ty_of z.inputs.items) (sym g.1) ∙ inputs
                ∙ ap (inputs_behind l) (sym (take-append_seam ps (p ∷ [])) ∙ ap (λ i. take i (ps ++ p ∷ [])) (sym same ∙ sym g.0))
          ];
    }

-- ---- turns
-- kernels of the parts that were taken, and the types of the arrays that they make
pub record MadeSoFar (l : Lowered) (yielded : List held.Part) (ks : List Lowered) (scratch : List Ty) : Type 0 where
  pub made : AreKernels l (map part_of yielded) ks
  pub arrays : map ty_of scratch ≡ scratch_of (map part_of yielded)

pub none_made : (l : Lowered) (ks : List Lowered) (scratch : List Ty) → ks ≡ [] → scratch ≡ [] → MadeSoFar l [] ks scratch
none_made l ks scratch kernels arrays = record { made = subst (AreKernels l []) (sym kernels) (no_kernels l); arrays = ap (map ty_of) arrays }

pub sound_in_turn : (l : Lowered) (parts yielded : List held.Part) (x : held.Part) (ks : List Lowered) (scratch given : List Ty) → Turned parts yielded x → MadeSoFar l yielded ks scratch → given ≡ scratch
    → AreSoundParts l (map part_of parts)
    → ∥ IsSoundTerm (record { names = l.names; inputs = map ty_of l.inputs.items ++ map ty_of given }) (part_of x).tree (part_of x).types ∥₁
sound_in_turn l parts yielded x ks scratch given t so_far is h =
    let are : map part_of parts ≡ map part_of yielded ++ part_of x ∷ map part_of t.rest = ap (map part_of) t.are ∙ map-append part_of yielded (x ∷ t.rest) in
    sound_over l (map part_of yielded) given (part_of x) (ap (map ty_of) is ∙ so_far.arrays)
    (sound_behind l (map part_of parts) (map part_of yielded) (map part_of t.rest) (part_of x) are h)

pub one_turn : (l : Lowered) (yielded : List held.Part) (p : held.Part) (ks all : List Lowered) (x : Lowered) (scratch more given : List Ty) (ty : Ty) → MadeSoFar l yielded ks scratch → all ≡ ks ++ x ∷ [] → more ≡ scratch ++ ty ∷ [] → given ≡ scratch
    → term_part x ≡ part_of p → x.names ≡ l.names → map ty_of x.inputs.items ≡ map ty_of l.inputs.items ++ map ty_of given → ty_of ty ≡ type_in (annotation_of p.types) → MadeSoFar l (yielded ++ p ∷ []) all more
one_turn l yielded p ks all x scratch more given ty so_far kernels arrays is term names inputs own =
    let parts = map-append part_of yielded (p ∷ []) in
    let behind : map ty_of x.inputs.items ≡ inputs_behind l (map part_of yielded) = inputs ∙ ap (λ z. map ty_of l.inputs.items ++ z) (ap (map ty_of) is ∙ so_far.arrays) in
    record {
      made = subst (λ z. AreKernels l z all) (sym parts) (subst (AreKernels l (map part_of yielded ++ part_of p ∷ [])) (sym kernels) (one_kernel_more l (map part_of yielded) ks (part_of p) x so_far.made term names behind));
      arrays = ap (map ty_of) arrays ∙ map-append ty_of scratch (ty ∷ []) ∙ ap (λ z. z ++ ty_of ty ∷ []) so_far.arrays ∙ ap (λ z. scratch_of (map part_of yielded) ++ z ∷ []) own
          ∙ sym (scratch_append (map part_of yielded) (part_of p ∷ [])) ∙ ap scratch_of (sym parts);
    }

pub all_made : (l : Lowered) (parts yielded : List held.Part) (ks : List Lowered) (scratch : List Ty) → map (λ (y : held.Part). y) yielded ≡ parts → MadeSoFar l yielded ks scratch → AreKernels l (map part_of parts) ks
all_made l parts yielded ks scratch end so_far =
    subst (λ z. AreKernels l z ks) (ap (map part_of) (sym (map-id yielded) ∙ end)) so_far.made
