-- The kernels' terms are typed over what they may name, and their nodes pass
-- no limit that the whole's don't.
use Rattle.std.proofs.Common.{◌≡◌, ℕ, zero, suc, ◌+◌, ◌≤◌, List, [], ◌∷◌, ◌++◌, append-nil, append_assoc, length, length-append, Some, refl, sym, ap, ◌∙◌, subst, arith}
use Rattle.std.specs.Prelude.{slice_get}
use Rattle.lift_tree.specs.declared.term.UnaryForm.TheVariants.{Then}
use Rattle.lift_tree.specs.Tree.{Tree, Variable, Number, Input, Unary, Binary, Select, Let, Map, Fold, height}
use Rattle.lift_tree.specs.Types.{PlainTy, ArrayOf, IsElement, IsOutput}
use Rattle.lift_tree.specs.Typing.{BinaryRow, Declared, UnaryRow, constant}
use Rattle.lift_tree.specs.Limits.{NodesFit, UnaryFits}
use Rattle.lift_tree.specs.Annotations.{Annotates, Annotation, Leaf, One, Two, Three, type_in}
use Rattle.lowered_tree.specs.Copies.{CopiesArrays}
use Rattle.lowered_tree.specs.Words.{FormsHaveWords}
use Rattle.kernel_sequence.specs.Cut.{Cutting, Part, cut_off}
use Rattle.kernel_sequence.specs.Sequence.{scratch_of}
use Rattle.kernel_sequence.proofs.Extends.{Behind, extends}

-- ---- more inputs behind the others
abbrev pub with_arrays : Declared → List PlainTy → Declared
with_arrays d us = record d { inputs = d.inputs ++ us }

at_front : (xs us : List PlainTy) (k : ℕ) (a : PlainTy) → slice_get xs k ≡ Some a → slice_get (xs ++ us) k ≡ Some a
at_front [] us k a e = absurd (cc)
at_front (x ∷ xs) us zero a e = e
at_front (x ∷ xs) us (suc k) a e = at_front xs us k a e

at_end : (xs : List PlainTy) (a : PlainTy) → slice_get (xs ++ a ∷ []) (length xs) ≡ Some a
at_end [] a = refl
at_end (x ∷ xs) a = at_end xs a

module _ (d : Declared) (us : List PlainTy) where
  pub typed_more : (g : List PlainTy) (t : Tree) (n : Annotation) → Annotates d g t n → Annotates (with_arrays d us) g t n
  typed_more g (Variable v) (Leaf a) h = h
  typed_more g (Number c) (Leaf a) h = h
  typed_more g (Input k) (Leaf a) h = at_front d.inputs us k a h
  typed_more g (Unary f t) (One a n) h = (typed_more g t n h.0, h.1)
  typed_more g (Binary f t u) (Two a n m) h = (typed_more g t n h.0, typed_more g u m h.1, h.2)
  typed_more g (Select t u v) (Three a n m k) h = (typed_more g t n h.0, typed_more g u m h.1, typed_more g v k h.2, h.3, h.4, h.5, h.6)
  typed_more g (Let v b) (Two a n m) h = (typed_more g v n h.0, typed_more (type_in n ∷ g) b m h.1, h.2)
  typed_more g (Map o xs b) (Two a n m) h = (h.0, h.1, typed_more g xs n h.2, h.3, typed_more (h.0 ∷ g) b m h.4, h.5)
  typed_more g (Fold o xs s b) (Three a n m k) h =
      (h.0, h.1, typed_more g xs n h.2, h.3, typed_more g s m h.4, h.5, typed_more (h.0 ∷ type_in m ∷ g) b k h.6, h.7, h.8)
  typed_more g t n h = absurd h

-- ---- parts
-- of this type, no higher than this
pub record IsPart (d : Declared) (a : PlainTy) (high : ℕ) (t : Tree) (n : Annotation) : Type 0 where
  pub nodes : Annotates d [] t n
  pub own : type_in n ≡ a
  pub fits : NodesFit d.names t n
  pub copies : CopiesArrays t n
  pub words : FormsHaveWords t
  pub low : height t ≤ high

-- a kernel's term, over the arrays of the kernels of these parts before it
pub record IsKernelPart (d : Declared) (high : ℕ) (before : List Part) (p : Part) : Type 0 where
  pub part : IsPart (with_arrays d (scratch_of before)) (type_in p.types) high p.tree p.types
  pub output : IsOutput (type_in p.types)

abbrev pub ArePartsBehind : Declared → (high : ℕ) → (before parts : List Part) → Type 0
ArePartsBehind d high before [] = Unit {0}
ArePartsBehind d high before (p ∷ ps) = IsKernelPart d high before p × ArePartsBehind d high (before ++ p ∷ []) ps

pub scratch_append : (ps qs : List Part) → scratch_of (ps ++ qs) ≡ scratch_of ps ++ scratch_of qs
scratch_append [] qs = refl
scratch_append (p ∷ ps) qs = ap (λ z. type_in p.types ∷ z) (scratch_append ps qs)

pub scratch_length : (ps : List Part) → length (scratch_of ps) ≡ length ps
scratch_length [] = refl
scratch_length (p ∷ ps) = ap suc (scratch_length ps)

pub kernels_more : (d : Declared) (high : ℕ) (before ps : List Part) (p : Part) → ArePartsBehind d high before ps → IsKernelPart d high (before ++ ps) p → ArePartsBehind d high before (ps ++ p ∷ [])
kernels_more d high before [] p h k = (subst (λ z. IsKernelPart d high z p) (append-nil before) k, tt)
kernels_more d high before (q ∷ ps) p h k =
    (h.0, kernels_more d high (before ++ q ∷ []) ps p h.1 (subst (λ z. IsKernelPart d high z p) (sym (append_assoc before (q ∷ []) ps)) k))

module _ (d : Declared) where
  abbrev After : List Part → Declared
  After made = with_arrays d (scratch_of made)

  abbrev Cut : List Part → Tree → Annotation → Cutting
  Cut made t n = cut_off (length d.inputs) made t n

  -- what is typed over some arrays is typed over more
  typed_wider : (xs ys : List Part) (g : List PlainTy) (t : Tree) (n : Annotation) → Behind xs ys → Annotates (After xs) g t n → Annotates (After ys) g t n
  typed_wider xs ys g t n b h =
      let w : Annotates (with_arrays (After xs) (scratch_of b.more)) g t n = typed_more (After xs) (scratch_of b.more) g t n h in
      let same : (d.inputs ++ scratch_of xs) ++ scratch_of b.more ≡ d.inputs ++ scratch_of ys =
      append_assoc d.inputs (scratch_of xs) (scratch_of b.more) ∙ ap (λ z. d.inputs ++ z) (sym (scratch_append xs b.more) ∙ ap scratch_of (sym b.are)) in
      subst (λ z. Annotates (record d { inputs = z }) g t n) same w

  wider : (xs ys : List Part) (a : PlainTy) (high : ℕ) (t : Tree) (n : Annotation) → Behind xs ys → IsPart (After xs) a high t n → IsPart (After ys) a high t n
  wider xs ys a high t n b p = record { nodes = typed_wider xs ys [] t n b p.nodes; own = p.own; fits = p.fits; copies = p.copies; words = p.words; low = p.low }

  body : (made : List Part) (g : List PlainTy) (t : Tree) (n : Annotation) → Annotates d g t n → Annotates (After made) g t n
  body made g t n h = typed_more d (scratch_of made) g t n h

  -- the array that a kernel behind these makes
  made_array : (made : List Part) (p : Part) (a : PlainTy) → type_in p.types ≡ a → slice_get (After (made ++ p ∷ [])).inputs (length d.inputs + length made) ≡ Some a
  made_array made p a e =
      let inputs : (After (made ++ p ∷ [])).inputs ≡ (d.inputs ++ scratch_of made) ++ a ∷ [] =
      ap (λ z. d.inputs ++ z) (scratch_append made (p ∷ []) ∙ ap (λ z. scratch_of made ++ z ∷ []) e) ∙ sym (append_assoc d.inputs (scratch_of made) (a ∷ [])) in
      let place : length d.inputs + length made ≡ length (d.inputs ++ scratch_of made) =
      ap (λ z. length d.inputs + z) (sym (scratch_length made)) ∙ sym (length-append d.inputs (scratch_of made)) in
      subst (λ (z : List PlainTy). slice_get z (length d.inputs + length made) ≡ Some a) (sym inputs)
      (subst (λ k. slice_get ((d.inputs ++ scratch_of made) ++ a ∷ []) k ≡ Some a) (sym place) (at_end (d.inputs ++ scratch_of made) a))

  pub walk : (high : ℕ) (made : List Part) (t : Tree) (n : Annotation) → Annotates d [] t n → NodesFit d.names t n → CopiesArrays t n → FormsHaveWords t → height t ≤ high → ArePartsBehind d high [] made
      → ArePartsBehind d high [] (Cut made t n).made × IsPart (After (Cut made t n).made) (type_in n) (height t) (Cut made t n).left.tree (Cut made t n).left.types
  walk high made (Unary Then t) (One a n) y f c w l h =
      let low : height t ≤ high = omega (arith, l) in
      let r = walk high made t n y.0 f.0 c.1 w.1 low h in
      let u = Cut made t n in
      let own : type_in u.left.types ≡ a = r.1.own ∙ y.1 in
      let kernel : IsKernelPart d high u.made u.left = record {
        part = record { nodes = r.1.nodes; own = refl; fits = r.1.fits; copies = r.1.copies; words = r.1.words; low = (let e = r.1.low in omega (arith, e, low)) };
        output = subst IsOutput (sym own) c.0;
      } in
      (kernels_more d high [] u.made u.left r.0 kernel, record { nodes = made_array u.made u.left a own; own = refl; fits = tt; copies = tt; words = tt; low = omega arith })
  walk high made (Unary o t) (One a n) y f c w l h =
      let r = walk high made t n y.0 f.0 c.1 w.1 (omega (arith, l)) h in (
        r.0,
        record {
          nodes = (r.1.nodes, subst (λ z. UnaryRow d.names o z a) (sym r.1.own) y.1);
          own = refl;
          fits = (r.1.fits, subst (UnaryFits d.names o) (sym r.1.own) f.1);
          copies = (c.0, r.1.copies);
          words = (w.0, r.1.words);
          low = (let e = r.1.low in omega (arith, e));
        },
      )
  walk high made (Binary o t u) (Two a n m) y f c w l h =
      let p = Cut made t n in
      let r = walk high made t n y.0 f.0 c.0 w.0 (omega (arith, l)) h in
      let s = walk high p.made u m y.1 f.1 c.1 w.1 (omega (arith, l)) r.0 in
      let q = Cut p.made u m in
      let x = wider p.made q.made (type_in n) (height t) p.left.tree p.left.types (extends (length d.inputs) p.made u m) r.1 in (
        s.0,
        record {
          nodes = (x.nodes, s.1.nodes, subst (λ z. BinaryRow o (type_in p.left.types) z a) (sym s.1.own) (subst (λ z. BinaryRow o z (type_in m) a) (sym r.1.own) y.2));
          own = refl;
          fits = (x.fits, s.1.fits, f.2);
          copies = (x.copies, s.1.copies, c.2);
          words = (x.words, s.1.words);
          low = (let e = x.low in let g = s.1.low in omega (arith, e, g));
        },
      )
  walk high made (Select t u v) (Three a n m k) y f c w l h =
      let p = Cut made t n in
      let r = walk high made t n y.0 f.0 c.0 w.0 (omega (arith, l)) h in
      let q = Cut p.made u m in
      let s = walk high p.made u m y.1 f.1 c.1 w.1 (omega (arith, l)) r.0 in
      let z = Cut q.made v k in
      let o = walk high q.made v k y.2 f.2 c.2 w.2 (omega (arith, l)) s.0 in
      let x = wider q.made z.made (type_in n) (height t) p.left.tree p.left.types (extends (length d.inputs) q.made v k)
      (wider p.made q.made (type_in n) (height t) p.left.tree p.left.types (extends (length d.inputs) p.made u m) r.1) in
      let j = wider q.made z.made (type_in m) (height u) q.left.tree q.left.types (extends (length d.inputs) q.made v k) s.1 in (
        o.0,
        record {
          nodes = (x.nodes, j.nodes, o.1.nodes, x.own ∙ y.3, j.own ∙ y.4, o.1.own ∙ y.5, y.6);
          own = refl;
          fits = (x.fits, j.fits, o.1.fits);
          copies = (x.copies, j.copies, o.1.copies);
          words = (x.words, j.words, o.1.words);
          low = (let e = x.low in let g = j.low in let i = o.1.low in omega (arith, e, g, i));
        },
      )
  walk high made (Let v t) (Two a n m) y f c w l h =
      let p = Cut made v n in
      let r = walk high made v n y.0 f.0 c.0 w.0 (omega (arith, l)) h in (
        r.0,
        record {
          nodes = (r.1.nodes, subst (λ z. Annotates (After p.made) (z ∷ []) t m) (sym r.1.own) (body p.made (type_in n ∷ []) t m y.1), y.2);
          own = refl;
          fits = (r.1.fits, f.1);
          copies = (r.1.copies, c.1);
          words = (r.1.words, w.1);
          low = (let e = r.1.low in omega (arith, e));
        },
      )
  walk high made (Map o xs t) (Two a n m) y f c w l h =
      let p = Cut made xs n in
      let r = walk high made xs n y.2 f.0 c.0 w.0 (omega (arith, l)) h in (
        r.0,
        record {
          nodes = (y.0, y.1, r.1.nodes, r.1.own ∙ y.3, body p.made (y.0 ∷ []) t m y.4, y.5);
          own = refl;
          fits = (r.1.fits, f.1, f.2);
          copies = (r.1.copies, c.1);
          words = (r.1.words, w.1);
          low = (let e = r.1.low in omega (arith, e));
        },
      )
  walk high made (Fold o xs s t) (Three a n m k) y f c w l h =
      let p = Cut made xs n in
      let r = walk high made xs n y.2 f.0 c.0 w.0 (omega (arith, l)) h in
      let q = Cut p.made s m in
      let z = walk high p.made s m y.4 f.1 c.1 w.1 (omega (arith, l)) r.0 in
      let x = wider p.made q.made (type_in n) (height xs) p.left.tree p.left.types (extends (length d.inputs) p.made s m) r.1 in (
        z.0,
        record {
          nodes = (
            y.0,
            y.1,
            x.nodes,
            x.own ∙ y.3,
            z.1.nodes,
            subst IsElement (sym z.1.own) y.5,
            subst (λ b. Annotates (After q.made) (y.0 ∷ b ∷ []) t k) (sym z.1.own) (body q.made (y.0 ∷ type_in m ∷ []) t k y.6),
            y.7 ∙ sym z.1.own,
            y.8 ∙ ap (λ b. ArrayOf b (constant 1)) (sym z.1.own),
          );
          own = refl;
          fits = (x.fits, z.1.fits, f.2, f.3);
          copies = (x.copies, z.1.copies, c.2);
          words = (x.words, z.1.words, w.2);
          low = (let e = x.low in let g = z.1.low in omega (arith, e, g));
        },
      )
  walk high made t n y f c w l h = (h, record { nodes = body made [] t n y; own = refl; fits = f; copies = c; words = w; low = omega arith })
