-- What the kernels' terms name.
use Rattle.std.proofs.Common.{◌≡◌, ℕ, zero, suc, ◌+◌, ◌<◌, ◌≤◌, List, [], ◌∷◌, ◌++◌, length, Some, subst, arith}
use Rattle.std.specs.Prelude.{slice_get}
use Rattle.lift_tree.specs.declared.term.UnaryForm.TheVariants.{Then}
use Rattle.lift_tree.specs.Tree.{Tree, Variable, Number, Input, Unary, Binary, Select, Let, Map, Fold}
use Rattle.lift_tree.specs.Annotations.{Annotation, One, Two, Three}
use Rattle.lift_tree.specs.Belonging.{Belongs}
use Rattle.kernel_sequence.specs.Cut.{Part, cut_off, kernel_parts}
use Rattle.kernel_sequence.specs.Laws.{KernelsNameEarlierArrays}
use Rattle.kernel_sequence.proofs.Extends.{extends, longer}

-- more inputs are no harm
pub widen : (s i j b : ℕ) (t : Tree) → i ≤ j → Belongs s i b t → Belongs s j b t
widen s i j b (Variable n) l h = h
widen s i j b (Number n) l h = h
widen s i j b (Input n) l h = omega (arith, l, h)
widen s i j b (Unary f t) l h = (h.0, widen s i j b t l h.1)
widen s i j b (Binary f t u) l h = (widen s i j b t l h.0, widen s i j b u l h.1)
widen s i j b (Select t u v) l h = (widen s i j b t l h.0, widen s i j b u l h.1, widen s i j b v l h.2)
widen s i j b (Let t u) l h = (widen s i j b t l h.0, widen s i j (suc b) u l h.1)
widen s i j b (Map k t u) l h = (widen s i j b t l h.0, widen s i j (suc b) u l h.1)
widen s i j b (Fold k t u v) l h = (widen s i j b t l h.0, widen s i j b u l h.1, widen s i j (suc (suc b)) v l h.2)

module _ (s i : ℕ) where
  -- from the k-th on each kernel's term names the scratch arrays before its own alone
  abbrev pub NameEarlier : ℕ → List Part → Type 0
  NameEarlier k [] = Unit {0}
  NameEarlier k (p ∷ ps) = Belongs s (i + k) 0 p.tree × NameEarlier (suc k) ps

  behind : (k : ℕ) (ps : List Part) (p : Part) → NameEarlier k ps → Belongs s (i + (k + length ps)) 0 p.tree → NameEarlier k (ps ++ p ∷ [])
  behind k [] p h b = let e : i + (k + 0) ≡ i + k = omega arith in (subst (λ z. Belongs s z 0 p.tree) e b, tt)
  behind k (q ∷ ps) p h b =
      let e : i + (k + length (q ∷ ps)) ≡ i + (suc k + length ps) = omega arith in
      (h.0, behind (suc k) ps p h.1 (subst (λ z. Belongs s z 0 p.tree) e b))

  pub at : (k j : ℕ) (ps : List Part) (p : Part) → NameEarlier k ps → slice_get ps j ≡ Some p → Belongs s (i + (k + j)) 0 p.tree
  at k j [] p h e = absurd (cc)
  at k zero (q ∷ ps) p h e =
      let same : i + k ≡ i + (k + 0) = omega arith in
      let own : q ≡ p = cc in
      subst (λ z. Belongs s z 0 p.tree) same (subst (λ (z : Part). Belongs s (i + k) 0 z.tree) own h.0)
  at k (suc j) (q ∷ ps) p h e =
      let same : i + (suc k + j) ≡ i + (k + suc j) = omega arith in
      subst (λ z. Belongs s z 0 p.tree) same (at (suc k) j ps p h.1 e)

  wider : (made : List Part) (t : Tree) (n : Annotation) (b : ℕ) (u : Tree) → Belongs s (i + length made) b u → Belongs s (i + length (cut_off i made t n).made) b u
  wider made t n b u h = widen s (i + length made) (i + length (cut_off i made t n).made) b u (omega (arith, longer made (cut_off i made t n).made (extends i made t n))) h

  body : (made : List Part) (b : ℕ) (u : Tree) → Belongs s i b u → Belongs s (i + length made) b u
  body made b u h = widen s i (i + length made) b u (omega arith) h

  next : (xs : List Part) (p : Part) → i + length xs < i + length (xs ++ p ∷ [])
  next [] p = omega arith
  next (x ∷ xs) p = let l = next xs p in omega (arith, l)

  named : (made : List Part) (t : Tree) (n : Annotation) → Belongs s i 0 t → NameEarlier 0 made
      → NameEarlier 0 (cut_off i made t n).made × Belongs s (i + length (cut_off i made t n).made) 0 (cut_off i made t n).left.tree
  named made (Unary Then t) (One a n) b h =
      let c = cut_off i made t n in
      let r = named made t n b.1 h in
      let e : i + length c.made ≡ i + (0 + length c.made) = omega arith in
      (behind 0 c.made c.left r.0 (subst (λ z. Belongs s z 0 c.left.tree) e r.1), next c.made c.left)
  named made (Unary f t) (One a n) b h = let r = named made t n b.1 h in (r.0, (b.0, r.1))
  named made (Binary f t u) (Two a n m) b h =
      let c = cut_off i made t n in
      let r = named made t n b.0 h in
      let q = named c.made u m b.1 r.0 in
      (q.0, (wider c.made u m 0 c.left.tree r.1, q.1))
  named made (Select t u v) (Three a n m k) b h =
      let c = cut_off i made t n in
      let d = cut_off i c.made u m in
      let r = named made t n b.0 h in
      let q = named c.made u m b.1 r.0 in
      let o = named d.made v k b.2 q.0 in
      (o.0, (wider d.made v k 0 c.left.tree (wider c.made u m 0 c.left.tree r.1), wider d.made v k 0 d.left.tree q.1, o.1))
  named made (Let v t) (Two a n m) b h =
      let r = named made v n b.0 h in
      (r.0, (r.1, body (cut_off i made v n).made 1 t b.1))
  named made (Map o xs t) (Two a n m) b h =
      let r = named made xs n b.0 h in
      (r.0, (r.1, body (cut_off i made xs n).made 1 t b.1))
  named made (Fold o xs z t) (Three a n m k) b h =
      let c = cut_off i made xs n in
      let r = named made xs n b.0 h in
      let q = named c.made z m b.1 r.0 in
      (q.0, (wider c.made z m 0 c.left.tree r.1, q.1, body (cut_off i c.made z m).made 2 t b.2))
  named made t n b h = (h, body made 0 t b)

  -- all kernels of a term, the last among them
  pub all_named : (t : Tree) (n : Annotation) → Belongs s i 0 t → NameEarlier 0 (kernel_parts i t n)
  all_named t n b =
      let c = cut_off i [] t n in
      let r = named [] t n b tt in
      let e : i + length c.made ≡ i + (0 + length c.made) = omega arith in
      behind 0 c.made c.left r.0 (subst (λ z. Belongs s z 0 c.left.tree) e r.1)

  pub made_named : (t : Tree) (n : Annotation) → Belongs s i 0 t → NameEarlier 0 (cut_off i [] t n).made
  made_named t n b = (named [] t n b tt).0

pub kernels_name_earlier_arrays : KernelsNameEarlierArrays
kernels_name_earlier_arrays s i k t n p b e =
    let same : i + (0 + k) ≡ i + k = omega arith in
    subst (λ z. Belongs s z 0 p.tree) same (at s i 0 k (kernel_parts i t n) p (all_named s i t n b) e)
