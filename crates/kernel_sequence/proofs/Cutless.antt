-- Where no binder is around a `then`, none is left in the kernels' terms; and a
-- term without one is cut nowhere.
use Rattle.std.proofs.Common.{◌≡◌, ℕ, Bool, true, false, ◌||◌, List, [], Option, None, Some, refl, sym, ap, ◌∙◌, arith}
use Rattle.std.proofs.lemmas.Bool.{or_parts, or_from}
use Rattle.lift_tree.specs.declared.term.UnaryForm.TheVariants.{Then}
use Rattle.lift_tree.specs.Annotations.{Annotates, Annotation, Leaf, One, Two, Three}
use Rattle.lift_tree.specs.Lists.{Every}
use Rattle.lift_tree.specs.Tree.{Tree, Variable, Number, Input, Unary, Binary, Select, Let, Map, Fold}
use Rattle.lift_tree.specs.Typing.{Declared}
use Rattle.lift_tree.proofs.EveryAt.{every_more}
use Rattle.lowered_tree.specs.Forms.{has_then}
use Rattle.kernel_sequence.specs.Bound.{first_bound, first_of, from_child}
use Rattle.kernel_sequence.specs.Cut.{Cutting, Part, cut_off, cuts, kernel_parts, part}

-- ---- tests
child_none : (i : ℕ) (o : Option (List ℕ)) → from_child i o ≡ None → o ≡ None
child_none i (Some p) e = absurd (cc)
child_none i None e = refl

both_none : (o p : Option (List ℕ)) → first_of o p ≡ None → (o ≡ None) × (p ≡ None)
both_none (Some q) p e = absurd (cc)
both_none None p e = (refl, e)

-- no `then` in the first child, and what is known of those after it
first_none : (i : ℕ) (o p : Option (List ℕ)) → first_of (from_child i o) p ≡ None → (o ≡ None) × (p ≡ None)
first_none i o p e = let h = both_none (from_child i o) p e in (child_none i o h.0, h.1)

-- ---- under a binder
under_binder : (t : Tree) → first_bound true t ≡ None → has_then t ≡ false
under_binder (Variable v) e = refl
under_binder (Number n) e = refl
under_binder (Input i) e = refl
under_binder (Unary Then t) e = absurd (cc)
under_binder (Unary f t) e = under_binder t (child_none 0 (first_bound true t) e)
under_binder (Binary f t u) e =
    let h = first_none 0 (first_bound true t) (from_child 1 (first_bound true u)) e in
    or_from (has_then t) (has_then u) (under_binder t h.0) (under_binder u (child_none 1 (first_bound true u) h.1))
under_binder (Select t u v) e =
    let h = first_none 0 (first_bound true t) (first_of (from_child 1 (first_bound true u)) (from_child 2 (first_bound true v))) e in
    let k = first_none 1 (first_bound true u) (from_child 2 (first_bound true v)) h.1 in
    or_from (has_then t || has_then u) (has_then v) (or_from (has_then t) (has_then u) (under_binder t h.0) (under_binder u k.0))
    (under_binder v (child_none 2 (first_bound true v) k.1))
under_binder (Let v b) e =
    let h = first_none 0 (first_bound true v) (from_child 1 (first_bound true b)) e in
    or_from (has_then v) (has_then b) (under_binder v h.0) (under_binder b (child_none 1 (first_bound true b) h.1))
under_binder (Map o xs b) e =
    let h = first_none 0 (first_bound true xs) (from_child 1 (first_bound true b)) e in
    or_from (has_then xs) (has_then b) (under_binder xs h.0) (under_binder b (child_none 1 (first_bound true b) h.1))
under_binder (Fold o xs s b) e =
    let h = first_none 0 (first_bound true xs) (first_of (from_child 1 (first_bound true s)) (from_child 2 (first_bound true b))) e in
    let k = first_none 1 (first_bound true s) (from_child 2 (first_bound true b)) h.1 in
    or_from (has_then xs || has_then s) (has_then b) (or_from (has_then xs) (has_then s) (under_binder xs h.0) (under_binder s k.0))
    (under_binder b (child_none 2 (first_bound true b) k.1))

-- ---- parts
abbrev pub IsUncut : Part → Type 0
IsUncut p = has_then p.tree ≡ false

module _ (d : Declared) (i : ℕ) where
  walk : (made : List Part) (t : Tree) (n : Annotation) → Annotates d [] t n → first_bound false t ≡ None → Every IsUncut made
      → Every IsUncut (cut_off i made t n).made × IsUncut (cut_off i made t n).left
  walk made (Variable v) (Leaf a) y e h = (h, refl)
  walk made (Number c) (Leaf a) y e h = (h, refl)
  walk made (Input k) (Leaf a) y e h = (h, refl)
  walk made (Unary Then t) (One a n) y e h =
      let c = cut_off i made t n in
      let r = walk made t n y.0 (child_none 0 (first_bound false t) e) h in
      (every_more IsUncut c.made c.left r.0 r.1, refl)
  walk made (Unary f t) (One a n) y e h =
      let r = walk made t n y.0 (child_none 0 (first_bound false t) e) h in
      (r.0, r.1)
  walk made (Binary f t u) (Two a n m) y e h =
      let p = first_none 0 (first_bound false t) (from_child 1 (first_bound false u)) e in
      let c = cut_off i made t n in
      let q = cut_off i c.made u m in
      let r = walk made t n y.0 p.0 h in
      let s = walk c.made u m y.1 (child_none 1 (first_bound false u) p.1) r.0 in
      (s.0, or_from (has_then c.left.tree) (has_then q.left.tree) r.1 s.1)
  walk made (Select t u v) (Three a n m k) y e h =
      let p = first_none 0 (first_bound false t) (first_of (from_child 1 (first_bound false u)) (from_child 2 (first_bound false v))) e in
      let o = first_none 1 (first_bound false u) (from_child 2 (first_bound false v)) p.1 in
      let c = cut_off i made t n in
      let q = cut_off i c.made u m in
      let z = cut_off i q.made v k in
      let r = walk made t n y.0 p.0 h in
      let s = walk c.made u m y.1 o.0 r.0 in
      let x = walk q.made v k y.2 (child_none 2 (first_bound false v) o.1) s.0 in
      (x.0, or_from (has_then c.left.tree || has_then q.left.tree) (has_then z.left.tree) (or_from (has_then c.left.tree) (has_then q.left.tree) r.1 s.1) x.1)
  walk made (Let v b) (Two a n m) y e h =
      let p = first_none 0 (first_bound false v) (from_child 1 (first_bound true b)) e in
      let c = cut_off i made v n in
      let r = walk made v n y.0 p.0 h in
      (r.0, or_from (has_then c.left.tree) (has_then b) r.1 (under_binder b (child_none 1 (first_bound true b) p.1)))
  walk made (Map o xs b) (Two a n m) y e h =
      let p = first_none 0 (first_bound false xs) (from_child 1 (first_bound true b)) e in
      let c = cut_off i made xs n in
      let r = walk made xs n y.2 p.0 h in
      (r.0, or_from (has_then c.left.tree) (has_then b) r.1 (under_binder b (child_none 1 (first_bound true b) p.1)))
  walk made (Fold o xs s b) (Three a n m k) y e h =
      let p = first_none 0 (first_bound false xs) (first_of (from_child 1 (first_bound false s)) (from_child 2 (first_bound true b))) e in
      let z = first_none 1 (first_bound false s) (from_child 2 (first_bound true b)) p.1 in
      let c = cut_off i made xs n in
      let q = cut_off i c.made s m in
      let r = walk made xs n y.2 p.0 h in
      let x = walk c.made s m y.4 z.0 r.0 in
      (x.0, or_from (has_then c.left.tree || has_then q.left.tree) (has_then b) (or_from (has_then c.left.tree) (has_then q.left.tree) r.1 x.1) (under_binder b (child_none 2 (first_bound true b) z.1)))
  walk made _ _ y e h = absurd y

  pub parts_are_uncut : (t : Tree) (n : Annotation) → Annotates d [] t n → first_bound false t ≡ None → Every IsUncut (kernel_parts i t n)
  parts_are_uncut t n y e =
      let c = cut_off i [] t n in
      let r = walk [] t n y e tt in
      every_more IsUncut c.made c.left r.0 r.1

-- ---- no cuts
pub no_cuts : (t : Tree) (n : Annotation) → has_then t ≡ false → cuts t n ≡ 0
no_cuts (Unary Then t) (One a n) e = absurd (cc)
no_cuts (Unary f t) (One a n) e = no_cuts t n e
no_cuts (Binary f t u) (Two a n m) e =
    let h = or_parts (has_then t) (has_then u) e in
    let r = no_cuts t n h.0 in
    let q = no_cuts u m h.1 in
    omega (arith, r, q)
no_cuts (Select t u v) (Three a n m k) e =
    let h = or_parts (has_then t || has_then u) (has_then v) e in
    let g = or_parts (has_then t) (has_then u) h.0 in
    let r = no_cuts t n g.0 in
    let q = no_cuts u m g.1 in
    let o = no_cuts v k h.1 in
    omega (arith, r, q, o)
no_cuts (Let v b) (Two a n m) e = let h = or_parts (has_then v) (has_then b) e in no_cuts v n h.0
no_cuts (Map o xs b) (Two a n m) e = let h = or_parts (has_then xs) (has_then b) e in no_cuts xs n h.0
no_cuts (Fold o xs s b) (Three a n m k) e =
    let h = or_parts (has_then xs || has_then s) (has_then b) e in
    let g = or_parts (has_then xs) (has_then s) h.0 in
    let r = no_cuts xs n g.0 in
    let q = no_cuts s m g.1 in
    omega (arith, r, q)
no_cuts t n e = refl

abbrev cutting : List Part → Tree → Annotation → Cutting
cutting made t n = record { made = made; left = part t n }

left_whole : (i : ℕ) (made : List Part) (t : Tree) (n : Annotation) → cuts t n ≡ 0 → cut_off i made t n ≡ cutting made t n
left_whole i made (Unary Then t) (One a n) e = absurd (omega (arith, e))
left_whole i made (Unary f t) (One a n) e = ap (λ (c : Cutting). cutting c.made (Unary f c.left.tree) (One a c.left.types)) (left_whole i made t n e)
left_whole i made (Binary f t u) (Two a n m) e =
    let r = left_whole i made t n (omega (arith, e)) in
    let q = left_whole i made u m (omega (arith, e)) in
    ap (λ (c : Cutting). let d = cut_off i c.made u m in cutting d.made (Binary f c.left.tree d.left.tree) (Two a c.left.types d.left.types)) r
    ∙ ap (λ (d : Cutting). cutting d.made (Binary f t d.left.tree) (Two a n d.left.types)) q
left_whole i made (Select t u v) (Three a n m k) e =
    let r = left_whole i made t n (omega (arith, e)) in
    let q = left_whole i made u m (omega (arith, e)) in
    let o = left_whole i made v k (omega (arith, e)) in
    ap (λ (c : Cutting). let d = cut_off i c.made u m in let z = cut_off i d.made v k in cutting z.made (Select c.left.tree d.left.tree z.left.tree) (Three a c.left.types d.left.types z.left.types)) r
    ∙ ap (λ (d : Cutting). let z = cut_off i d.made v k in cutting z.made (Select t d.left.tree z.left.tree) (Three a n d.left.types z.left.types)) q
    ∙ ap (λ (z : Cutting). cutting z.made (Select t u z.left.tree) (Three a n m z.left.types)) o
left_whole i made (Let v b) (Two a n m) e = ap (λ (c : Cutting). cutting c.made (Let c.left.tree b) (Two a c.left.types m)) (left_whole i made v n e)
left_whole i made (Map h xs b) (Two a n m) e = ap (λ (c : Cutting). cutting c.made (Map h c.left.tree b) (Two a c.left.types m)) (left_whole i made xs n e)
left_whole i made (Fold h xs s b) (Three a n m k) e =
    let r = left_whole i made xs n (omega (arith, e)) in
    let q = left_whole i made s m (omega (arith, e)) in
    ap (λ (c : Cutting). let d = cut_off i c.made s m in cutting d.made (Fold h c.left.tree d.left.tree b) (Three a c.left.types d.left.types k)) r
    ∙ ap (λ (d : Cutting). cutting d.made (Fold h xs d.left.tree b) (Three a n d.left.types k)) q
left_whole i made t n e = refl

-- a part that is a term without cuts
pub uncut_part : (i : ℕ) (made : List Part) (t : Tree) (n : Annotation) (p : Part) → cuts t n ≡ 0 → p ≡ part t n → cutting made p.tree p.types ≡ cut_off i made t n
uncut_part i made t n p none is = ap (λ (q : Part). cutting made q.tree q.types) is ∙ sym (left_whole i made t n none)
