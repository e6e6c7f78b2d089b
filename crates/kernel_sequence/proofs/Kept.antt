-- What is left of a term has the term's value, where each scratch array holds its kernel's.
use Rattle.std.proofs.Common.{◌≡◌, ℕ, suc, ◌+◌, List, [], ◌∷◌, ◌++◌, length, refl, sym, ap, ap₂, ◌∙◌, subst, arith}
use Rattle.lift_tree.specs.declared.term.UnaryForm.TheVariants.{Then}
use Rattle.lift_tree.specs.Tree.{Tree, Unary, Binary, Select, Let, Map, Fold}
use Rattle.lift_tree.specs.Annotations.{Annotation, One, Two, Three}
use Rattle.lift_tree.specs.Belonging.{Belongs}
use Rattle.lift_tree.specs.Values.{Value, nth}
use Rattle.lift_tree.specs.Meaning.{World, meaning, unary_value, binary_value}
use Rattle.lift_tree.proofs.Renumbered.{same_map, same_fold, same_let}
use Rattle.kernel_sequence.specs.Cut.{Part, cut_off}
use Rattle.kernel_sequence.specs.Values.{with_more, Hold}
use Rattle.kernel_sequence.specs.Laws.{CutsKeepTheValue}
use Rattle.kernel_sequence.proofs.Extends.{extends}
use Rattle.kernel_sequence.proofs.More.{more_inputs_keep_the_value, nth_behind, same_form}

hold_front : (w : World) (us : List Value) (k : ℕ) (ps qs : List Part) → Hold w us k (ps ++ qs) → Hold w us k ps
hold_front w us k [] qs h = tt
hold_front w us k (p ∷ ps) qs h = (h.0, hold_front w us (suc k) ps qs h.1)

hold_last : (w : World) (us : List Value) (k : ℕ) (ps : List Part) (p : Part) → Hold w us k (ps ++ p ∷ []) → nth us (k + length ps) ≡ meaning w [] p.tree
hold_last w us k [] p h = let e : k + 0 ≡ k = omega arith in ap (nth us) e ∙ h.0
hold_last w us k (q ∷ ps) p h =
    let e : k + length (q ∷ ps) ≡ suc k + length ps = omega arith in
    ap (nth us) e ∙ hold_last w us (suc k) ps p h.1

module _ (w : World) (us : List Value) (s i : ℕ) (inputs : length w.inputs ≡ i) where
  -- a scratch input has what its array holds
  scratch : (k : ℕ) → nth (w.inputs ++ us) (i + k) ≡ nth us k
  scratch k = ap (λ z. nth (w.inputs ++ us) (z + k)) (sym inputs) ∙ nth_behind w.inputs us k

  -- the kernels made before a part still hold
  earlier : (made : List Part) (t : Tree) (n : Annotation) → Hold (with_more w us) us 0 (cut_off i made t n).made → Hold (with_more w us) us 0 made
  earlier made t n h =
      let e = extends i made t n in
      hold_front (with_more w us) us 0 made e.more (subst (Hold (with_more w us) us 0) e.are h)

  kept : (made : List Part) (t : Tree) (n : Annotation) → Belongs s i 0 t → Hold (with_more w us) us 0 (cut_off i made t n).made
      → meaning (with_more w us) [] (cut_off i made t n).left.tree ≡ meaning w [] t
  kept made (Unary Then t) (One a n) b h =
      let c = cut_off i made t n in
      let first : length c.made ≡ 0 + length c.made = omega arith in
      scratch (length c.made) ∙ ap (nth us) first ∙ hold_last (with_more w us) us 0 c.made c.left h
      ∙ kept made t n b.1 (hold_front (with_more w us) us 0 c.made (c.left ∷ []) h)
  kept made (Unary f t) (One a n) b h =
      ap (unary_value (with_more w us) f) (kept made t n b.1 h) ∙ same_form w us f (meaning w [] t)
  kept made (Binary f t v) (Two a n m) b h =
      let c = cut_off i made t n in
      ap₂ (binary_value f) (kept made t n b.0 (earlier c.made v m h)) (kept c.made v m b.1 h)
  kept made (Select t v x) (Three a n m k) b h =
      let c = cut_off i made t n in
      let d = cut_off i c.made v m in
      let g = earlier d.made x k h in
      let p = kept made t n b.0 (earlier c.made v m g) in
      let q = kept c.made v m b.1 g in
      let r = kept d.made x k b.2 h in
      rw (p, q, r) refl
  kept made (Let v t) (Two a n m) b h =
      same_let (λ y. meaning (with_more w us) (y ∷ []) t) (λ y. meaning w (y ∷ []) t) _ _
      (λ y. more_inputs_keep_the_value w us (y ∷ []) s i 1 t inputs b.1)
      (kept made v n b.0 h)
  kept made (Map o xs t) (Two a n m) b h =
      same_map (λ y. meaning (with_more w us) (y ∷ []) t) (λ y. meaning w (y ∷ []) t) _ _
      (λ y. more_inputs_keep_the_value w us (y ∷ []) s i 1 t inputs b.1)
      (kept made xs n b.0 h)
  kept made (Fold o xs z t) (Three a n m k) b h =
      let c = cut_off i made xs n in
      same_fold (λ e y. meaning (with_more w us) (y ∷ e ∷ []) t) (λ e y. meaning w (y ∷ e ∷ []) t) _ _ _ _
      (λ e y. more_inputs_keep_the_value w us (y ∷ e ∷ []) s i 2 t inputs b.2)
      (kept c.made z m b.1 h)
      (kept made xs n b.0 (earlier c.made z m h))
  kept made t n b h = more_inputs_keep_the_value w us [] s i 0 t inputs b

pub cuts_keep_the_value : CutsKeepTheValue
cuts_keep_the_value w us s i t n e b h = kept w us s i e [] t n b h
