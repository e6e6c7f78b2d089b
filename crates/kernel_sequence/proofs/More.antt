-- Inputs behind those that a term names are nothing to its value.
use Rattle.std.proofs.Common.{◌≡◌, ℕ, zero, suc, ◌+◌, ◌<◌, List, [], ◌∷◌, ◌++◌, length, refl, sym, ap, ◌∙◌, subst, arith}
use Rattle.lift_tree.specs.declared.term.UnaryForm.{UnaryForm}
use Rattle.lift_tree.specs.declared.term.UnaryForm.TheVariants.{Div, Rem, First, Second, Layout, Slide, Pad, ToLocal, ToPrivate, Then}
use Rattle.lift_tree.specs.Tree.{Variable, Number, Input, Unary, Binary, Select, Let, Map, Fold}
use Rattle.lift_tree.specs.Values.{Value, nth}
use Rattle.lift_tree.specs.Meaning.{World, meaning, unary_value}
use Rattle.lift_tree.proofs.Renumbered.{same_map, same_fold, same_let}
use Rattle.kernel_sequence.specs.Values.{with_more}
use Rattle.kernel_sequence.specs.Laws.{MoreInputsKeepTheValue}

-- what stands in front is found there
pub nth_front : (xs ys : List Value) (n : ℕ) → n < length xs → nth (xs ++ ys) n ≡ nth xs n
nth_front [] ys n h = absurd (omega (arith, h))
nth_front (x ∷ xs) ys zero h = refl
nth_front (x ∷ xs) ys (suc n) h = nth_front xs ys n (omega (arith, h))

-- and what stands behind, behind
pub nth_behind : (xs ys : List Value) (n : ℕ) → nth (xs ++ ys) (length xs + n) ≡ nth ys n
nth_behind [] ys n = let e : 0 + n ≡ n = omega arith in ap (nth ys) e
nth_behind (x ∷ xs) ys n =
    let e : length (x ∷ xs) + n ≡ suc (length xs + n) = omega arith in
    ap (nth (x ∷ xs ++ ys)) e ∙ nth_behind xs ys n

-- a form looks at no input
pub same_form : (w : World) (us : List Value) (f : UnaryForm) (v : Value) → unary_value (with_more w us) f v ≡ unary_value w f v
same_form w us (Div n) v = refl
same_form w us (Rem n) v = refl
same_form w us First v = refl
same_form w us Second v = refl
same_form w us (Layout l) v = refl
same_form w us (Slide m n) v = refl
same_form w us (Pad l r) v = refl
same_form w us ToLocal v = refl
same_form w us ToPrivate v = refl
same_form w us Then v = refl

pub more_inputs_keep_the_value : MoreInputsKeepTheValue
more_inputs_keep_the_value w us vs s i b (Variable n) e h = refl
more_inputs_keep_the_value w us vs s i b (Number n) e h = refl
more_inputs_keep_the_value w us vs s i b (Input n) e h = nth_front w.inputs us n (subst (λ k. n < k) (sym e) h)
more_inputs_keep_the_value w us vs s i b (Unary f t) e h =
    ap (unary_value (with_more w us) f) (more_inputs_keep_the_value w us vs s i b t e h.1) ∙ same_form w us f (meaning w vs t)
more_inputs_keep_the_value w us vs s i b (Binary f t u) e h =
    let p = more_inputs_keep_the_value w us vs s i b t e h.0 in
    let q = more_inputs_keep_the_value w us vs s i b u e h.1 in
    cc
more_inputs_keep_the_value w us vs s i b (Select t u v) e h =
    let p = more_inputs_keep_the_value w us vs s i b t e h.0 in
    let q = more_inputs_keep_the_value w us vs s i b u e h.1 in
    let r = more_inputs_keep_the_value w us vs s i b v e h.2 in
    cc
more_inputs_keep_the_value w us vs s i b (Let v t) e h =
    same_let _ _ _ _ (λ y. more_inputs_keep_the_value w us (y ∷ vs) s i (suc b) t e h.1) (more_inputs_keep_the_value w us vs s i b v e h.0)
more_inputs_keep_the_value w us vs s i b (Map k xs t) e h =
    same_map _ _ _ _ (λ y. more_inputs_keep_the_value w us (y ∷ vs) s i (suc b) t e h.1) (more_inputs_keep_the_value w us vs s i b xs e h.0)
more_inputs_keep_the_value w us vs s i b (Fold k xs z t) e h =
    same_fold _ _ _ _ _ _
    (λ a y. more_inputs_keep_the_value w us (y ∷ a ∷ vs) s i (suc (suc b)) t e h.2)
    (more_inputs_keep_the_value w us vs s i b z e h.1)
    (more_inputs_keep_the_value w us vs s i b xs e h.0)
