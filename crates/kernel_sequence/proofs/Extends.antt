-- A cut adds kernels behind those that there are.
use Rattle.std.proofs.Common.{◌≡◌, ℕ, ◌≤◌, List, [], ◌∷◌, ◌++◌, length, length-append, append_assoc, append-nil, sym, ap, ◌∙◌, subst, arith}
use Rattle.lift_tree.specs.declared.term.UnaryForm.TheVariants.{Then}
use Rattle.lift_tree.specs.Tree.{Tree, Unary, Binary, Select, Let, Map, Fold}
use Rattle.lift_tree.specs.Annotations.{Annotation, One, Two, Three}
use Rattle.kernel_sequence.specs.Cut.{Part, cut_off}

-- so many are behind others
pub record Behind (made all : List Part) : Type 0 where
  pub more : List Part
  pub are : all ≡ made ++ more

none : (xs : List Part) → Behind xs xs
none xs = record { more = []; are = sym (append-nil xs) }

one : (xs ys : List Part) (p : Part) → Behind xs ys → Behind xs (ys ++ p ∷ [])
one xs ys p h = record { more = h.more ++ p ∷ []; are = ap (λ z. z ++ p ∷ []) h.are ∙ append_assoc xs h.more (p ∷ []) }

pub further : (xs ys zs : List Part) → Behind xs ys → Behind ys zs → Behind xs zs
further xs ys zs h k = record { more = h.more ++ k.more; are = k.are ∙ ap (λ z. z ++ k.more) h.are ∙ append_assoc xs h.more k.more }

pub longer : (xs ys : List Part) → Behind xs ys → length xs ≤ length ys
longer xs ys h = subst (λ z. length xs ≤ length z) (sym h.are) (omega (arith, length-append xs h.more))

pub extends : (i : ℕ) (made : List Part) (t : Tree) (n : Annotation) → Behind made (cut_off i made t n).made
extends i made (Unary Then t) (One a n) = let c = cut_off i made t n in one made c.made c.left (extends i made t n)
extends i made (Unary f t) (One a n) = extends i made t n
extends i made (Binary f t u) (Two a n m) =
    let c = cut_off i made t n in
    further made c.made (cut_off i c.made u m).made (extends i made t n) (extends i c.made u m)
extends i made (Select t u v) (Three a n m k) =
    let c = cut_off i made t n in
    let d = cut_off i c.made u m in
    further made d.made (cut_off i d.made v k).made (further made c.made d.made (extends i made t n) (extends i c.made u m)) (extends i d.made v k)
extends i made (Let v b) (Two a n m) = extends i made v n
extends i made (Map h xs b) (Two a n m) = extends i made xs n
extends i made (Fold h xs s b) (Three a n m k) =
    let c = cut_off i made xs n in
    further made c.made (cut_off i c.made s m).made (extends i made xs n) (extends i c.made s m)
extends i made t n = none made
