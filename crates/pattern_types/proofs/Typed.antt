-- What a term that has a type names, and the types of its nodes.
use Rattle.std.proofs.Common.{◌≡◌, ℕ, zero, suc, ◌≤◌, ◌<◌, List, [], ◌∷◌, length, refl, sym, ap, ◌∙◌, subst, arith, false, ℤ, pos, negsuc, Some, ◌*ℤ◌}
use Rattle.std.specs.Prelude.{slice_get}
use Rattle.std.proofs.lemmas.Int.{ints}
use Rattle.size_arith.specs.declared.names.Name.{Name}
use Rattle.size_arith.specs.declared.poly.Monomial.{Monomial}
use Rattle.size_arith.specs.Polynomial.{no_powers, is_zero, AllDivide}
use Rattle.size_arith.specs.Ranges.{leasts}
use Rattle.size_arith.specs.Shown.{part, ShownAtLeast}
use Rattle.lift_tree.specs.declared.length.Factor.{Factor}
use Rattle.lift_tree.specs.declared.length.Factor.TheVariants as factor
use Rattle.lift_tree.specs.declared.layout.Layout as layout
use Rattle.lift_tree.specs.declared.layout.Layout.TheVariants.{Split, Stride}
use Rattle.lift_tree.specs.declared.term.UnaryForm.{UnaryForm}
use Rattle.lift_tree.specs.declared.term.UnaryForm.TheVariants.{Div, Rem, Layout, Slide}
use Rattle.lift_tree.specs.Tree.{Tree, Variable, Number, Input, Unary, Binary, Select, Let, Map, Fold}
use Rattle.lift_tree.specs.Types.{PlainTy, U32, ArrayOf, IsElement, IsFormed}
use Rattle.lift_tree.specs.Typing.{Declared, constant, LayoutRow, UnaryRow, BinaryRow, Types}
use Rattle.lift_tree.specs.WorkedOut.{nth_name, product_of}
use Rattle.lift_tree.specs.Lists.{Every}
use Rattle.lift_tree.specs.Annotations.{Annotation, Leaf, One, Two, Three, type_in, Annotates}
use Rattle.lift_tree.proofs.Formed.{formed}
use Rattle.lift_tree.specs.Belonging.{AreNamed, LayoutIsNamed, FormIsNamed, Belongs}
use Rattle.pattern_types.specs.Numbers.{NumbersFit}

-- ---- no length is 0
zeros : List ℕ → List ℕ
zeros [] = []
zeros (l ∷ ls) = 0 ∷ zeros ls

length-zeros : (ls : List ℕ) → length (zeros ls) ≡ length ls
unfolding zeros
length-zeros [] = refl
length-zeros (l ∷ ls) = ap suc (length-zeros ls)

abbrev AreZero : List ℕ → Type 0
AreZero [] = Unit {0}
AreZero (m ∷ ms) = (m ≡ 0) × AreZero ms

part_zeros : (ls ms : List ℕ) → AreZero ms → part ls ms (zeros ls) ≡ 1
unfolding zeros
part_zeros [] ms h = refl
part_zeros (l ∷ ls) [] h = let e = part_zeros ls [] tt in omega arith
part_zeros (l ∷ ls) (zero ∷ ms) h = let e = part_zeros ls ms h.1 in omega arith
part_zeros (l ∷ ls) (suc m ∷ ms) h = let e = h.0 in absurd (omega arith)

none_shown : (names : List Name) → ¬ ShownAtLeast 1 names []
none_shown names h =
    let z = h (zeros (leasts names)) (length-zeros (leasts names)) in
    let e = part_zeros (leasts names) no_powers (refl, (refl, (refl, (refl, (refl, (refl, (refl, (refl, tt)))))))) in
    omega (arith, ints)

pub divisor_is : (names : List Name) (k : Monomial) (n : List Monomial) → ShownAtLeast 1 names n → AllDivide k n → is_zero k.coefficient ≡ false
divisor_is names k [] h d = absurd (none_shown names h)
divisor_is names k (m ∷ n) h d = d.0.divisor

-- ---- numbers that are at least 1
factors_are : (a b : ℤ) → is_zero (a *ℤ b) ≡ false → (is_zero a ≡ false) × (is_zero b ≡ false)
factors_are (pos zero) b h = absurd (let e : pos 0 *ℤ b ≡ pos 0 = omega (arith, ints) in let f = ap is_zero e in cc)
factors_are (pos (suc n)) (pos zero) h = absurd (let e : pos (suc n) *ℤ pos 0 ≡ pos 0 = omega (arith, ints) in let f = ap is_zero e in cc)
factors_are (pos (suc n)) (pos (suc m)) h = (refl, refl)
factors_are (pos (suc n)) (negsuc m) h = (refl, refl)
factors_are (negsuc n) (pos zero) h = absurd (let e : negsuc n *ℤ pos 0 ≡ pos 0 = omega (arith, ints) in let f = ap is_zero e in cc)
factors_are (negsuc n) (pos (suc m)) h = (refl, refl)
factors_are (negsuc n) (negsuc m) h = (refl, refl)

number_is : (n : ℕ) → is_zero (pos n) ≡ false → 1 ≤ n
number_is zero h = absurd (cc)
number_is (suc n) h = omega arith

name_is : (i before : ℕ) (names : List Name) → is_zero (nth_name i before names).coefficient ≡ false → i < length names
name_is i before [] h = absurd (cc)
name_is zero before (n ∷ names) h = omega arith
name_is (suc i) before (n ∷ names) h = let e = name_is i (suc before) names h in omega arith

product_is : (names : List Name) (fs : List Factor) → is_zero (product_of names fs).coefficient ≡ false → AreNamed (length names) 1 fs
product_is names [] h = tt
product_is names (factor.Number n ∷ fs) h = let p = factors_are (pos n) (product_of names fs).coefficient h in (number_is n p.0, product_is names fs p.1)
product_is names (factor.Size i ∷ fs) h = let p = factors_are (nth_name i 0 names).coefficient (product_of names fs).coefficient h in (name_is i 0 names p.0, product_is names fs p.1)

size_is : (names : List Name) (s : ℕ) → ShownAtLeast 1 names (constant s) → 1 ≤ s
size_is names zero h = absurd (none_shown names h)
size_is names (suc s) h = omega arith

layout_is : (names : List Name) (l : layout.Layout) (b a : PlainTy) → LayoutRow names l b a → IsFormed names b → LayoutIsNamed (length names) l
layout_is names (Split fs) b a r h = product_is names fs (divisor_is names (product_of names fs) r.1 (subst (IsFormed names) r.2 h).0 r.3)
layout_is names (Stride fs) b a r h = product_is names fs (divisor_is names (product_of names fs) r.1 (subst (IsFormed names) r.2 h).0 r.3)
layout_is names _ b a r h = tt

form_is : (names : List Name) (f : UnaryForm) (b a : PlainTy) → UnaryRow names f b a → IsFormed names b → IsFormed names a → FormIsNamed (length names) f
form_is names (Div n) b a r h o = let e = r.0 in omega arith
form_is names (Rem n) b a r h o = let e = r.0 in omega arith
form_is names (Layout l) b a r h o = layout_is names l b a r h
form_is names (Slide s t) b a r h o = let e = r.3 in (size_is names s (subst (IsFormed names) r.6 o).1.0, omega arith)
form_is names _ b a r h o = tt

-- ---- terms
below : {A : Type 0} (xs : List A) (n : ℕ) (x : A) → slice_get xs n ≡ Some x → n < length xs
below [] n x h = absurd (cc)
below (y ∷ xs) zero x h = omega arith
below (y ∷ xs) (suc n) x h = let e = below xs n x h in omega arith

abbrev Named : Declared → List PlainTy → Tree → Type 0
Named d g t = Belongs (length d.names) (length d.inputs) (length g) t × NumbersFit t

module _ (d : Declared) (inputs : Every (IsFormed d.names) d.inputs) where
  pub named : (g : List PlainTy) (t : Tree) (a : PlainTy) → Every (IsFormed d.names) g → Types d g t a → Named d g t
  named g (Variable n) a all h = (below g n a h, tt)
  named g (Number n) a all h = (tt, h.0)
  named g (Input n) a all h = (below d.inputs n a h, tt)
  named g (Unary f t) a all h =
      let x = named g t h.0 all h.1 in
      ((form_is d.names f h.0 a h.2 (formed d inputs g t h.0 all h.1) (formed d inputs g (Unary f t) a all h), x.0), x.1)
  named g (Binary f t u) a all h = let x = named g t h.0 all h.2 in let y = named g u h.1 all h.3 in ((x.0, y.0), (x.1, y.1))
  named g (Select t u v) a all h =
      let x = named g t U32 all h.0 in let y = named g u U32 all h.1 in let z = named g v U32 all h.2 in ((x.0, y.0, z.0), (x.1, y.1, z.1))
  named g (Let v b) a all h =
      let x = named g v h.0 all h.1 in let y = named (h.0 ∷ g) b a (formed d inputs g v h.0 all h.1, all) h.2 in ((x.0, y.0), (x.1, y.1))
  named g (Map k xs b) a all h =
      let x = named g xs (ArrayOf h.0 h.2) all h.3 in
      let y = named (h.0 ∷ g) b h.1 ((formed d inputs g xs (ArrayOf h.0 h.2) all h.3).1, all) h.4 in ((x.0, y.0), (x.1, y.1))
  named g (Fold k xs s b) a all h =
      let x = named g xs (ArrayOf h.0 h.2) all h.3 in
      let y = named g s h.1 all h.4 in
      let z = named (h.0 ∷ h.1 ∷ g) b h.1 ((formed d inputs g xs (ArrayOf h.0 h.2) all h.3).1, (formed d inputs g s h.1 all h.4, all)) h.6 in
      ((x.0, y.0, z.0), (x.1, y.1, z.1))

-- ---- the types of the nodes
abbrev pub HasNodes : Declared → List PlainTy → Tree → PlainTy → Type 0
HasNodes d g t a = (n : Annotation) × Annotates d g t n × (type_in n ≡ a)

pub nodes_of : (d : Declared) (g : List PlainTy) (t : Tree) (a : PlainTy) → Types d g t a → HasNodes d g t a
nodes_of d g (Variable n) a h = (Leaf a, h, refl)
nodes_of d g (Number n) a h = (Leaf a, h, refl)
nodes_of d g (Input n) a h = (Leaf a, h, refl)
nodes_of d g (Unary f t) a h =
    let x = nodes_of d g t h.0 h.1 in
    (One a x.0, (x.1, subst (λ z. UnaryRow d.names f z a) (sym x.2) h.2), refl)
nodes_of d g (Binary f t u) a h =
    let x = nodes_of d g t h.0 h.2 in
    let y = nodes_of d g u h.1 h.3 in
    (Two a x.0 y.0, (x.1, y.1, subst (λ z. BinaryRow f z (type_in y.0) a) (sym x.2) (subst (λ z. BinaryRow f h.0 z a) (sym y.2) h.4)), refl)
nodes_of d g (Select t u v) a h =
    let x = nodes_of d g t U32 h.0 in
    let y = nodes_of d g u U32 h.1 in
    let z = nodes_of d g v U32 h.2 in
    (Three a x.0 y.0 z.0, (x.1, y.1, z.1, x.2, y.2, z.2, h.3), refl)
nodes_of d g (Let v b) a h =
    let x = nodes_of d g v h.0 h.1 in
    let y = nodes_of d (h.0 ∷ g) b a h.2 in
    (Two a x.0 y.0, (x.1, subst (λ z. Annotates d (z ∷ g) b y.0) (sym x.2) y.1, sym y.2), refl)
nodes_of d g (Map k xs b) a h =
    let x = nodes_of d g xs (ArrayOf h.0 h.2) h.3 in
    let y = nodes_of d (h.0 ∷ g) b h.1 h.4 in
    (Two a x.0 y.0, (h.0, h.2, x.1, x.2, y.1, h.5 ∙ ap (λ z. ArrayOf z h.2) (sym y.2)), refl)
nodes_of d g (Fold k xs s b) a h =
    let x = nodes_of d g xs (ArrayOf h.0 h.2) h.3 in
    let y = nodes_of d g s h.1 h.4 in
    let z = nodes_of d (h.0 ∷ h.1 ∷ g) b h.1 h.6 in (
      Three a x.0 y.0 z.0,
      (h.0, h.2, x.1, x.2, y.1, subst IsElement (sym y.2) h.5, subst (λ w. Annotates d (h.0 ∷ w ∷ g) b z.0) (sym y.2) z.1, z.2 ∙ sym y.2, h.7 ∙ ap (λ w. ArrayOf w (constant 1)) (sym y.2)),
      refl,
    )
