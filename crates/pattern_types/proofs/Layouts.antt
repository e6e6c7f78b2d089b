-- What each layout adds to the proofs of the table: its row is the typing relation's, answers where
-- the relation has it, and is refused by its rule, or by an array or a length that it makes.
use Rattle.std.proofs.Common.{◌≡◌, List, refl, sym, ap, ◌∙◌, subst, pos, Some, None, inl, inr}
use Rattle.std.specs.Prelude.{Ok, Option}
use Rattle.size_arith.specs.declared.names.Name.{Name}
use Rattle.size_arith.specs.declared.poly.Monomial.{Monomial}
use Rattle.size_arith.specs.Polynomial.{no_powers, number, of_monomial, times, quotient, AllLow, AllDivide}
use Rattle.lift_tree.specs.declared.length.Factor.{Factor}
use Rattle.lift_tree.specs.declared.layout.Layout as layout
use Rattle.lift_tree.specs.declared.layout.Layout.TheVariants.{Join, Transpose, Split, Reverse, Stride, AsVector, AsScalar}
use Rattle.lift_tree.specs.declared.term.UnaryForm.TheVariants.{Layout}
use Rattle.lift_tree.specs.Types.{PlainTy, U32, U32x4, ArrayOf, IsFormed}
use Rattle.lift_tree.specs.WorkedOut.{product_of}
use Rattle.lift_tree.specs.Typing.{constant, LayoutRow}
use Rattle.lift_tree.specs.Limits.{ArrayFits, UnaryFits}
use Rattle.pattern_types.specs.declared.refusal.Rule.TheVariants as rule
use Rattle.pattern_types.specs.declared.fault.Fault.TheVariants.{Breaks}
use Rattle.pattern_types.specs.Judged as judged
use Rattle.pattern_types.specs.Judged.{within, product_judged, formed, unary_row, layout_row, split_row, pieces_row, reverse_row, stride_row, strided_row, vectors_row, as_vector_row, as_scalar_row}
use Rattle.pattern_types.specs.Refusals.{IsDivided, UnaryFault}
use Rattle.pattern_types.specs.Tests.{exact_quotient}
use Rattle.pattern_types.proofs.Results.{and_ok, within_ok}
use Rattle.pattern_types.proofs.Judging.{Judges, itself, answers, judges_alone, judges_then, judges_three, judges_within, low_small}
use Rattle.pattern_types.proofs.Products.{product_right}
use Rattle.pattern_types.proofs.Fitted.{judges_product, judges_formed}
use Rattle.pattern_types.proofs.Typed.{divisor_is}
use Rattle.pattern_types.proofs.Table as table
use Rattle.pattern_types.proofs.Table.{IsGood, good_formed, formed_right, quotient_low, Right, same_ok}
use Rattle.pattern_types.proofs.Forms as forms
use Rattle.pattern_types.proofs.Forms.{At, same_array}
use Rattle.pattern_types.proofs.Faults.{Faults, none, one, faults_then, product_faults, unary_array, unary_length}

-- ---- the row is the typing relation's
split_right : (names : List Name) (fs : List Factor) (x a : PlainTy) (n m : List Monomial) → IsGood names (ArrayOf x n) → AllLow 4 m → m ≡ of_monomial (product_of names fs) → (q : Option (List Monomial)) → exact_quotient m n ≡ q → pieces_row names x m q ≡ Ok a → Right names (Layout (Split fs)) (ArrayOf x n) a
split_right names fs x a n m g l e None f h = absurd (cc)
split_right names fs x a n m g l e (Some q) f h =
    let k = product_of names fs in
    let d = table.exact_on k.coefficient k.powers n q (subst (λ z. exact_quotient z n ≡ Some q) e f) in
    let p = and_ok (formed names x m) (λ piece. formed names piece q) a h in
    let r = formed_right names x p.0 m g.2 l p.1 in
    let s = formed_right names p.0 a q r.1 (subst (AllLow 4) (sym d.1) (quotient_low k n d.0 g.1)) p.2 in
    let t : a ≡ ArrayOf (ArrayOf x (of_monomial k)) (quotient k n) = s.0 ∙ ap (λ z. ArrayOf z q) (r.0 ∙ ap (λ z. ArrayOf x z) e) ∙ ap (λ z. ArrayOf (ArrayOf x (of_monomial k)) z) d.1 in
    ((x, n, refl, d.0, t, good_formed names a s.1), s.1)

strided_right : (names : List Name) (fs : List Factor) (x a : PlainTy) (n m : List Monomial) → IsGood names (ArrayOf x n) → m ≡ of_monomial (product_of names fs) → (q : Option (List Monomial)) → exact_quotient m n ≡ q → strided_row x n q ≡ Ok a → Right names (Layout (Stride fs)) (ArrayOf x n) a
strided_right names fs x a n m g e None f h = absurd (cc)
strided_right names fs x a n m g e (Some q) f h =
    let k = product_of names fs in
    let d = table.exact_on k.coefficient k.powers n q (subst (λ z. exact_quotient z n ≡ Some q) e f) in
    let i = same_ok (ArrayOf x n) a h in
    ((x, n, refl, d.0, sym i), subst (IsGood names) i g)

vectors_right : (names : List Name) (a : PlainTy) (n : List Monomial) → IsGood names (ArrayOf U32 n) → (q : Option (List Monomial)) → exact_quotient (constant 4) n ≡ q → vectors_row names q ≡ Ok a → Right names (Layout AsVector) (ArrayOf U32 n) a
vectors_right names a n g None e h = absurd (cc)
vectors_right names a n g (Some q) e h =
    let d = table.exact_on (pos 4) no_powers n q e in
    let s = formed_right names U32x4 a q tt (subst (AllLow 4) (sym d.1) (quotient_low (number (pos 4)) n d.0 g.1)) h in
    ((n, refl, d.0, s.0 ∙ ap (λ z. ArrayOf U32x4 z) d.1, good_formed names a s.1), s.1)

pub layout_right : (names : List Name) (l : layout.Layout) (b a : PlainTy) → IsGood names b → layout_row names l b ≡ Ok a → Right names (Layout l) b a
layout_right names Join (ArrayOf (ArrayOf x m) n) a g h =
    let p = and_ok (within (times n m)) (λ l. formed names x l) a h in
    let w = within_ok (times n m) p.0 p.1 in
    let f = formed_right names x a p.0 g.2.2 w.1 p.2 in
    ((x, m, n, refl, f.0 ∙ ap (λ y. ArrayOf x y) (sym w.0), good_formed names a f.1), f.1)
layout_right names Join _ a g h = absurd (cc)
layout_right names Transpose (ArrayOf (ArrayOf x m) n) a g h =
    let p = and_ok (formed names x n) (λ row. formed names row m) a h in
    let r = formed_right names x p.0 n g.2.2 g.1 p.1 in
    let s = formed_right names p.0 a m r.1 g.2.1 p.2 in
    ((x, m, n, refl, s.0 ∙ ap (λ y. ArrayOf y m) r.0, good_formed names a s.1), s.1)
layout_right names Transpose _ a g h = absurd (cc)
layout_right names (Split fs) b a g h =
    let p = and_ok (product_judged names (constant 1) fs) (λ m. split_row names m b) a h in
    let w = product_right names fs p.0 p.1 in
    go b p.0 g w.1 w.0 p.2
  where
    go : (b : PlainTy) (m : List Monomial) → IsGood names b → AllLow 4 m → m ≡ of_monomial (product_of names fs) → split_row names m b ≡ Ok a → Right names (Layout (Split fs)) b a
    go (ArrayOf x n) m g l e h = split_right names fs x a n m g l e (exact_quotient m n) refl h
    go _ m g l e h = absurd (cc)
layout_right names Reverse (ArrayOf x n) a g h = let e = same_ok (ArrayOf x n) a h in ((x, n, refl, sym e), subst (IsGood names) e g)
layout_right names Reverse _ a g h = absurd (cc)
layout_right names (Stride fs) b a g h =
    let p = and_ok (product_judged names (constant 1) fs) (λ m. stride_row m b) a h in
    let w = product_right names fs p.0 p.1 in
    go b p.0 g w.0 p.2
  where
    go : (b : PlainTy) (m : List Monomial) → IsGood names b → m ≡ of_monomial (product_of names fs) → stride_row m b ≡ Ok a → Right names (Layout (Stride fs)) b a
    go (ArrayOf x n) m g e h = strided_right names fs x a n m g e (exact_quotient m n) refl h
    go _ m g e h = absurd (cc)
layout_right names AsVector (ArrayOf U32 n) a g h = vectors_right names a n g (exact_quotient (constant 4) n) refl h
layout_right names AsVector _ a g h = absurd (cc)
layout_right names AsScalar (ArrayOf U32x4 n) a g h =
    let p = and_ok (within (times n (constant 4))) (λ l. formed names U32 l) a h in
    let w = within_ok (times n (constant 4)) p.0 p.1 in
    let f = formed_right names U32 a p.0 tt w.1 p.2 in
    ((n, refl, f.0 ∙ ap (λ y. ArrayOf U32 y) (sym w.0), good_formed names a f.1), f.1)
layout_right names AsScalar _ a g h = absurd (cc)

-- ---- the row answers, unless a limit is passed
judges_split : (names : List Name) (fs : List Factor) (x : PlainTy) (n : List Monomial) → IsGood names (ArrayOf x n) → AllDivide (product_of names fs) n
    → IsFormed names (ArrayOf (ArrayOf x (of_monomial (product_of names fs))) (quotient (product_of names fs) n))
    → Judges itself (UnaryFits names (Layout (Split fs)) (ArrayOf x n)) (ArrayOf (ArrayOf x (of_monomial (product_of names fs))) (quotient (product_of names fs) n)) (unary_row names (Layout (Split fs)) (ArrayOf x n))
judges_split names fs x n g d o =
    let k = product_of names fs in
    let m = of_monomial k in
    let q = quotient k n in
    judges_three
    (judges_then _ (judges_product names fs) (λ e w.
    subst (λ z. Judges itself (ArrayFits names x m × ArrayFits names (ArrayOf x m) q) (ArrayOf (ArrayOf x m) q) (pieces_row names x m z)) (sym (forms.exact_on k.coefficient k.powers n (divisor_is names k n g.0 d) d))
    (judges_then _ (judges_formed names x m (product_right names fs m e).1 o.1.0) (λ f v. judges_formed names (ArrayOf x m) q (quotient_low k n d g.1) o.0))))

judges_stride : (names : List Name) (fs : List Factor) (x a : PlainTy) (n : List Monomial) → IsGood names (ArrayOf x n) → AllDivide (product_of names fs) n → ArrayOf x n ≡ a
    → Judges itself (UnaryFits names (Layout (Stride fs)) (ArrayOf x n)) a (unary_row names (Layout (Stride fs)) (ArrayOf x n))
judges_stride names fs x a n g d i =
    let k = product_of names fs in
    judges_alone
    (judges_then _ (judges_product names fs) (λ e w.
    subst (λ z. Judges itself (Unit {0}) a (strided_row x n z)) (sym (forms.exact_on k.coefficient k.powers n (divisor_is names k n g.0 d) d)) (answers i)))

pub judges_layout : (names : List Name) (l : layout.Layout) (b a : PlainTy) → LayoutRow names l b a → IsGood names b → At names (Layout l) b a
judges_layout names Join b a r g o =
    subst (λ z. Judges itself (UnaryFits names (Layout Join) z) a (unary_row names (Layout Join) z)) (sym r.3)
    (subst (λ z. At names (Layout Join) (ArrayOf (ArrayOf r.0 r.1) r.2) z) (sym r.4) (λ f.
    judges_then _ (judges_within (times r.2 r.1)) (λ e w. judges_formed names r.0 (times r.2 r.1) (low_small (times r.2 r.1) w) f.0)) o)
judges_layout names Transpose b a r g o =
    let h = subst (IsGood names) r.3 g in
    subst (λ z. Judges itself (UnaryFits names (Layout Transpose) z) a (unary_row names (Layout Transpose) z)) (sym r.3)
    (subst (λ z. At names (Layout Transpose) (ArrayOf (ArrayOf r.0 r.1) r.2) z) (sym r.4) (λ f.
    judges_then _ (judges_formed names r.0 r.2 h.1 f.1.0) (λ e w. judges_formed names (ArrayOf r.0 r.2) r.1 h.2.1 f.0)) o)
judges_layout names (Split fs) b a r g o =
    subst (λ z. Judges itself (UnaryFits names (Layout (Split fs)) z) a (unary_row names (Layout (Split fs)) z)) (sym r.2)
    (subst (λ z. At names (Layout (Split fs)) (ArrayOf r.0 r.1) z) (sym r.4) (judges_split names fs r.0 r.1 (subst (IsGood names) r.2 g) r.3) o)
judges_layout names Reverse b a r g o = subst (λ z. Judges itself (Unit {0}) a (reverse_row z)) (sym r.2) (answers (sym r.3))
judges_layout names (Stride fs) b a r g o =
    subst (λ z. Judges itself (UnaryFits names (Layout (Stride fs)) z) a (unary_row names (Layout (Stride fs)) z)) (sym r.2)
    (judges_stride names fs r.0 a r.1 (subst (IsGood names) r.2 g) r.3 (sym r.4))
judges_layout names AsVector b a r g o =
    let n = r.0 in
    let q = quotient (number (pos 4)) n in
    subst (λ z. Judges itself (UnaryFits names (Layout AsVector) z) a (unary_row names (Layout AsVector) z)) (sym r.1)
    (subst (λ z. At names (Layout AsVector) (ArrayOf U32 n) z) (sym r.3) (λ f.
    subst (λ z. Judges itself (ArrayFits names U32x4 q) (ArrayOf U32x4 q) (vectors_row names z)) (sym (forms.exact_on (pos 4) no_powers n refl r.2))
    (judges_formed names U32x4 q (quotient_low (number (pos 4)) n r.2 (subst (IsGood names) r.1 g).1) f.0)) o)
judges_layout names AsScalar b a r g o =
    let k = times r.0 (constant 4) in
    subst (λ z. Judges itself (UnaryFits names (Layout AsScalar) z) a (unary_row names (Layout AsScalar) z)) (sym r.1)
    (subst (λ z. At names (Layout AsScalar) (ArrayOf U32x4 r.0) z) (sym r.2) (λ f.
    judges_then _ (judges_within k) (λ e w. judges_formed names U32 k (low_small k w) f.0)) o)

-- ---- a fault of the row
join_faults : (names : List Name) (b : PlainTy) → Faults (UnaryFault names (Layout Join) b) (unary_row names (Layout Join) b)
join_faults names (ArrayOf (ArrayOf a m) n) =
    let k = times n m in
    faults_then _ (unary_length names (Layout Join) (ArrayOf (ArrayOf a m) n) k (λ P h. inl h)) (λ i u.
    let w = within_ok k i u in
    subst (λ y. Faults (UnaryFault names (Layout Join) (ArrayOf (ArrayOf a m) n)) (judged.formed names a y)) w.0
    (unary_array names (Layout Join) (ArrayOf (ArrayOf a m) n) a k (subst (AllLow 4) (sym w.0) w.1) (a, m, n, refl) (λ P h. inl h)))
join_faults names _ = one (Breaks rule.Join) (inl (refl, λ d. let e = d.3 in absurd (cc)))

transpose_faults : (names : List Name) (b : PlainTy) → IsGood names b → Faults (UnaryFault names (Layout Transpose) b) (unary_row names (Layout Transpose) b)
transpose_faults names (ArrayOf (ArrayOf a m) n) g =
    faults_then _ (unary_array names (Layout Transpose) (ArrayOf (ArrayOf a m) n) a n g.1 (a, m, n, refl) (λ P h. inl h)) (λ c e.
    subst (λ y. Faults (UnaryFault names (Layout Transpose) (ArrayOf (ArrayOf a m) n)) (judged.formed names y m)) (sym (formed_right names a c n g.2.2 g.1 e).0)
    (unary_array names (Layout Transpose) (ArrayOf (ArrayOf a m) n) (ArrayOf a n) m g.2.1 (a, m, n, refl) (λ P h. inr (inl h))))
transpose_faults names _ g = one (Breaks rule.Transpose) (inl (refl, λ d. let e = d.3 in absurd (cc)))

-- a length without a quotient isn't divided
not_divided : (names : List Name) (fs : List Factor) (x : PlainTy) (n : List Monomial) → IsGood names (ArrayOf x n) → exact_quotient (of_monomial (product_of names fs)) n ≡ None → ¬ IsDivided names fs (ArrayOf x n)
not_divided names fs x n g f d =
    let k = product_of names fs in
    let s = same_array x d.0 n d.1 d.2 in
    let a : AllDivide k n = subst (AllDivide k) (sym s.1) d.3 in
    let z = sym f ∙ forms.exact_on k.coefficient k.powers n (divisor_is names k n g.0 a) a in
    absurd (cc)

pieces_faults : (names : List Name) (fs : List Factor) (x : PlainTy) (n : List Monomial) → IsGood names (ArrayOf x n) → AllLow 4 (of_monomial (product_of names fs))
    → (q : Option (List Monomial)) → exact_quotient (of_monomial (product_of names fs)) n ≡ q
    → Faults (UnaryFault names (Layout (Split fs)) (ArrayOf x n)) (pieces_row names x (of_monomial (product_of names fs)) q)
pieces_faults names fs x n g low None f = one (Breaks rule.Split) (inl (refl, not_divided names fs x n g f))
pieces_faults names fs x n g low (Some q) f =
    let k = product_of names fs in
    let m = of_monomial k in
    let Q = UnaryFault names (Layout (Split fs)) (ArrayOf x n) in
    let d = table.exact_on k.coefficient k.powers n q f in
    faults_then _ (unary_array names (Layout (Split fs)) (ArrayOf x n) x m low (x, n, refl, d.0) (λ P h. inl h)) (λ c e.
    subst (λ z. Faults Q (judged.formed names z q)) (sym (formed_right names x c m g.2 low e).0)
    (subst (λ z. Faults Q (judged.formed names (ArrayOf x m) z)) (sym d.1)
    (unary_array names (Layout (Split fs)) (ArrayOf x n) (ArrayOf x m) (quotient k n) (quotient_low k n d.0 g.1) (x, n, refl, d.0) (λ P h. inr (inl h)))))

split_faults : (names : List Name) (fs : List Factor) (b : PlainTy) → IsGood names b → AllLow 4 (of_monomial (product_of names fs)) → Faults (UnaryFault names (Layout (Split fs)) b) (split_row names (of_monomial (product_of names fs)) b)
split_faults names fs (ArrayOf x n) g low = pieces_faults names fs x n g low (exact_quotient (of_monomial (product_of names fs)) n) refl
split_faults names fs _ g low = one (Breaks rule.Split) (inl (refl, λ d. let e = d.2 in absurd (cc)))

reverse_faults : (names : List Name) (b : PlainTy) → Faults (UnaryFault names (Layout Reverse) b) (reverse_row b)
reverse_faults names (ArrayOf a n) = none (ArrayOf a n)
reverse_faults names _ = one (Breaks rule.Reverse) (inl (refl, λ d. let e = d.2 in absurd (cc)))

strided_faults : (names : List Name) (fs : List Factor) (x : PlainTy) (n : List Monomial) → IsGood names (ArrayOf x n)
    → (q : Option (List Monomial)) → exact_quotient (of_monomial (product_of names fs)) n ≡ q
    → Faults (UnaryFault names (Layout (Stride fs)) (ArrayOf x n)) (strided_row x n q)
strided_faults names fs x n g None f = one (Breaks rule.Stride) (inl (refl, not_divided names fs x n g f))
strided_faults names fs x n g (Some q) f = none (ArrayOf x n)

stride_faults : (names : List Name) (fs : List Factor) (b : PlainTy) → IsGood names b → Faults (UnaryFault names (Layout (Stride fs)) b) (stride_row (of_monomial (product_of names fs)) b)
stride_faults names fs (ArrayOf x n) g = strided_faults names fs x n g (exact_quotient (of_monomial (product_of names fs)) n) refl
stride_faults names fs _ g = one (Breaks rule.Stride) (inl (refl, λ d. let e = d.2 in absurd (cc)))

vectors_faults : (names : List Name) (n : List Monomial) → IsGood names (ArrayOf U32 n) → (q : Option (List Monomial)) → exact_quotient (constant 4) n ≡ q
    → Faults (UnaryFault names (Layout AsVector) (ArrayOf U32 n)) (vectors_row names q)
vectors_faults names n g None f =
    one (Breaks rule.Split) (inl (
      refl,
      λ d.
          let s = same_array U32 U32 n d.0 d.1 in
          let a : AllDivide (number (pos 4)) n = subst (AllDivide (number (pos 4))) (sym s.1) d.2 in
          let z = sym f ∙ forms.exact_on (pos 4) no_powers n refl a in
          absurd (cc),
    ))
vectors_faults names n g (Some q) f =
    let d = table.exact_on (pos 4) no_powers n q f in
    subst (λ z. Faults (UnaryFault names (Layout AsVector) (ArrayOf U32 n)) (judged.formed names U32x4 z)) (sym d.1)
    (unary_array names (Layout AsVector) (ArrayOf U32 n) U32x4 (quotient (number (pos 4)) n) (quotient_low (number (pos 4)) n d.0 g.1) (n, refl, d.0) (λ P h. inl h))

as_vector_faults : (names : List Name) (b : PlainTy) → IsGood names b → Faults (UnaryFault names (Layout AsVector) b) (as_vector_row names b)
as_vector_faults names (ArrayOf U32 n) g = vectors_faults names n g (exact_quotient (constant 4) n) refl
as_vector_faults names _ g = one (Breaks rule.Split) (inl (refl, λ d. let e = d.1 in absurd (cc)))

as_scalar_faults : (names : List Name) (b : PlainTy) → Faults (UnaryFault names (Layout AsScalar) b) (as_scalar_row names b)
as_scalar_faults names (ArrayOf U32x4 n) =
    let k = times n (constant 4) in
    faults_then _ (unary_length names (Layout AsScalar) (ArrayOf U32x4 n) k (λ P h. inl h)) (λ i u.
    let w = within_ok k i u in
    subst (λ y. Faults (UnaryFault names (Layout AsScalar) (ArrayOf U32x4 n)) (judged.formed names U32 y)) w.0
    (unary_array names (Layout AsScalar) (ArrayOf U32x4 n) U32 k (subst (AllLow 4) (sym w.0) w.1) (n, refl) (λ P h. inl h)))
as_scalar_faults names _ = one (Breaks rule.Join) (inl (refl, λ d. let e = d.1 in absurd (cc)))

pub layout_faults : (names : List Name) (l : layout.Layout) (b : PlainTy) → IsGood names b → Faults (UnaryFault names (Layout l) b) (layout_row names l b)
layout_faults names Join b g = join_faults names b
layout_faults names Transpose b g = transpose_faults names b g
layout_faults names (Split fs) b g =
    faults_then _ (product_faults names (constant 1) fs (λ l c m h. (m, inr h))) (λ m e.
    let r = product_right names fs m e in
    subst (λ y. Faults (UnaryFault names (Layout (Split fs)) b) (split_row names y b)) (sym r.0) (split_faults names fs b g (subst (AllLow 4) r.0 r.1)))
layout_faults names Reverse b g = reverse_faults names b
layout_faults names (Stride fs) b g =
    faults_then _ (product_faults names (constant 1) fs (λ l c m h. (m, inr h))) (λ m e.
    let r = product_right names fs m e in
    subst (λ y. Faults (UnaryFault names (Layout (Stride fs)) b) (stride_row y b)) (sym r.0) (stride_faults names fs b g))
layout_faults names AsVector b g = as_vector_faults names b g
layout_faults names AsScalar b g = as_scalar_faults names b
