-- Forms with one child: the row of each is the typing relation's, answers where the relation has
-- it, and is refused by its rule, or by an array or a length that it makes.
use Rattle.std.proofs.Common.{◌≡◌, ℕ, ◌<◌, ◌≤◌, List, refl, sym, ap, ◌∙◌, subst, arith, pos, Some, None, inl, inr}
use Rattle.std.specs.Prelude.{Ok, Option}
use Rattle.size_arith.specs.declared.names.Name.{Name}
use Rattle.size_arith.specs.declared.poly.Monomial.{Monomial}
use Rattle.size_arith.specs.Polynomial.{no_powers, number, plus, minus, quotient, AllLow, AllDivide}
use Rattle.size_arith.specs.Shown.{ShownAtLeast}
use Rattle.size_arith.specs.Decisions.{is_shown}
use Rattle.size_arith.proofs.Decisions.{decides_shown}
use Rattle.lift_tree.specs.declared.term.UnaryForm.{UnaryForm}
use Rattle.lift_tree.specs.declared.term.UnaryForm.TheVariants.{Div, Rem, First, Second, Layout, Slide, Pad}
use Rattle.lift_tree.specs.Belonging.{FormIsNamed}
use Rattle.lift_tree.specs.Types.{PlainTy, U32, U32x4, PairOf, ArrayOf, IsFormed}
use Rattle.lift_tree.specs.Typing.{constant, UnaryRow}
use Rattle.lift_tree.specs.Limits.{IsSmall, ArrayFits, UnaryFits}
use Rattle.pattern_types.specs.declared.refusal.Rule.TheVariants as rule
use Rattle.pattern_types.specs.declared.fault.Fault.TheVariants.{Breaks}
use Rattle.pattern_types.specs.Judged as judged
use Rattle.pattern_types.specs.Judged.{and_then, demand, within, formed, unary_row, windows_row}
use Rattle.pattern_types.specs.Refusals.{windows, UnaryFault}
use Rattle.pattern_types.specs.Tests.{exact_quotient}
use Rattle.pattern_types.proofs.Results.{and_ok, within_ok, demand_ok}
use Rattle.pattern_types.proofs.Judging.{Judges, itself, answers, judges_then, judges_three, judges_four, judges_demand, judges_within, low_small}
use Rattle.pattern_types.proofs.Fitted.{judges_formed}
use Rattle.pattern_types.proofs.Table as table
use Rattle.pattern_types.proofs.Table.{IsGood, good_formed, formed_right, constant_low, Right, same_ok, numeric_right}
use Rattle.pattern_types.proofs.Forms as forms
use Rattle.pattern_types.proofs.Forms.{At, above_zero, same_array}
use Rattle.pattern_types.proofs.Faults.{Faults, none, one, faults_then, demand_faults, numeric_faults, not_false, unary_array, unary_length}
use Rattle.pattern_types.proofs.Layouts.{layout_right, judges_layout, layout_faults}

-- ---- the row is the typing relation's
slide_right : (names : List Name) (s t : ℕ) (x a : PlainTy) (n left : List Monomial) → 1 ≤ t → IsGood names (ArrayOf x n) → (minus n (constant s) ≡ left) × AllLow 4 left → ShownAtLeast 0 names left → (q : Option (List Monomial)) → exact_quotient (constant t) left ≡ q → windows_row names x s q ≡ Ok a → Right names (Slide s t) (ArrayOf x n) a
slide_right names s t x a n left j g w z None f h = absurd (cc)
slide_right names s t x a n left j g w z (Some q) f h =
    let d = table.exact_on (pos t) _ left q f in
    let p = and_ok (formed names x (constant s)) _ a h in
    let r = formed_right names x p.0 (constant s) g.2 (constant_low s) p.1 in
    let u = and_ok (within (plus q (constant 1))) _ a p.2 in
    let v = within_ok (plus q (constant 1)) u.0 u.1 in
    let k = formed_right names p.0 a u.0 r.1 v.1 u.2 in
    let e : q ≡ quotient (number (pos t)) (minus n (constant s)) = d.1 ∙ ap (quotient (number (pos t))) (sym w.0) in
    let i : a ≡ ArrayOf (ArrayOf x (constant s)) (plus (quotient (number (pos t)) (minus n (constant s))) (constant 1)) = k.0 ∙ ap (λ y. ArrayOf y u.0) r.0 ∙ ap (λ y. ArrayOf (ArrayOf x (constant s)) y) (sym v.0 ∙ ap (λ y. plus y (constant 1)) e) in
    ((x, n, refl, j, subst (ShownAtLeast 0 names) (sym w.0) z, subst (AllDivide (number (pos t))) (sym w.0) d.0, i, good_formed names a k.1), k.1)

pub unary_right : (names : List Name) (size : ℕ) (f : UnaryForm) (b a : PlainTy) → FormIsNamed size f → IsGood names b → unary_row names f b ≡ Ok a → Right names f b a
unary_right names z (Div n) b a i g h = let r = numeric_right names b a h in ((i, r.0, r.1), r.2)
unary_right names z (Rem n) b a i g h = let r = numeric_right names b a h in ((i, r.0, r.1), r.2)
unary_right names z First (PairOf b c) a i g h = let e = same_ok b a h in ((c, ap (λ x. PairOf x c) e), subst (IsGood names) e g.0)
unary_right names z First _ a i g h = absurd (cc)
unary_right names z Second (PairOf b c) a i g h = let e = same_ok c a h in ((b, ap (λ x. PairOf b x) e), subst (IsGood names) e g.1)
unary_right names z Second _ a i g h = absurd (cc)
unary_right names z (Layout l) b a i g h = layout_right names l b a g h
unary_right names z (Slide s t) (ArrayOf x n) a i g h =
    let p = and_ok (within (minus n (constant s))) _ a h in
    let w = within_ok (minus n (constant s)) p.0 p.1 in
    let q = and_ok (demand (is_shown 0 names p.0) rule.Slide) _ a p.2 in
    slide_right names s t x a n p.0 i.1 g w ((decides_shown 0 names p.0 w.1).0 (demand_ok _ _ q.0 q.1)) (exact_quotient (constant t) p.0) refl q.2
unary_right names z (Slide s t) _ a i g h = absurd (cc)
unary_right names z (Pad l r) (ArrayOf x n) a i g h =
    let p = and_ok (within (plus (constant l) n)) _ a h in
    let w = within_ok (plus (constant l) n) p.0 p.1 in
    let q = and_ok (within (plus p.0 (constant r))) _ a p.2 in
    let v = within_ok (plus p.0 (constant r)) q.0 q.1 in
    let f = formed_right names x a q.0 g.2 v.1 q.2 in
    ((x, n, refl, f.0 ∙ ap (λ y. ArrayOf x y) (sym v.0 ∙ ap (λ y. plus y (constant r)) (sym w.0)), good_formed names a f.1), f.1)
unary_right names z (Pad l r) _ a i g h = absurd (cc)
unary_right names z _ b a i g h = let e = same_ok b a h in (e, subst (IsGood names) e g)

-- ---- the row answers, unless a limit is passed
first_is : (a b c d : PlainTy) → PairOf a b ≡ PairOf c d → (a ≡ c) × (b ≡ d)
first_is a b c d e = (cc, cc)

judges_slide : (names : List Name) (s t : ℕ) (x : PlainTy) (n : List Monomial) → IsGood names (ArrayOf x n) → 0 < t → ShownAtLeast 0 names (minus n (constant s)) → AllDivide (number (pos t)) (minus n (constant s))
    → IsFormed names (ArrayOf (ArrayOf x (constant s)) (plus (quotient (number (pos t)) (minus n (constant s))) (constant 1)))
    → Judges itself (UnaryFits names (Slide s t) (ArrayOf x n)) (ArrayOf (ArrayOf x (constant s)) (plus (quotient (number (pos t)) (minus n (constant s))) (constant 1))) (unary_row names (Slide s t) (ArrayOf x n))
judges_slide names s t x n g p z d o =
    let left = minus n (constant s) in
    let q = quotient (number (pos t)) left in
    let count = plus q (constant 1) in
    judges_four
    (judges_then _ (judges_within left) (λ e w.
    judges_demand (is_shown 0 names left) rule.Slide _ ((decides_shown 0 names left (low_small left w)).1 z)
    (subst (λ y. Judges itself (ArrayFits names x (constant s) × (IsSmall count × ArrayFits names (ArrayOf x (constant s)) count)) (ArrayOf (ArrayOf x (constant s)) count) (windows_row names x s y)) (sym (forms.exact_on (pos t) no_powers left (above_zero t p) d))
    (judges_then _ (judges_formed names x (constant s) (constant_low s) o.1.0) (λ f v.
    judges_then _ (judges_within count) (λ h u. judges_formed names (ArrayOf x (constant s)) count (low_small count u) o.0))))))

judges_pad : (names : List Name) (l r : ℕ) (x : PlainTy) (n : List Monomial) → IsFormed names (ArrayOf x (plus (plus (constant l) n) (constant r)))
    → Judges itself (UnaryFits names (Pad l r) (ArrayOf x n)) (ArrayOf x (plus (plus (constant l) n) (constant r))) (unary_row names (Pad l r) (ArrayOf x n))
judges_pad names l r x n o =
    let m = plus (constant l) n in
    let k = plus m (constant r) in
    judges_three (judges_then _ (judges_within m) (λ e w. judges_then _ (judges_within k) (λ f v. judges_formed names x k (low_small k v) o.0)))

pub judges_unary : (names : List Name) (f : UnaryForm) (b a : PlainTy) → UnaryRow names f b a → IsGood names b → At names f b a
judges_unary names (Div n) U32 a r g o = answers (sym r.2)
judges_unary names (Div n) U32x4 a r g o = answers (sym r.2)
judges_unary names (Div n) (PairOf b c) a r g o = absurd r.1
judges_unary names (Div n) (ArrayOf b l) a r g o = absurd r.1
judges_unary names (Rem n) U32 a r g o = answers (sym r.2)
judges_unary names (Rem n) U32x4 a r g o = answers (sym r.2)
judges_unary names (Rem n) (PairOf b c) a r g o = absurd r.1
judges_unary names (Rem n) (ArrayOf b l) a r g o = absurd r.1
judges_unary names First (PairOf b c) a r g o = answers (first_is b c a r.0 r.1).0
judges_unary names First _ a r g o = absurd (let e = r.1 in cc)
judges_unary names Second (PairOf b c) a r g o = answers (first_is b c r.0 a r.1).1
judges_unary names Second _ a r g o = absurd (let e = r.1 in cc)
judges_unary names (Layout l) b a r g o = judges_layout names l b a r g o
judges_unary names (Slide s t) b a r g o =
    subst (λ z. Judges itself (UnaryFits names (Slide s t) z) a (unary_row names (Slide s t) z)) (sym r.2)
    (subst (λ z. At names (Slide s t) (ArrayOf r.0 r.1) z) (sym r.6) (judges_slide names s t r.0 r.1 (subst (IsGood names) r.2 g) r.3 r.4 r.5) o)
judges_unary names (Pad l k) b a r g o =
    subst (λ z. Judges itself (UnaryFits names (Pad l k) z) a (unary_row names (Pad l k) z)) (sym r.2)
    (subst (λ z. At names (Pad l k) (ArrayOf r.0 r.1) z) (sym r.3) (judges_pad names l k r.0 r.1) o)
judges_unary names _ b a r g o = answers r

-- ---- a fault of the row
windows_faults : (names : List Name) (s t : ℕ) (x : PlainTy) (n : List Monomial) → 0 < t → IsGood names (ArrayOf x n) → AllLow 4 (minus n (constant s)) → ShownAtLeast 0 names (minus n (constant s))
    → (q : Option (List Monomial)) → exact_quotient (constant t) (minus n (constant s)) ≡ q
    → Faults (UnaryFault names (Slide s t) (ArrayOf x n)) (windows_row names x s q)
windows_faults names s t x n p g low z None f =
    let left = minus n (constant s) in
    one (Breaks rule.Slide) (inl (
      refl,
      λ d.
          let e = same_array x d.0 n d.1 d.2 in
          let a : AllDivide (number (pos t)) left = subst (λ y. AllDivide (number (pos t)) (minus y (constant s))) (sym e.1) d.4 in
          let y = sym f ∙ forms.exact_on (pos t) no_powers left (above_zero t p) a in
          absurd (cc),
    ))
windows_faults names s t x n p g low z (Some q) f =
    let left = minus n (constant s) in
    let Q = UnaryFault names (Slide s t) (ArrayOf x n) in
    let d = table.exact_on (pos t) no_powers left q f in
    faults_then _ (unary_array names (Slide s t) (ArrayOf x n) x (constant s) (constant_low s) (x, n, refl, z, d.0) (λ P h. inl h)) (λ c e.
    subst (λ y. Faults Q (and_then (within (plus y (constant 1))) (λ i. judged.formed names c i))) (sym d.1)
    (faults_then _ (unary_length names (Slide s t) (ArrayOf x n) (windows s t n) (λ P h. inr (inl h))) (λ i u.
    let w = within_ok (windows s t n) i u in
    subst (λ y. Faults Q (judged.formed names y i)) (sym (formed_right names x c (constant s) g.2 (constant_low s) e).0)
    (subst (λ y. Faults Q (judged.formed names (ArrayOf x (constant s)) y)) w.0
    (unary_array names (Slide s t) (ArrayOf x n) (ArrayOf x (constant s)) (windows s t n) (subst (AllLow 4) (sym w.0) w.1) (x, n, refl, z, d.0) (λ P h. inr (inl h)))))))

slide_faults : (names : List Name) (s t : ℕ) (x : PlainTy) (n : List Monomial) → 0 < t → IsGood names (ArrayOf x n) → Faults (UnaryFault names (Slide s t) (ArrayOf x n)) (unary_row names (Slide s t) (ArrayOf x n))
slide_faults names s t x n p g =
    let left = minus n (constant s) in
    let Q = UnaryFault names (Slide s t) (ArrayOf x n) in
    faults_then _ (unary_length names (Slide s t) (ArrayOf x n) left (λ P h. inl h)) (λ l u.
    let w = within_ok left l u in
    let low : AllLow 4 left = subst (AllLow 4) (sym w.0) w.1 in
    subst (λ y. Faults Q (and_then (demand (is_shown 0 names y) rule.Slide) (λ _. windows_row names x s (exact_quotient (constant t) y)))) w.0
    (faults_then _ (demand_faults (is_shown 0 names left) rule.Slide (λ e. inl (
      refl,
      λ d.
          let i = same_array x d.0 n d.1 d.2 in
          not_false _ ((decides_shown 0 names left low).1 (subst (λ y. ShownAtLeast 0 names (minus y (constant s))) (sym i.1) d.3)) e,
    ))) (λ v o.
    windows_faults names s t x n p g low ((decides_shown 0 names left low).0 (demand_ok _ _ v o)) (exact_quotient (constant t) left) refl)))

pad_faults : (names : List Name) (l r : ℕ) (x : PlainTy) (n : List Monomial) → Faults (UnaryFault names (Pad l r) (ArrayOf x n)) (unary_row names (Pad l r) (ArrayOf x n))
pad_faults names l r x n =
    let m = plus (constant l) n in
    let k = plus m (constant r) in
    let Q = UnaryFault names (Pad l r) (ArrayOf x n) in
    faults_then _ (unary_length names (Pad l r) (ArrayOf x n) m (λ P h. inl h)) (λ i u.
    subst (λ y. Faults Q (and_then (within (plus y (constant r))) (λ j. judged.formed names x j))) (within_ok m i u).0
    (faults_then _ (unary_length names (Pad l r) (ArrayOf x n) k (λ P h. inr (inl h))) (λ j v.
    let w = within_ok k j v in
    subst (λ y. Faults Q (judged.formed names x y)) w.0 (unary_array names (Pad l r) (ArrayOf x n) x k (subst (AllLow 4) (sym w.0) w.1) (x, n, refl) (λ P h. inl h)))))

pub unary_faults : (names : List Name) (size : ℕ) (f : UnaryForm) (b : PlainTy) → FormIsNamed size f → IsGood names b → Faults (UnaryFault names f b) (unary_row names f b)
unary_faults names z (Div n) b i g = numeric_faults b (λ h. inl (refl, h))
unary_faults names z (Rem n) b i g = numeric_faults b (λ h. inl (refl, h))
unary_faults names z First (PairOf a b) i g = none a
unary_faults names z First _ i g = one (Breaks rule.Project) (inl (refl, λ d. let e = d.2 in absurd (cc)))
unary_faults names z Second (PairOf a b) i g = none b
unary_faults names z Second _ i g = one (Breaks rule.Project) (inl (refl, λ d. let e = d.2 in absurd (cc)))
unary_faults names z (Layout l) b i g = layout_faults names l b g
unary_faults names z (Slide s t) (ArrayOf x n) i g = slide_faults names s t x n (let e = i.1 in omega arith) g
unary_faults names z (Slide s t) _ i g = one (Breaks rule.Slide) (inl (refl, λ d. let e = d.2 in absurd (cc)))
unary_faults names z (Pad l r) (ArrayOf x n) i g = pad_faults names l r x n
unary_faults names z (Pad l r) _ i g = one (Breaks rule.Pad) (inl (refl, λ d. let e = d.2 in absurd (cc)))
unary_faults names z _ b i g = none b
