-- A product worked out from left to right is the product.
use Rattle.std.proofs.Common.{◌≡◌, ℕ, zero, suc, ◌+◌, List, [], ◌∷◌, length, refl, sym, ap, ◌∙◌, subst, arith, ℤ, pos, negsuc, ◌*ℤ◌, add_assoc, length-set}
use Rattle.std.specs.Prelude.{Ok}
use Rattle.std.proofs.lemmas.Int.{ints}
use borrow.Author.Differences.{product_is, same_in}
use Rattle.size_arith.specs.declared.names.Name.{Name}
use Rattle.size_arith.specs.declared.poly.Monomial.{Monomial}
use Rattle.size_arith.specs.Polynomial.{no_powers, number, add_powers, on, of_monomial, times, AllLow}
use Rattle.size_arith.proofs.Values.{AllZero}
use Rattle.lift_tree.specs.declared.length.Factor.{Factor}
use Rattle.lift_tree.specs.declared.length.Factor.TheVariants as factor
use Rattle.lift_tree.specs.WorkedOut.{nth_name, factor_monomial, product_of}
use Rattle.lift_tree.specs.Typing.{constant}
use Rattle.pattern_types.specs.Judged.{within, product_judged}
use Rattle.pattern_types.proofs.Results.{and_ok, within_ok}

abbrev both : Monomial → Monomial → Monomial
both k m = record { coefficient = k.coefficient *ℤ m.coefficient; powers = add_powers k.powers m.powers }

zero_times : (z : ℤ) → pos 0 *ℤ z ≡ pos 0
zero_times z = omega (arith, ints)

times_zero : (z : ℤ) → z *ℤ pos 0 ≡ pos 0
times_zero z = omega (arith, ints)

times_on : (c e : ℤ) (ms ns : List ℕ) → times (on c ms []) (on e ns []) ≡ on (c *ℤ e) (add_powers ms ns) []
times_on (pos zero) e ms ns = ap (λ z. on z (add_powers ms ns) []) (sym (zero_times e))
times_on (pos (suc k)) (pos zero) ms ns = ap (λ z. on z (add_powers ms ns) []) (sym (times_zero (pos (suc k))))
times_on (pos (suc k)) (pos (suc n)) ms ns = refl
times_on (pos (suc k)) (negsuc n) ms ns = refl
times_on (negsuc k) (pos zero) ms ns = ap (λ z. on z (add_powers ms ns) []) (sym (times_zero (negsuc k)))
times_on (negsuc k) (pos (suc n)) ms ns = refl
times_on (negsuc k) (negsuc n) ms ns = refl

powers_assoc : (a b c : List ℕ) → add_powers (add_powers a b) c ≡ add_powers a (add_powers b c)
powers_assoc [] b c = refl
powers_assoc (x ∷ a) [] c = refl
powers_assoc (x ∷ a) (y ∷ b) [] = refl
powers_assoc (x ∷ a) (y ∷ b) (z ∷ c) = ap (λ n. n ∷ add_powers (add_powers a b) c) (add_assoc x y z) ∙ ap (λ q. (x + (y + z)) ∷ q) (powers_assoc a b c)

no_more : (a zs : List ℕ) → length a ≡ length zs → AllZero zs → add_powers a zs ≡ a
no_more [] [] e h = refl
no_more [] (z ∷ zs) e h = absurd (omega arith)
no_more (x ∷ a) [] e h = refl
no_more (x ∷ a) (z ∷ zs) e h = let f : x + z ≡ x = omega (arith, h.0) in ap (λ n. n ∷ add_powers a zs) f ∙ ap (λ q. x ∷ q) (no_more a zs (omega arith) h.1)

length-added : (a b : List ℕ) → length a ≡ length b → length (add_powers a b) ≡ length a
length-added [] b e = sym e
length-added (x ∷ a) [] e = refl
length-added (x ∷ a) (y ∷ b) e = let r = length-added a b (omega arith) in omega arith

wide_name : (i before : ℕ) (names : List Name) → length (nth_name i before names).powers ≡ 8
wide_name i before [] = refl
wide_name zero before (n ∷ names) = simp length-set refl
wide_name (suc i) before (n ∷ names) = wide_name i (suc before) names

wide_factor : (names : List Name) (f : Factor) → length (factor_monomial names f).powers ≡ 8
wide_factor names (factor.Number n) = refl
wide_factor names (factor.Size i) = wide_name i 0 names

times_assoc : (a b c : ℤ) → (a *ℤ b) *ℤ c ≡ a *ℤ (b *ℤ c)
times_assoc a b c =
    let g = product_is a b in
    let k = product_is (a *ℤ b) c in
    let e = product_is b c in
    let h = product_is a (b *ℤ c) in
    let u = rw (g.0, g.1) at k.0 in
    let v = rw (g.0, g.1) at k.1 in
    let w = rw (e.0, e.1) at h.0 in
    let x = rw (e.0, e.1) at h.1 in
    omega (arith, same_in)

both_assoc : (k m n : Monomial) → of_monomial (both (both k m) n) ≡ of_monomial (both k (both m n))
both_assoc k m n =
    ap (λ z. on z (add_powers (add_powers k.powers m.powers) n.powers) []) (times_assoc k.coefficient m.coefficient n.coefficient)
    ∙ ap (λ ps. on (k.coefficient *ℤ (m.coefficient *ℤ n.coefficient)) ps []) (powers_assoc k.powers m.powers n.powers)

times_one : (c : ℤ) → c *ℤ pos 1 ≡ c
times_one c = omega (arith, ints)

both_one : (k : Monomial) → length k.powers ≡ 8 → of_monomial (both k (number (pos 1))) ≡ of_monomial k
both_one k e =
    ap (λ z. on z (add_powers k.powers no_powers) []) (times_one k.coefficient)
    ∙ ap (λ ps. on k.coefficient ps []) (no_more k.powers no_powers e (refl, (refl, (refl, (refl, (refl, (refl, (refl, (refl, tt)))))))))

product_from : (names : List Name) (fs : List Factor) (k : Monomial) (p : List Monomial) → length k.powers ≡ 8 → AllLow 4 (of_monomial k) → product_judged names (of_monomial k) fs ≡ Ok p → (p ≡ of_monomial (both k (product_of names fs))) × AllLow 4 p
product_from names [] k p e l h = let f : of_monomial k ≡ p = cc in (sym f ∙ sym (both_one k e), subst (AllLow 4) f l)
product_from names (f ∷ fs) k p e l h =
    let m = factor_monomial names f in
    let q = and_ok (within (times (of_monomial k) (of_monomial m))) (λ q. product_judged names q fs) p h in
    let w = within_ok (times (of_monomial k) (of_monomial m)) q.0 q.1 in
    let g : q.0 ≡ of_monomial (both k m) = sym w.0 ∙ times_on k.coefficient m.coefficient k.powers m.powers in
    let r = product_from names fs (both k m) p (length-added k.powers m.powers (e ∙ sym (wide_factor names f)) ∙ e) (subst (AllLow 4) g w.1) (subst (λ z. product_judged names z fs ≡ Ok p) g q.2) in
    (r.0 ∙ both_assoc k m (product_of names fs), r.1)

one_both : (m : Monomial) → length m.powers ≡ 8 → of_monomial (both (number (pos 1)) m) ≡ of_monomial m
one_both m e =
    ap (λ z. on z (add_powers no_powers m.powers) []) (one_times m.coefficient) ∙ ap (λ ps. on m.coefficient ps []) (none_more no_powers m.powers (sym e) (refl, (refl, (refl, (refl, (refl, (refl, (refl, (refl, tt)))))))))
  where
    one_times : (c : ℤ) → pos 1 *ℤ c ≡ c
    one_times c = omega (arith, ints)

    none_more : (zs a : List ℕ) → length zs ≡ length a → AllZero zs → add_powers zs a ≡ a
    none_more [] a e h = refl
    none_more (z ∷ zs) [] e h = absurd (omega arith)
    none_more (z ∷ zs) (x ∷ a) e h = let f : z + x ≡ x = omega (arith, h.0) in ap (λ n. n ∷ add_powers zs a) f ∙ ap (λ q. x ∷ q) (none_more zs a (omega arith) h.1)

pub product_right : (names : List Name) (fs : List Factor) (p : List Monomial) → product_judged names (constant 1) fs ≡ Ok p → (p ≡ of_monomial (product_of names fs)) × AllLow 4 p
product_right names fs p h =
    let r = product_from names fs (number (pos 1)) p refl (omega arith, tt) h in
    (r.0 ∙ one_both (product_of names fs) (wide_product fs), r.1)
  where
    wide_product : (fs : List Factor) → length (product_of names fs).powers ≡ 8
    wide_product [] = refl
    wide_product (f ∷ fs) = length-added _ _ (wide_factor names f ∙ sym (wide_product fs)) ∙ wide_factor names f
