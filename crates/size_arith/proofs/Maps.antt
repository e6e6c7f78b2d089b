-- One list for each map.
use Rattle.std.proofs.Common.{◌≡◌, ℕ, zero, suc, List, [], ◌∷◌, ℤ, pos, negsuc, ◌+ℤ◌, refl, sym, ap, ◌∙◌, subst, arith, false}
use Rattle.std.specs.Prelude.{nat_lt, if◌then◌else◌}
use Rattle.std.proofs.lemmas.Int.{ints}
use Rattle.std.proofs.lemmas.Bool.Decides.{nat_tests}
use Rattle.size_arith.specs.declared.poly.Monomial.{Monomial}
use Rattle.size_arith.specs.Polynomial.{Place, Before, Here, After, place, is_zero, on, placed, put}
use Rattle.size_arith.specs.Polynomial.{hit, coefficient, AllAfter, IsCanonical}
use Rattle.size_arith.proofs.Values.{place_here}

abbrev pick : ℕ → ℕ → Place → Place
pick m n r = if nat_lt m n then Before else (if nat_lt n m then After else r)

pick_trans : (a b c : ℕ) (r s t : Place) → (r ≡ Before → s ≡ Before → t ≡ Before) → pick a b r ≡ Before → pick b c s ≡ Before → pick a c t ≡ Before
pick_trans a b c r s t h p q = grind (arith, nat_tests)

pick_flip : (a b : ℕ) (r s : Place) → (r ≡ After → s ≡ Before) → pick a b r ≡ After → pick b a s ≡ Before
pick_flip a b r s h p = grind (arith, nat_tests)

pick_same : (a : ℕ) (r : Place) → r ≡ Here → pick a a r ≡ Here
pick_same a r p = grind (arith, nat_tests)

pub place_same : (ms : List ℕ) → place ms ms ≡ Here
place_same [] = refl
place_same (m ∷ ms) = pick_same m (place ms ms) (place_same ms)

place_trans : (a b c : List ℕ) → place a b ≡ Before → place b c ≡ Before → place a c ≡ Before
place_trans [] [] c p q = q
place_trans [] (y ∷ b) [] p q = cc
place_trans [] (y ∷ b) (z ∷ c) p q = refl
place_trans (x ∷ a) [] c p q = cc
place_trans (x ∷ a) (y ∷ b) [] p q = cc
place_trans (x ∷ a) (y ∷ b) (z ∷ c) p q = pick_trans x y z (place a b) (place b c) (place a c) (place_trans a b c) p q

place_flip : (a b : List ℕ) → place a b ≡ After → place b a ≡ Before
place_flip [] [] p = cc
place_flip [] (y ∷ b) p = cc
place_flip (x ∷ a) [] p = refl
place_flip (x ∷ a) (y ∷ b) p = pick_flip x y (place a b) (place b a) (place_flip a b) p

after_more : (a b : List ℕ) (es : List Monomial) → place a b ≡ Before → AllAfter b es → AllAfter a es
after_more a b [] p h = tt
after_more a b (e ∷ es) p h = (place_trans a b e.powers p h.0, after_more a b es p h.1)

-- what stands after these powers says nothing of them
none_at : (ms : List ℕ) (es : List Monomial) → AllAfter ms es → coefficient es ms ≡ pos 0
none_at ms [] h = refl
none_at ms (e ∷ es) h = omega (arith, ints, none_at ms es h.1, ap (λ p. hit p e.coefficient) h.0)

hit_zero : (p : Place) → hit p (pos 0) ≡ pos 0
hit_zero Before = refl
hit_zero Here = refl
hit_zero After = refl

hit_add : (p : Place) (c d : ℤ) → hit p (c +ℤ d) ≡ hit p c +ℤ hit p d
hit_add Before c d = refl
hit_add Here c d = refl
hit_add After c d = refl

coefficient-on : (c : ℤ) (ms ns : List ℕ) (es : List Monomial) → coefficient (on c ms es) ns ≡ hit (place ns ms) c +ℤ coefficient es ns
coefficient-on (pos zero) ms ns es = omega (arith, ints, hit_zero (place ns ms))
coefficient-on (pos (suc c)) ms ns es = refl
coefficient-on (negsuc c) ms ns es = refl

pub coefficient-put : (c : ℤ) (ms ns : List ℕ) (es : List Monomial) → coefficient (put c ms es) ns ≡ hit (place ns ms) c +ℤ coefficient es ns
coefficient-put c ms ns [] = coefficient-on c ms ns []
coefficient-put c ms ns (e ∷ es) = at (place ms e.powers) refl (coefficient-put c ms ns es)
  where
    at : (p : Place) → place ms e.powers ≡ p → coefficient (put c ms es) ns ≡ hit (place ns ms) c +ℤ coefficient es ns → coefficient (placed p c ms e es (put c ms es)) ns ≡ hit (place ns ms) c +ℤ coefficient (e ∷ es) ns
    at Before h ih = coefficient-on c ms ns (e ∷ es)
    at Here h ih =
        let s = coefficient-on (c +ℤ e.coefficient) ms ns es in
        let d = hit_add (place ns ms) c e.coefficient in
        let w = ap (λ ks. hit (place ns ks) e.coefficient) (place_here ms e.powers h) in
        omega (arith, ints)
    at After h ih = omega (arith, ints)

canonical-on : (c : ℤ) (ms : List ℕ) (es : List Monomial) → AllAfter ms es → IsCanonical es → IsCanonical (on c ms es)
canonical-on (pos zero) ms es a h = h
canonical-on (pos (suc c)) ms es a h = (refl, a, h)
canonical-on (negsuc c) ms es a h = (refl, a, h)

after-on : (k : List ℕ) (c : ℤ) (ms : List ℕ) (es : List Monomial) → place k ms ≡ Before → AllAfter k es → AllAfter k (on c ms es)
after-on k (pos zero) ms es p a = a
after-on k (pos (suc c)) ms es p a = (p, a)
after-on k (negsuc c) ms es p a = (p, a)

after-put : (k : List ℕ) (c : ℤ) (ms : List ℕ) (es : List Monomial) → place k ms ≡ Before → AllAfter k es → AllAfter k (put c ms es)
after-put k c ms [] p a = after-on k c ms [] p tt
after-put k c ms (e ∷ es) p a = at (place ms e.powers) (after-put k c ms es p a.1)
  where
    at : (q : Place) → AllAfter k (put c ms es) → AllAfter k (placed q c ms e es (put c ms es))
    at Before ih = after-on k c ms (e ∷ es) p a
    at Here ih = after-on k (c +ℤ e.coefficient) ms es p a.1
    at After ih = (a.0, ih)

pub canonical-put : (c : ℤ) (ms : List ℕ) (es : List Monomial) → IsCanonical es → IsCanonical (put c ms es)
canonical-put c ms [] h = canonical-on c ms [] tt tt
canonical-put c ms (e ∷ es) h = at (place ms e.powers) refl (canonical-put c ms es h.2)
  where
    at : (p : Place) → place ms e.powers ≡ p → IsCanonical (put c ms es) → IsCanonical (placed p c ms e es (put c ms es))
    at Before q ih = canonical-on c ms (e ∷ es) (q, after_more ms e.powers es q h.1) h
    at Here q ih = canonical-on (c +ℤ e.coefficient) ms es (subst (λ ks. AllAfter ks es) (sym (place_here ms e.powers q)) h.1) h.2
    at After q ih = (h.0, after-put e.powers c ms es (place_flip ms e.powers q) h.1, ih)

lead : (e : Monomial) (es : List Monomial) → AllAfter e.powers es → coefficient (e ∷ es) e.powers ≡ e.coefficient
lead e es h = omega (arith, ints, none_at e.powers es h, ap (λ p. hit p e.coefficient) (place_same e.powers))

not_zero : (c : ℤ) → c ≡ pos 0 → is_zero c ≡ false → ⊥
not_zero c e h = let d = ap is_zero e in cc

pub same_map_same_list : (ps qs : List Monomial) → IsCanonical ps → IsCanonical qs → ((ms : List ℕ) → coefficient ps ms ≡ coefficient qs ms) → ps ≡ qs
same_map_same_list [] [] a b h = refl
same_map_same_list [] (q ∷ qs) a b h = absurd (not_zero q.coefficient (sym (lead q qs b.1) ∙ sym (h q.powers)) b.0)
same_map_same_list (p ∷ ps) [] a b h = absurd (not_zero p.coefficient (sym (lead p ps a.1) ∙ h p.powers) a.0)
same_map_same_list (p ∷ ps) (q ∷ qs) a b h = at (place p.powers q.powers) refl (same_map_same_list ps qs a.2 b.2)
  where
    at : (r : Place) → place p.powers q.powers ≡ r → (((ms : List ℕ) → coefficient ps ms ≡ coefficient qs ms) → ps ≡ qs) → p ∷ ps ≡ q ∷ qs
    at Before e ih = absurd (not_zero p.coefficient (sym (lead p ps a.1) ∙ h p.powers ∙ none_at p.powers (q ∷ qs) (e, after_more p.powers q.powers qs e b.1)) a.0)
    at After e ih =
        let f = place_flip p.powers q.powers e in
        absurd (not_zero q.coefficient (sym (lead q qs b.1) ∙ sym (h q.powers) ∙ none_at q.powers (p ∷ ps) (f, after_more q.powers p.powers ps f a.1)) b.0)
    at Here e ih =
        let k = place_here p.powers q.powers e in
        let c : p.coefficient ≡ q.coefficient = sym (lead p ps a.1) ∙ h p.powers ∙ ap (coefficient (q ∷ qs)) k ∙ lead q qs b.1 in
        let d : p ≡ q = λ i. record { coefficient = c i; powers = k i } in
        let t = ih (λ ms. let g = h ms in let f = ap (λ (x : Monomial). hit (place ms x.powers) x.coefficient) d in omega (arith, ints)) in
        ap (λ x. x ∷ ps) d ∙ ap (λ xs. q ∷ xs) t
