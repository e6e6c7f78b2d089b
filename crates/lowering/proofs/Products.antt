-- Products of monomials, as polynomials.
use Rattle.std.proofs.Common.{◌≡◌, ℕ, zero, suc, ◌+◌, ◌<◌, List, [], ◌∷◌, length, drop, get_or, refl, sym, ap, ◌∙◌, ℤ, pos, negsuc, ◌*ℤ◌}
use Rattle.std.proofs.lemmas.List.{drop_more}
use Rattle.std.proofs.Math.IntN.{*ℤ-zero, zero-*ℤ}
use Rattle.size_arith.specs.declared.names.Name.{Name}
use Rattle.size_arith.specs.declared.poly.Monomial.{Monomial}
use Rattle.size_arith.specs.Polynomial.{add_powers, of_monomial, on, times}
use Rattle.lift_tree.specs.declared.length.Factor.{Factor}
use Rattle.lift_tree.specs.WorkedOut.{factor_monomial, product_of}

-- the product of two
pub times_each : (c d : ℤ) (ms ns : List ℕ) → times (on c ms []) (on d ns []) ≡ on (c *ℤ d) (add_powers ms ns) []
times_each (pos zero) d ms ns = ap (λ z. on z (add_powers ms ns) []) (sym (zero-*ℤ d))
times_each (pos (suc a)) (pos zero) ms ns = ap (λ z. on z (add_powers ms ns) []) (sym (*ℤ-zero (pos (suc a))))
times_each (negsuc a) (pos zero) ms ns = ap (λ z. on z (add_powers ms ns) []) (sym (*ℤ-zero (negsuc a)))
times_each (pos (suc a)) (pos (suc b)) ms ns = refl
times_each (pos (suc a)) (negsuc b) ms ns = refl
times_each (negsuc a) (pos (suc b)) ms ns = refl
times_each (negsuc a) (negsuc b) ms ns = refl

only_of : (c : ℤ) (ms : List ℕ) (e : Monomial) → e ∷ [] ≡ on c ms [] → e ≡ record { coefficient = c; powers = ms }
only_of (pos zero) ms e h = absurd (cc h)
only_of (pos (suc n)) ms e h = cc h
only_of (negsuc n) ms e h = cc h

-- the monomial of a polynomial of one
pub only : (m e : Monomial) → e ∷ [] ≡ of_monomial m → e ≡ m
only m e h = only_of m.coefficient m.powers e h

-- one factor, and the product of those behind it
pub product_step : (names : List Name) (fs : List Factor) (i : ℕ) (d : Factor) (first rest : List Monomial) → i < length fs → first ≡ of_monomial (factor_monomial names (get_or fs i d)) → rest ≡ of_monomial (product_of names (drop (i + 1) fs)) → times first rest ≡ of_monomial (product_of names (drop i fs))
product_step names fs i d first rest h a b =
    let f = get_or fs i d in
    let fs = drop (i + 1) fs in
    ap (λ z. times z rest) a ∙ ap (times (of_monomial (factor_monomial names f))) b
    ∙ times_each (factor_monomial names f).coefficient (product_of names fs).coefficient (factor_monomial names f).powers (product_of names fs).powers
    ∙ ap (λ gs. of_monomial (product_of names gs)) (sym (drop_more _ i d h))
