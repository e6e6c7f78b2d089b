-- Lengths within the limits of what may be named: few terms, of a low degree.
use Rattle.std.proofs.Common.{◌≡◌, ℕ, zero, suc, ℤ, pos, negsuc, ◌≤◌, List, [], ◌∷◌, length, refl, arith}
use Rattle.size_arith.specs.declared.names.Name.{Name}
use Rattle.size_arith.specs.declared.poly.Monomial.{Monomial}
use Rattle.size_arith.specs.Polynomial.{AllDivide, AtMost, degree, less_powers, number, of_monomial, on, quotient, total}
use Rattle.size_arith.specs.Shown.{ShownAtLeast}
use Rattle.size_arith.proofs.LeastSizes.{none_shown}
use Rattle.lift_tree.specs.Typing.{constant}
use Rattle.lift_tree.specs.Limits.{IsSmall}

-- at most 32 terms, each of degree 4 at most
pub record LengthFits (p : List Monomial) : Type 0 where
  pub terms : length p ≤ 32
  pub degree : degree p ≤ 4

pub small_fits : (p : List Monomial) → IsSmall p → LengthFits p
small_fits p h = record { terms = h.terms; degree = h.degree }

pub none_fits : LengthFits []
none_fits = record { terms = omega arith; degree = omega arith }

on_fits : (c : ℤ) (ms : List ℕ) → total ms ≤ 4 → LengthFits (on c ms [])
on_fits (pos zero) ms le = none_fits
on_fits (pos (suc n)) ms le = record { terms = omega arith; degree = omega arith }
on_fits (negsuc n) ms le = record { terms = omega arith; degree = omega arith }

monomial_fits : (m : Monomial) → total m.powers ≤ 4 → LengthFits (of_monomial m)
monomial_fits m le = on_fits m.coefficient m.powers le

pub constant_fits : (k : ℕ) → LengthFits (constant k)
constant_fits k = monomial_fits (number (pos k)) (omega arith)

-- ---- quotients
less_total : (ms ns : List ℕ) → total (less_powers ms ns) ≤ total ms
less_total [] ns = omega arith
less_total (m ∷ ms) [] = omega arith
less_total (m ∷ ms) (n ∷ ns) = let r = less_total ms ns in omega (arith, r)

quotient_terms : (d : Monomial) (p : List Monomial) → length (quotient d p) ≡ length p
quotient_terms d [] = refl
quotient_terms d (m ∷ p) = let r = quotient_terms d p in omega (arith, r)

quotient_degree : (d : Monomial) (p : List Monomial) → degree (quotient d p) ≤ degree p
quotient_degree d [] = omega arith
quotient_degree d (m ∷ p) = let l = less_total m.powers d.powers in let r = quotient_degree d p in omega (arith, l, r)

pub quotient_fits : (d : Monomial) (p : List Monomial) → LengthFits p → LengthFits (quotient d p)
quotient_fits d p h =
    let t = h.terms in
    let e = h.degree in
    let l = quotient_terms d p in
    let r = quotient_degree d p in
    record { terms = omega (arith, l, t); degree = omega (arith, r, e) }

-- ---- divisors
at_most_total : (ms ns : List ℕ) → AtMost ms ns → total ms ≤ total ns
at_most_total [] ns h = omega arith
at_most_total (m ∷ ms) [] h = absurd h
at_most_total (m ∷ ms) (n ∷ ns) h = let a = h.0 in let r = at_most_total ms ns h.1 in omega (arith, a, r)

-- the divisor of a length that is shown at least 1 has no more names than it
pub divisor_fits : (names : List Name) (d : Monomial) (p : List Monomial) → ShownAtLeast 1 names p → AllDivide d p → LengthFits p → LengthFits (of_monomial d)
divisor_fits names d [] shown h fits = absurd (none_shown names shown)
divisor_fits names d (m ∷ p) shown h fits =
    let a = at_most_total d.powers m.powers h.0.powers in
    let e = fits.degree in
    monomial_fits d (omega (arith, a, e))
