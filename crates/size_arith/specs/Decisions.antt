-- What is decided of polynomials, as tests.
use Rattle.std.specs.Prelude.{ℕ, zero, suc, Bool, true, false, ◌&&◌, ◌-◌, nat_eq, List, [], ◌∷◌, length, pos, neg_ℤ, int_le, not, nat_le, int_rem}
use Rattle.std.specs.Ordering.{int_eq}
use Rattle.size_arith.specs.declared.names.Name.{Name}
use Rattle.size_arith.specs.declared.poly.Monomial.{Monomial}
use Rattle.size_arith.specs.Polynomial.{number, is_zero}
use Rattle.size_arith.specs.Shown.{shifted}
use Rattle.size_arith.specs.Ranges.{leasts}

-- it holds of each number from 0 to this
abbrev pub all_upto : ℕ → (ℕ → Bool) → Bool
all_upto zero f = f 0
all_upto (suc k) f = all_upto k f && f (suc k)

-- it holds of each list of so many powers, in all at most so much
abbrev pub all_powers : (count most : ℕ) → (List ℕ → Bool) → Bool
all_powers zero most f = f []
all_powers (suc n) most f = all_upto most (λ j. all_powers n (most - j) (λ js. f (j ∷ js)))

-- shown to be at least k: after each base name is replaced by its least value plus a new name, the
-- polynomial less k has no negative coefficient up to degree 4
abbrev pub is_shown : ℕ → List Name → List Monomial → Bool
is_shown k names p =
    all_powers (length names) 4
    (λ js. int_le (pos 0) (shifted (leasts names) (number (neg_ℤ (pos k)) ∷ p) js))

-- the same powers, name by name
abbrev pub same_powers : List ℕ → List ℕ → Bool
same_powers [] [] = true
same_powers [] (n ∷ ns) = false
same_powers (m ∷ ms) [] = false
same_powers (m ∷ ms) (n ∷ ns) = nat_eq m n && same_powers ms ns

-- the same polynomial: the same monomials in the same order
abbrev pub is_same : List Monomial → List Monomial → Bool
is_same [] [] = true
is_same [] (n ∷ q) = false
is_same (m ∷ p) [] = false
is_same (m ∷ p) (n ∷ q) =
    int_eq m.coefficient n.coefficient && (same_powers m.powers n.powers && is_same p q)

-- ---- division without a rest
-- each power of the first list is at most that of the second at its place
abbrev pub are_at_most : List ℕ → List ℕ → Bool
are_at_most [] ns = true
are_at_most (m ∷ ms) [] = false
are_at_most (m ∷ ms) (n ∷ ns) = nat_le m n && are_at_most ms ns

-- the first monomial divides the second
abbrev pub divides : Monomial → Monomial → Bool
divides d m =
    not (is_zero d.coefficient)
    && (is_zero (int_rem m.coefficient d.coefficient) && are_at_most d.powers m.powers)

-- the monomial divides each of the sum
abbrev pub all_divide : Monomial → List Monomial → Bool
all_divide d [] = true
all_divide d (m ∷ p) = divides d m && all_divide d p
