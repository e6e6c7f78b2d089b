-- Polynomials over base names, as sorted lists of monomials, and as
-- maps from powers to coefficients.
use Rattle.std.specs.Prelude.{ℕ, zero, suc, ◌≡◌, ◌+◌, ◌-◌, ◌*◌, ◌^◌, ◌≤◌, ◌⊎◌, max, Bool, true, false, List, [], ◌∷◌, length, ℤ, pos, negsuc, unsigned_abs, int_div, int_rem, ◌+ℤ◌, ◌*ℤ◌, nat_lt, if◌then◌else◌, slice_set, Result, Ok, Err}
use Rattle.size_arith.specs.declared.poly.Monomial.{Monomial}
use Rattle.size_arith.specs.declared.poly.PolyNo.{PolyNo}
use Rattle.size_arith.specs.declared.poly.PolyNo.TheVariants.{Terms, Degree, Coefficient, Memory}

-- ---- powers
abbrev pub no_powers : List ℕ
no_powers = 0 ∷ 0 ∷ 0 ∷ 0 ∷ 0 ∷ 0 ∷ 0 ∷ 0 ∷ []

-- the product of the base names' powers, where they have these values
abbrev pub product : List ℕ → List ℕ → ℕ
product [] ms = 1
product (y ∷ ys) [] = 1
product (y ∷ ys) (m ∷ ms) = y ^ m * product ys ms

-- the powers of a product
abbrev pub add_powers : List ℕ → List ℕ → List ℕ
add_powers [] ns = ns
add_powers (m ∷ ms) [] = m ∷ ms
add_powers (m ∷ ms) (n ∷ ns) = (m + n) ∷ add_powers ms ns

-- the first powers without the second
abbrev pub less_powers : List ℕ → List ℕ → List ℕ
less_powers [] ns = []
less_powers (m ∷ ms) [] = m ∷ ms
less_powers (m ∷ ms) (n ∷ ns) = (m - n) ∷ less_powers ms ns

-- each of the first powers is at most the second
abbrev pub AtMost : List ℕ → List ℕ → Type 0
AtMost [] ns = Unit {0}
AtMost (m ∷ ms) [] = ⊥
AtMost (m ∷ ms) (n ∷ ns) = (m ≤ n) × AtMost ms ns

-- the degree that these powers have
abbrev pub total : List ℕ → ℕ
total [] = 0
total (m ∷ ms) = m + total ms

-- before other powers, the same, or after them
pub data Place : Type 0 where
  Before : Place
  Here : Place
  After : Place

-- where powers stand to others in a polynomial: those of the first name decide, then the next's
abbrev pub place : List ℕ → List ℕ → Place
place [] [] = Here
place [] (n ∷ ns) = Before
place (m ∷ ms) [] = After
place (m ∷ ms) (n ∷ ns) = if nat_lt m n then Before else (if nat_lt n m then After else place ms ns)

-- ---- monomials
abbrev pub number : ℤ → Monomial
number c = record { coefficient = c; powers = no_powers }

-- the size that is so many times the base name with this index
abbrev pub size : ℕ → ℕ → Monomial
size multiple index = record { coefficient = pos multiple; powers = slice_set no_powers index 1 }

-- a monomial's value, where the base names have these values
abbrev pub monomial_at : List ℕ → Monomial → ℤ
monomial_at ys m = m.coefficient *ℤ pos (product ys m.powers)

-- it is 0
abbrev pub is_zero : ℤ → Bool
is_zero (pos zero) = true
is_zero (pos (suc n)) = false
is_zero (negsuc n) = false

-- ---- polynomials
-- the value, where the base names have these values
abbrev pub value_at : List ℕ → List Monomial → ℤ
value_at ys [] = pos 0
value_at ys (m ∷ p) = monomial_at ys m +ℤ value_at ys p

-- the coefficient, where the powers are the same; else 0
abbrev pub hit : Place → ℤ → ℤ
hit Before c = pos 0
hit Here c = c
hit After c = pos 0

-- the coefficient at these powers: a polynomial is this map
abbrev pub coefficient : List Monomial → List ℕ → ℤ
coefficient [] ms = pos 0
coefficient (m ∷ p) ms = hit (place ms m.powers) m.coefficient +ℤ coefficient p ms

-- these powers come before those of each monomial
abbrev pub AllAfter : List ℕ → List Monomial → Type 0
AllAfter ms [] = Unit {0}
AllAfter ms (m ∷ p) = (place ms m.powers ≡ Before) × AllAfter ms p

-- in order, none with 0: one list for each map
abbrev pub IsCanonical : List Monomial → Type 0
IsCanonical [] = Unit {0}
IsCanonical (m ∷ p) = (is_zero m.coefficient ≡ false) × AllAfter m.powers p × IsCanonical p

-- each monomial has so many powers
abbrev pub AllWide : ℕ → List Monomial → Type 0
AllWide w [] = Unit {0}
AllWide w (m ∷ p) = (length m.powers ≡ w) × AllWide w p

-- the greatest degree of its monomials
abbrev pub degree : List Monomial → ℕ
degree [] = 0
degree (m ∷ p) = max (total m.powers) (degree p)

-- the greatest absolute value of a coefficient
abbrev pub greatest : List Monomial → ℕ
greatest [] = 0
greatest (m ∷ p) = max (unsigned_abs m.coefficient) (greatest p)

-- each coefficient lies from -b to b
abbrev pub AllSmall : ℕ → List Monomial → Type 0
AllSmall b [] = Unit {0}
AllSmall b (m ∷ p) = (unsigned_abs m.coefficient ≤ b) × AllSmall b p

-- each monomial has a degree of at most d
abbrev pub AllLow : ℕ → List Monomial → Type 0
AllLow d [] = Unit {0}
AllLow d (m ∷ p) = (total m.powers ≤ d) × AllLow d p

-- canonical, over eight base names, and within the limits
pub record IsPoly (p : List Monomial) : Type 0 where
  pub canonical : IsCanonical p
  pub wide : AllWide 8 p
  pub terms : length p ≤ 32
  pub degree : degree p ≤ 4
  pub coefficients : greatest p ≤ 4294967296

-- the monomial put in front, unless it has 0
abbrev pub on : ℤ → List ℕ → List Monomial → List Monomial
on (pos zero) ms p = p
on (pos (suc n)) ms p = record { coefficient = pos (suc n); powers = ms } ∷ p
on (negsuc n) ms p = record { coefficient = negsuc n; powers = ms } ∷ p

-- c times powers added to m and p, by where they stand to m; the rest is p with them added
abbrev pub placed : Place → ℤ → List ℕ → Monomial → List Monomial → List Monomial → List Monomial
placed Before c ms m p rest = on c ms (m ∷ p)
placed Here c ms m p rest = on (c +ℤ m.coefficient) ms p
placed After c ms m p rest = m ∷ rest

-- the polynomial with c times these powers added
abbrev pub put : ℤ → List ℕ → List Monomial → List Monomial
put c ms [] = on c ms []
put c ms (m ∷ p) = placed (place ms m.powers) c ms m p (put c ms p)

-- the polynomial of one monomial
abbrev pub of_monomial : Monomial → List Monomial
of_monomial m = put m.coefficient m.powers []

-- a monomial times the second polynomial, added to the third
abbrev pub added : Monomial → List Monomial → List Monomial → List Monomial
added by [] sum = sum
added by (m ∷ p) sum =
    put (by.coefficient *ℤ m.coefficient) (add_powers by.powers m.powers) (added by p sum)

-- the sum of two polynomials
abbrev pub plus : List Monomial → List Monomial → List Monomial
plus p q = added (number (pos 1)) q p

-- the first polynomial less the second
abbrev pub minus : List Monomial → List Monomial → List Monomial
minus p q = added (number (negsuc 0)) q p

-- the product of two polynomials
abbrev pub times : List Monomial → List Monomial → List Monomial
times [] q = []
times (m ∷ p) q = added m q (times p q)

-- what a polynomial may not pass, in this order: 32 monomials, degree 4, coefficients of 4294967296
abbrev pub limited : List Monomial → Result (List Monomial) PolyNo
limited p =
    if nat_lt 32 (length p) then Err (Terms (length p)) else
    (if nat_lt 4 (degree p) then Err (Degree (degree p)) else
    (if nat_lt 4294967296 (greatest p) then Err (Coefficient (greatest p)) else Ok p))

-- the answer of a call that works out this polynomial: want of memory, or
-- the polynomial within its limits
abbrev pub Answers : Result (List Monomial) PolyNo → List Monomial → Type 0
Answers r p = (r ≡ Err Memory) ⊎ (r ≡ limited p)

-- ---- division
-- the coefficient and each power of the first monomial divide those of the second
pub record Divides (d m : Monomial) : Type 0 where
  pub divisor : is_zero d.coefficient ≡ false
  pub coefficient : int_rem m.coefficient d.coefficient ≡ pos 0
  pub powers : AtMost d.powers m.powers

-- it divides each monomial
abbrev pub AllDivide : Monomial → List Monomial → Type 0
AllDivide d [] = Unit {0}
AllDivide d (m ∷ p) = Divides d m × AllDivide d p

-- the second monomial by the first
abbrev pub divided : Monomial → Monomial → Monomial
divided d m =
    record {
      coefficient = int_div m.coefficient d.coefficient;
      powers = less_powers m.powers d.powers;
    }

-- each monomial divided
abbrev pub quotient : Monomial → List Monomial → List Monomial
quotient d [] = []
quotient d (m ∷ p) = divided d m ∷ quotient d p
