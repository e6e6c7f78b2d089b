-- What the code's steps give.
use Rattle.std.specs.Prelude.{ℕ, ◌≡◌, ◌≤◌, ◌++◌, length, List, [], ◌∷◌, Bool, true, false, ℤ, pos, ◌+ℤ◌, ◌≤ℤ◌, ◌⊎◌}
use Rattle.std.specs.declared.cmp.Ordering.{Ordering}
use Rattle.std.specs.declared.cmp.Ordering.TheVariants.{Less, Equal, Greater}
use Rattle.size_arith.specs.declared.poly.Monomial.{Monomial}
use Rattle.size_arith.specs.Polynomial.{Place, Before, Here, After, on, total, AtMost}

-- the place that an ordering tells
abbrev pub place_of : Ordering → Place
place_of Less = Before
place_of Equal = Here
place_of Greater = After

-- what stands from a place on, after c was added there: to the monomial there, or in front of it
abbrev pub put_there : Bool → ℤ → List ℕ → List Monomial → List Monomial
put_there false c ms p = on c ms p
put_there true c ms [] = on c ms []
put_there true c ms (m ∷ p) = on (c +ℤ m.coefficient) ms p

-- what holds of each list that goes on with so many powers, in all at most so much
abbrev pub AllExtended : (List ℕ → Type 0) → List ℕ → ℕ → ℕ → Type 0
AllExtended P chosen n left = (js : List ℕ) → length js ≡ n → total js ≤ left → P (chosen ++ js)

-- a monomial adds nothing negative to the coefficients of powers that are at least these: it isn't
-- negative, or it has less of some name
abbrev pub IsAbove : List ℕ → Monomial → Type 0
IsAbove js m = (pos 0 ≤ℤ m.coefficient) ⊎ (AtMost js m.powers → ⊥)

-- each monomial is such a one
abbrev pub AllAbove : List ℕ → List Monomial → Type 0
AllAbove js [] = Unit {0}
AllAbove js (m ∷ p) = IsAbove js m × AllAbove js p
