-- What is shown of a polynomial over the ranges of its names.
use Rattle.std.specs.Prelude.{ℕ, zero, suc, ◌≡◌, ◌+◌, ◌*◌, ◌≤◌, List, [], ◌∷◌, length, ℤ, pos, negsuc, neg_ℤ, ◌+ℤ◌, ◌*ℤ◌, ◌≤ℤ◌}
use Rattle.size_arith.specs.declared.names.Name.{Name}
use Rattle.size_arith.specs.declared.poly.Monomial.{Monomial}
use Rattle.size_arith.specs.Ranges.{leasts, greatests}
use Rattle.size_arith.specs.Polynomial.{number, product}

-- the coefficient of y^j in (l + y)^m
abbrev pub share : ℕ → ℕ → ℕ → ℕ
share l zero zero = 1
share l zero (suc j) = 0
share l (suc m) zero = l * share l m zero
share l (suc m) (suc j) = share l m j + l * share l m (suc j)

-- the coefficient of the new names' powers js in the product of the powers ms, after each name is
-- its least value plus a new name
abbrev pub part : List ℕ → List ℕ → List ℕ → ℕ
part [] ms js = 1
part (l ∷ ls) ms [] = 0
part (l ∷ ls) [] (j ∷ js) = share l 0 j * part ls [] js
part (l ∷ ls) (m ∷ ms) (j ∷ js) = share l m j * part ls ms js

-- the polynomial's coefficient of the new names' powers js
abbrev pub shifted : List ℕ → List Monomial → List ℕ → ℤ
shifted ls [] js = pos 0
shifted ls (m ∷ p) js = (m.coefficient *ℤ pos (part ls m.powers js)) +ℤ shifted ls p js

-- no coefficient over the new names is below 0
abbrev pub IsNeverNegative : List ℕ → List Monomial → Type 0
IsNeverNegative ls p = (js : List ℕ) → length js ≡ length ls → pos 0 ≤ℤ shifted ls p js

-- after each base name is replaced by its least value plus a new name, the polynomial
-- less k has no negative coefficient
abbrev pub ShownAtLeast : ℕ → List Name → List Monomial → Type 0
ShownAtLeast k names p = IsNeverNegative (leasts names) (number (neg_ℤ (pos k)) ∷ p)

-- the number, or 0 where it is below 0
abbrev pub positive_part : ℤ → ℕ
positive_part (pos n) = n
positive_part (negsuc n) = 0

-- the sum of the positive monomials, where the base names have these values
abbrev pub positives_at : List ℕ → List Monomial → ℕ
positives_at ys [] = 0
positives_at ys (m ∷ p) = positive_part m.coefficient * product ys m.powers + positives_at ys p

-- the sum of the positive monomials at the base names' greatest values
abbrev pub largest : List Name → List Monomial → ℕ
largest names p = positives_at (greatests names) p

-- that sum is at most k
abbrev pub ShownAtMost : ℕ → List Name → List Monomial → Type 0
ShownAtMost k names p = largest names p ≤ k

-- ---- what `shifted` stands for: sums over all new powers of at most d each
abbrev pub sum_upto : ℕ → (ℕ → ℤ) → ℤ
sum_upto zero f = f 0
sum_upto (suc d) f = sum_upto d f +ℤ f (suc d)

-- the sum over all lists of as many powers as names, each at most d
abbrev pub sum_over : ℕ → List ℕ → (List ℕ → ℤ) → ℤ
sum_over d [] f = f []
sum_over d (l ∷ ls) f = sum_upto d (λ j. sum_over d ls (λ js. f (j ∷ js)))

-- values, each above another
abbrev pub raised : List ℕ → List ℕ → List ℕ
raised [] ys = []
raised (l ∷ ls) [] = []
raised (l ∷ ls) (y ∷ ys) = (l + y) ∷ raised ls ys
