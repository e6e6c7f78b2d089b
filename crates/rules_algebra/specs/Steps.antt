-- The product of a stride's factors as code holds it: numbers of 64 bits that stand still at the
-- greatest, and powers of 8 bits.
use Rattle.std.specs.Prelude.{ℕ, zero, suc, ◌+◌, ◌*◌, min, ◌&&◌, if◌then◌else◌, nat_eq, nat_lt, List, [], ◌∷◌, length, map, pos}
use Rattle.size_arith.specs.declared.names.Name.{Name}
use Rattle.size_arith.specs.declared.poly.Monomial.{Monomial}
use Rattle.lift_tree.specs.declared.length.Factor.{Factor}
use Rattle.lift_tree.specs.declared.length.Factor.TheVariants as factor

-- what the declared size of this number is a multiple of, or 0
abbrev pub multiple_at : List Name → ℕ → ℕ
multiple_at [] i = 0
multiple_at (n ∷ ns) zero = n.multiple
multiple_at (n ∷ ns) (suc i) = multiple_at ns i

-- a factor's number; of a declared size, what it is a multiple of
abbrev pub number_of : List Name → Factor → ℕ
number_of names (factor.Number n) = n
number_of names (factor.Size i) = multiple_at names i

-- the product of the factors' numbers
abbrev pub numbers : List Name → List Factor → ℕ
numbers names [] = 1
numbers names (f ∷ fs) = number_of names f * numbers names fs

-- whether the factor is the declared size of this number, as a count
abbrev pub one : (sizes : ℕ) → ℕ → Factor → ℕ
one s j (factor.Number n) = 0
one s j (factor.Size i) = if nat_lt i s && nat_eq i j then 1 else 0

-- how often it is among the factors
abbrev pub count : (sizes : ℕ) → ℕ → List Factor → ℕ
count s j [] = 0
count s j (f ∷ fs) = one s j f + count s j fs

-- how often each of the eight sizes that there may be is among the factors
abbrev pub counts : (sizes : ℕ) → List Factor → List ℕ
counts s fs =
    count s 0 fs ∷ count s 1 fs ∷ count s 2 fs ∷ count s 3 fs
    ∷ count s 4 fs ∷ count s 5 fs ∷ count s 6 fs ∷ count s 7 fs ∷ []

-- the greatest number of 64 bits
abbrev pub most_number : ℕ
most_number = 18446744073709551615

-- the greatest number of 8 bits
abbrev pub most_power : ℕ
most_power = 255

-- the product of the factors, as far as code can hold it
abbrev pub held : List Name → List Factor → Monomial
held names fs = record {
  coefficient = pos (min (numbers names fs) most_number);
  powers = map (λ k. min k most_power) (counts (length names) fs);
}
