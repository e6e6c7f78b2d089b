-- Lengths and types as written, worked out over the base names.
use Rattle.std.specs.Prelude.{ℕ, zero, suc, List, [], ◌∷◌, pos, ◌*ℤ◌}
use Rattle.size_arith.specs.declared.names.Name.{Name}
use Rattle.size_arith.specs.declared.poly.Monomial.{Monomial}
use Rattle.size_arith.specs.Polynomial.{number, size, add_powers, of_monomial, plus, minus}
use Rattle.lift_tree.specs.declared.length.Factor.{Factor}
use Rattle.lift_tree.specs.declared.length.Factor.TheVariants as factor
use Rattle.lift_tree.specs.declared.length.Sign.{Sign}
use Rattle.lift_tree.specs.declared.length.Sign.TheVariants.{Plus, Minus}
use Rattle.lift_tree.specs.declared.length.Part.{Part}
use Rattle.lift_tree.specs.declared.program.Size.{Size}
use Rattle.lift_tree.specs.InputTypes as written
use Rattle.lift_tree.specs.InputTypes.{Written}
use Rattle.lift_tree.specs.Types.{PlainTy, U32, PairOf, ArrayOf}

-- the declared size of this number, where so many stand before these names
abbrev pub nth_name : (i before : ℕ) → List Name → Monomial
nth_name i before [] = number (pos 0)
nth_name zero before (n ∷ ns) = size n.multiple before
nth_name (suc i) before (n ∷ ns) = nth_name i (suc before) ns

-- a factor as a monomial: a number, or a declared size
abbrev pub factor_monomial : List Name → Factor → Monomial
factor_monomial names (factor.Number n) = number (pos n)
factor_monomial names (factor.Size i) = nth_name i 0 names

-- the product of factors as a monomial
abbrev pub product_of : List Name → List Factor → Monomial
product_of names [] = number (pos 1)
product_of names (f ∷ fs) =
    let m = factor_monomial names f in
    let rest = product_of names fs in
    record {
      coefficient = m.coefficient *ℤ rest.coefficient;
      powers = add_powers m.powers rest.powers;
    }

-- a sum with a part added or taken away, as the part's sign says
abbrev pub with_part : Sign → List Monomial → List Monomial → List Monomial
with_part Plus sum p = plus sum p
with_part Minus sum p = minus sum p

-- the parts added to a sum, from left to right
abbrev pub sum_of : List Name → List Monomial → List Part → List Monomial
sum_of names sum [] = sum
sum_of names sum (p ∷ ps) =
    sum_of names (with_part p.sign sum (of_monomial (product_of names p.product))) ps

-- a written length over the base names
abbrev pub length_of : List Name → List Part → List Monomial
length_of names parts = sum_of names [] parts

-- a written type, its lengths over the base names
abbrev pub worked_out : List Name → Written → PlainTy
worked_out names written.Number = U32
worked_out names (written.Pair a b) = PairOf (worked_out names a) (worked_out names b)
worked_out names (written.Array a n) = ArrayOf (worked_out names a) (length_of names n)

-- the ranges of declared sizes
abbrev pub range_of : Size → Name
range_of s = record { multiple = s.multiple; from = s.from; to = s.to }
