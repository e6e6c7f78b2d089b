-- The values of sums and products.
use Rattle.std.proofs.Common.{◌≡◌, ℕ, zero, suc, ◌*◌, ◌^◌, ◌<◌, List, [], ◌∷◌, length, get_or, set, ℤ, pos, negsuc, ◌+ℤ◌, ◌-ℤ◌, ◌*ℤ◌, refl, ap, ◌∙◌, arith}
use Rattle.std.specs.Prelude.{nat_lt, if◌then◌else◌}
use Rattle.std.proofs.Math.Nat.{pow-zero, pow-suc}
use Rattle.std.proofs.lemmas.Int.{ints}
use Rattle.std.proofs.lemmas.Nat.{pow-add}
use Rattle.std.proofs.lemmas.Bool.Decides.{nat_tests}
use Rattle.size_arith.specs.declared.poly.Monomial.{Monomial}
use Rattle.size_arith.specs.Polynomial.{no_powers, total, product, add_powers, Place, Before, Here, After, place, number, monomial_at, on, placed, put, added, plus, minus, times, value_at, of_monomial}
use Rattle.size_arith.proofs.Integers.{add_mul, mul_mul, mul_add}

pub product-add_powers : (ys ms ns : List ℕ) → product ys (add_powers ms ns) ≡ product ys ms * product ys ns
product-add_powers [] ms ns = refl
product-add_powers (y ∷ ys) [] ns = omega arith
product-add_powers (y ∷ ys) (m ∷ ms) [] = omega arith
product-add_powers (y ∷ ys) (m ∷ ms) (n ∷ ns) = rw (pow-add y m n, product-add_powers ys ms ns) (omega arith)

abbrev pub AllZero : List ℕ → Type 0
AllZero [] = Unit {0}
AllZero (m ∷ ms) = (m ≡ 0) × AllZero ms

pub product-zeros : (ys ms : List ℕ) → AllZero ms → product ys ms ≡ 1
product-zeros [] ms h = refl
product-zeros (y ∷ ys) [] h = refl
product-zeros (y ∷ ys) (m ∷ ms) h = let e = product-zeros ys ms h.1 in let f : y ^ m ≡ 1 = ap (λ n. y ^ n) h.0 ∙ pow-zero y in rw (e, f) refl

pub product-no_powers : (ys : List ℕ) → product ys no_powers ≡ 1
product-no_powers ys = product-zeros ys no_powers (refl, (refl, (refl, (refl, (refl, (refl, (refl, (refl, tt))))))))

step : (m n : ℕ) (r : Place) → (if nat_lt m n then Before else (if nat_lt n m then After else r)) ≡ Here → (m ≡ n) × (r ≡ Here)
step m n r e = grind (arith, nat_tests)

pub place_here : (ms ns : List ℕ) → place ms ns ≡ Here → ms ≡ ns
place_here [] [] e = refl
place_here [] (n ∷ ns) e = cc
place_here (m ∷ ms) [] e = cc
place_here (m ∷ ms) (n ∷ ns) e =
    let s = step m n (place ms ns) e in
    let t = place_here ms ns s.1 in
    cc

pub value-on : (ys : List ℕ) (c : ℤ) (ms : List ℕ) (p : List Monomial) → value_at ys (on c ms p) ≡ (c *ℤ pos (product ys ms)) +ℤ value_at ys p
value-on ys (pos zero) ms p = omega (arith, ints)
value-on ys (pos (suc n)) ms p = refl
value-on ys (negsuc n) ms p = refl

pub value-put : (ys : List ℕ) (c : ℤ) (ms : List ℕ) (p : List Monomial) → value_at ys (put c ms p) ≡ (c *ℤ pos (product ys ms)) +ℤ value_at ys p
value-put ys c ms [] = value-on ys c ms []
value-put ys c ms (m ∷ p) = at (place ms m.powers) refl (value-put ys c ms p)
  where
    at : (q : Place) → place ms m.powers ≡ q → value_at ys (put c ms p) ≡ (c *ℤ pos (product ys ms)) +ℤ value_at ys p → value_at ys (placed q c ms m p (put c ms p)) ≡ (c *ℤ pos (product ys ms)) +ℤ value_at ys (m ∷ p)
    at Before h ih = value-on ys c ms (m ∷ p)
    at Here h ih =
        let s = value-on ys (c +ℤ m.coefficient) ms p in
        let d = add_mul c m.coefficient (pos (product ys ms)) in
        let w = ap (λ ks. m.coefficient *ℤ pos (product ys ks)) (place_here ms m.powers h) in
        omega (arith, ints)
    at After h ih = omega (arith, ints)

pub value-added : (ys : List ℕ) (by : Monomial) (p sum : List Monomial) → value_at ys (added by p sum) ≡ (monomial_at ys by *ℤ value_at ys p) +ℤ value_at ys sum
value-added ys by [] sum = omega (arith, ints)
value-added ys by (m ∷ p) sum =
    let a = value-put ys (by.coefficient *ℤ m.coefficient) (add_powers by.powers m.powers) (added by p sum) in
    let b = ap (λ n. (by.coefficient *ℤ m.coefficient) *ℤ pos n) (product-add_powers ys by.powers m.powers) in
    let d = mul_mul by.coefficient m.coefficient (product ys by.powers) (product ys m.powers) in
    let f = mul_add (monomial_at ys by) (m.coefficient *ℤ pos (product ys m.powers)) (value_at ys p) in
    omega (arith, ints, value-added ys by p sum)

pub number_at : (ys : List ℕ) (c : ℤ) → monomial_at ys (number c) ≡ c
number_at ys c = ap (λ n. c *ℤ pos n) (product-no_powers ys) ∙ omega (arith, ints)

pub value-plus : (ys : List ℕ) (p q : List Monomial) → value_at ys (plus p q) ≡ value_at ys p +ℤ value_at ys q
value-plus ys p q =
    let a = value-added ys (number (pos 1)) q p in
    let b = ap (λ z. z *ℤ value_at ys q) (number_at ys (pos 1)) in
    omega (arith, ints)

pub value-minus : (ys : List ℕ) (p q : List Monomial) → value_at ys (minus p q) ≡ value_at ys p -ℤ value_at ys q
value-minus ys p q =
    let a = value-added ys (number (negsuc 0)) q p in
    let b = ap (λ z. z *ℤ value_at ys q) (number_at ys (negsuc 0)) in
    omega (arith, ints)

pub value-times : (ys : List ℕ) (p q : List Monomial) → value_at ys (times p q) ≡ value_at ys p *ℤ value_at ys q
value-times ys [] q = omega (arith, ints)
value-times ys (m ∷ p) q =
    let a = value-added ys m q (times p q) in
    let b = add_mul (monomial_at ys m) (value_at ys p) (value_at ys q) in
    omega (arith, ints, value-times ys p q)

total-zeros : (ms : List ℕ) → AllZero ms → total ms ≡ 0
total-zeros [] h = refl
total-zeros (m ∷ ms) h = omega (arith, h.0, total-zeros ms h.1)

total-one : (ms : List ℕ) (i : ℕ) → AllZero ms → i < length ms → total (set ms i 1) ≡ 1
total-one [] i h k = absurd (omega arith)
total-one (m ∷ ms) zero h k = omega (arith, total-zeros ms h.1)
total-one (m ∷ ms) (suc i) h k = omega (arith, h.0, total-one ms i h.1 (omega arith))

product-one : (ys ms : List ℕ) (i : ℕ) → AllZero ms → i < length ms → i < length ys → product ys (set ms i 1) ≡ get_or ys i 0
product-one [] ms i h k l = absurd (omega arith)
product-one (y ∷ ys) [] i h k l = absurd (omega arith)
product-one (y ∷ ys) (m ∷ ms) zero h k l = let e = product-zeros ys ms h.1 in rw (e, pow-suc, pow-zero) (omega arith)
product-one (y ∷ ys) (m ∷ ms) (suc i) h k l =
    let e = product-one ys ms i h.1 (omega arith) (omega arith) in
    let f : y ^ m ≡ 1 = ap (λ n. y ^ n) h.0 ∙ pow-zero y in
    rw (e, f) (omega arith)

none : AllZero no_powers
none = (refl, (refl, (refl, (refl, (refl, (refl, (refl, (refl, tt))))))))

pub total-size : (i : ℕ) → i < 8 → total (set no_powers i 1) ≡ 1
total-size i h = total-one no_powers i none h

pub product-size : (ys : List ℕ) (i : ℕ) → i < 8 → i < length ys → product ys (set no_powers i 1) ≡ get_or ys i 0
product-size ys i h k = product-one ys no_powers i none h k

pub value-of_monomial : (ys : List ℕ) (m : Monomial) → value_at ys (of_monomial m) ≡ monomial_at ys m
value-of_monomial ys m = value-put ys m.coefficient m.powers [] ∙ omega (arith, ints)
