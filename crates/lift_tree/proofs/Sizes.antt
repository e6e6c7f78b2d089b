-- The values of lengths, where the base names have these values.
use Rattle.std.proofs.Common.{◌≡◌, ℕ, zero, suc, ◌+◌, ◌*◌, ◌-◌, ◌^◌, ◌<◌, ◌≤◌, List, [], ◌∷◌, ◌++◌, length, refl, sym, ap, ◌∙◌, arith, ℤ, pos, ◌+ℤ◌, ◌*ℤ◌, append_assoc, length-append}
use Rattle.std.specs.Prelude.{int_div, slice_set}
use Rattle.std.proofs.lemmas.Int.{ints, quot-rem}
use Rattle.std.proofs.lemmas.Nat.{pow-add}
use Rattle.std.proofs.Math.Nat.{pow-zero, pow-suc}
use Rattle.size_arith.specs.declared.names.Name.{Name}
use Rattle.size_arith.specs.declared.poly.Monomial.{Monomial}
use Rattle.size_arith.specs.Polynomial.{no_powers, product, less_powers, AtMost, number, monomial_at, value_at, of_monomial, Divides, AllDivide, quotient}
use Rattle.size_arith.specs.Ranges.{Admissible, sizes_at}
use Rattle.size_arith.proofs.Values.{value-put, product-no_powers, product-add_powers, product-zeros, AllZero}
use Rattle.size_arith.proofs.Integers.{mul_mul, mul_add}
use Rattle.lift_tree.specs.declared.length.Factor.{Factor}
use Rattle.lift_tree.specs.declared.length.Factor.TheVariants as factor
use Rattle.lift_tree.specs.Meaning.{nth_size, factor_at, product_at}
use Rattle.lift_tree.specs.WorkedOut.{nth_name, factor_monomial, product_of}
use Rattle.lift_tree.specs.Typing.{constant}

pub number_at : (ys : List ℕ) (c : ℤ) → monomial_at ys (number c) ≡ c
number_at ys c = ap (λ n. c *ℤ pos n) (product-no_powers ys) ∙ omega (arith, ints)

pub value-of_monomial : (ys : List ℕ) (m : Monomial) → value_at ys (of_monomial m) ≡ monomial_at ys m
value-of_monomial ys m = let a = value-put ys m.coefficient m.powers [] in omega (arith, ints)

pub value-constant : (ys : List ℕ) (k : ℕ) → value_at ys (constant k) ≡ pos k
value-constant ys k = value-of_monomial ys (number (pos k)) ∙ number_at ys (pos k)

-- ---- quotients
product-less_powers : (ys ds ms : List ℕ) → AtMost ds ms → product ys ms ≡ product ys ds * product ys (less_powers ms ds)
product-less_powers [] ds ms h = refl
product-less_powers (y ∷ ys) [] [] h = refl
product-less_powers (y ∷ ys) [] (m ∷ ms) h = omega arith
product-less_powers (y ∷ ys) (d ∷ ds) [] h = absurd h
product-less_powers (y ∷ ys) (d ∷ ds) (m ∷ ms) h =
    let e = product-less_powers ys ds ms h.1 in
    let s : m ≡ d + (m - d) = omega arith in
    let f = ap (λ k. y ^ k) s ∙ pow-add y d (m - d) in
    rw (f, e) (omega arith)

divided : (ys : List ℕ) (d m : Monomial) → Divides d m → monomial_at ys m ≡ monomial_at ys d *ℤ (int_div m.coefficient d.coefficient *ℤ pos (product ys (less_powers m.powers d.powers)))
divided ys d m h =
    let q = int_div m.coefficient d.coefficient in
    let e = quot-rem m.coefficient d.coefficient in
    let f = h.coefficient in
    let g : m.coefficient ≡ d.coefficient *ℤ q = omega (arith, ints) in
    ap (λ z. z *ℤ pos (product ys m.powers)) g
    ∙ ap (λ n. (d.coefficient *ℤ q) *ℤ pos n) (product-less_powers ys d.powers m.powers h.powers)
    ∙ mul_mul d.coefficient q (product ys d.powers) (product ys (less_powers m.powers d.powers))

pub value-quotient : (ys : List ℕ) (d : Monomial) (p : List Monomial) → AllDivide d p → value_at ys p ≡ monomial_at ys d *ℤ value_at ys (quotient d p)
value-quotient ys d [] h = omega (arith, ints)
value-quotient ys d (m ∷ p) h =
    let a = divided ys d m h.0 in
    let b = value-quotient ys d p h.1 in
    let rest = int_div m.coefficient d.coefficient *ℤ pos (product ys (less_powers m.powers d.powers)) in
    ap (λ z. z +ℤ value_at ys p) a ∙ ap (λ z. (monomial_at ys d *ℤ rest) +ℤ z) b ∙ sym (mul_add (monomial_at ys d) rest (value_at ys (quotient d p)))

-- ---- products as written
product-one_power : (front zs : List ℕ) (y : ℕ) (ys : List ℕ) → AllZero zs → length front < length zs → product (front ++ y ∷ ys) (slice_set zs (length front) 1) ≡ y
product-one_power front [] y ys h l = absurd (omega arith)
product-one_power [] (z ∷ zs) y ys h l = let e = product-zeros ys zs h.1 in let f : y ^ 1 ≡ y = pow-suc y 0 ∙ ap (λ n. n * y) (pow-zero y) ∙ omega arith in rw (e, f) (omega arith)
product-one_power (x ∷ front) (z ∷ zs) y ys h l =
    let e = product-one_power front zs y ys h.1 (omega arith) in
    let f : x ^ z ≡ 1 = ap (λ n. x ^ n) h.0 ∙ pow-zero x in
    rw (f, e) (omega arith)

none_zero : AllZero no_powers
none_zero = (refl, (refl, (refl, (refl, (refl, (refl, (refl, (refl, tt))))))))

size_value : (i : ℕ) (names : List Name) (front ys : List ℕ) → Admissible names ys → length front + length names ≤ 8 → monomial_at (front ++ ys) (nth_name i (length front) names) ≡ pos (nth_size (sizes_at names ys) i)
size_value i [] front ys h few = number_at (front ++ ys) (pos 0)
size_value i (n ∷ ns) front [] h few = absurd h
size_value zero (n ∷ ns) front (y ∷ ys) h few = let e = product-one_power front no_powers y ys none_zero (omega arith) in ap (λ k. pos n.multiple *ℤ pos k) e ∙ omega (arith, ints)
size_value (suc i) (n ∷ ns) front (y ∷ ys) h few =
    let e : front ++ y ∷ ys ≡ (front ++ y ∷ []) ++ ys = sym (append_assoc front (y ∷ []) ys) in
    let l : length (front ++ y ∷ []) ≡ suc (length front) = length-append front (y ∷ []) ∙ omega arith in
    let a = size_value i ns (front ++ y ∷ []) ys h.1 (omega arith) in
    ap (λ zs. monomial_at zs (nth_name i (suc (length front)) ns)) e ∙ ap (λ k. monomial_at ((front ++ y ∷ []) ++ ys) (nth_name i k ns)) (sym l) ∙ a

factor_value : (names : List Name) (ys : List ℕ) → Admissible names ys → length names ≤ 8 → (f : Factor) → monomial_at ys (factor_monomial names f) ≡ pos (factor_at (sizes_at names ys) f)
factor_value names ys h few (factor.Number n) = number_at ys (pos n)
factor_value names ys h few (factor.Size i) = size_value i names [] ys h (omega arith)

pub product_value : (names : List Name) (ys : List ℕ) → Admissible names ys → length names ≤ 8 → (fs : List Factor) → monomial_at ys (product_of names fs) ≡ pos (product_at (sizes_at names ys) fs)
product_value names ys h few [] = number_at ys (pos 1)
product_value names ys h few (f ∷ fs) =
    let m = factor_monomial names f in
    let r = product_of names fs in
    ap (λ n. (m.coefficient *ℤ r.coefficient) *ℤ pos n) (product-add_powers ys m.powers r.powers)
    ∙ mul_mul m.coefficient r.coefficient (product ys m.powers) (product ys r.powers)
    ∙ ap (λ z. z *ℤ monomial_at ys r) (factor_value names ys h few f)
    ∙ ap (λ z. pos (factor_at (sizes_at names ys) f) *ℤ z) (product_value names ys h few fs)
    ∙ omega (arith, ints)
