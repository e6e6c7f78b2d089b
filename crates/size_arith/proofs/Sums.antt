-- The maps of sums and differences.
use Rattle.std.proofs.Common.{◌≡◌, ℕ, zero, suc, List, [], ◌∷◌, length, ℤ, pos, negsuc, ◌+ℤ◌, ◌-ℤ◌, ◌*ℤ◌, zero-add, refl, ap, arith}
use Rattle.std.proofs.lemmas.Int.{ints}
use Rattle.size_arith.specs.declared.poly.Monomial.{Monomial}
use Rattle.size_arith.specs.Polynomial.{no_powers, add_powers, Place, Before, Here, After, place, number, added, plus, minus, hit, coefficient, AllWide}
use Rattle.size_arith.proofs.Integers.{mul_add}
use Rattle.size_arith.proofs.Maps.{coefficient-put}

abbrev zeros : ℕ → List ℕ
zeros zero = []
zeros (suc n) = 0 ∷ zeros n

zeros_add : (n : ℕ) (ms : List ℕ) → length ms ≡ n → add_powers (zeros n) ms ≡ ms
zeros_add zero ms e = refl
zeros_add (suc n) [] e = absurd (omega arith)
zeros_add (suc n) (m ∷ ms) e = let ih = zeros_add n ms (omega arith) in rw (zero-add, ih) refl

hit_scaled : (by : ℤ) (p : Place) (c : ℤ) → hit p (by *ℤ c) ≡ by *ℤ hit p c
hit_scaled by Before c = omega (arith, ints)
hit_scaled by Here c = refl
hit_scaled by After c = omega (arith, ints)

coefficient-added : (by : ℤ) (q p : List Monomial) (ms : List ℕ) → AllWide 8 q → coefficient (added (number by) q p) ms ≡ (by *ℤ coefficient q ms) +ℤ coefficient p ms
coefficient-added by [] p ms h = omega (arith, ints)
coefficient-added by (m ∷ q) p ms h =
    let a = coefficient-put (by *ℤ m.coefficient) (add_powers no_powers m.powers) ms (added (number by) q p) in
    let b = ap (λ (ks : List ℕ). hit (place ms ks) (by *ℤ m.coefficient)) (zeros_add 8 m.powers h.0) in
    let d = hit_scaled by (place ms m.powers) m.coefficient in
    let e = mul_add by (hit (place ms m.powers) m.coefficient) (coefficient q ms) in
    omega (arith, ints, coefficient-added by q p ms h.1)

pub coefficient-plus : (p q : List Monomial) (ms : List ℕ) → AllWide 8 q → coefficient (plus p q) ms ≡ coefficient p ms +ℤ coefficient q ms
coefficient-plus p q ms h = omega (arith, ints, coefficient-added (pos 1) q p ms h)

pub coefficient-minus : (p q : List Monomial) (ms : List ℕ) → AllWide 8 q → coefficient (minus p q) ms ≡ coefficient p ms -ℤ coefficient q ms
coefficient-minus p q ms h = omega (arith, ints, coefficient-added (negsuc 0) q p ms h)
