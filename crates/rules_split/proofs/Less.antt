-- What divides a length less a number.
use Rattle.std.proofs.Common.{◌≡◌, ℕ, zero, suc, ◌%◌, ◌<◌, List, [], ◌∷◌, length, ℤ, pos, negsuc, ◌+ℤ◌, ◌*ℤ◌, refl, sym, ap, ◌∙◌, subst, arith, Bool, true, false, inl, inr}
use Rattle.std.specs.Prelude.{◌&&◌, ◌⊎◌, neg_ℤ, int_rem, nat_lt, if◌then◌else◌}
use Rattle.std.proofs.lemmas.Int.{ints}
use Rattle.std.proofs.lemmas.Bool.Decides.{nat_tests}
use lib.Pointwise.{pointwise}
use lib.Dec.{eqb}
use Rattle.size_arith.specs.declared.poly.Monomial.{Monomial}
use Rattle.size_arith.specs.Polynomial.{Place, Before, Here, After, place, no_powers, is_zero, on, placed, put, minus, AllWide}
use Rattle.size_arith.proofs.Values.{place_here}
use Rattle.lift_tree.specs.Typing.{constant}
use Rattle.rules_split.specs.Tests.{divides}
use Rattle.lift_tree.proofs.Linear.{AllZero, none}

rem_zero : (k : ℕ) → 0 < k → is_zero (int_rem (pos 0) (pos k)) ≡ true
rem_zero zero h = absurd (omega arith)
rem_zero (suc k) h = let e : 0 % suc k ≡ 0 = omega arith in ap (λ z. is_zero (pos z)) e

divides-on : (k : ℕ) (c : ℤ) (ms : List ℕ) (n : List Monomial) → 0 < k → divides k (on c ms n) ≡ (is_zero (int_rem c (pos k)) && divides k n)
divides-on k (pos zero) ms n h = let e = rem_zero k h in cc
divides-on k (pos (suc c)) ms n h = refl
divides-on k (negsuc c) ms n h = refl

abbrev pick : ℕ → ℕ → Place → Place
pick m n r = if nat_lt m n then Before else (if nat_lt n m then After else r)

before : (z m : ℕ) (r : Place) → z ≡ 0 → pick z (suc m) r ≡ Before
before z m r e = grind (arith, nat_tests)

pick_first : (z m : ℕ) (r : Place) → z ≡ 0 → (r ≡ Before) ⊎ (r ≡ Here) → (pick z m r ≡ Before) ⊎ (pick z m r ≡ Here)
pick_first z zero r e o = subst (λ y. (pick y zero r ≡ Before) ⊎ (pick y zero r ≡ Here)) (sym e) o
pick_first z (suc m) r e o = inl (before z m r e)

-- no powers stand before all others
zeros_first : (zs ms : List ℕ) → AllZero zs → length ms ≡ length zs → (place zs ms ≡ Before) ⊎ (place zs ms ≡ Here)
zeros_first [] [] h e = inr refl
zeros_first [] (m ∷ ms) h e = absurd (omega arith)
zeros_first (z ∷ zs) [] h e = absurd (omega arith)
zeros_first (z ∷ zs) (m ∷ ms) h e = pick_first z m (place zs ms) h.0 (zeros_first zs ms h.1 (omega arith))

-- a difference, as one monomial added
added_less : (o : ℕ) (n : List Monomial) → minus n (constant (suc o)) ≡ put (neg_ℤ (pos (suc o))) no_powers n
added_less o n = let e : negsuc 0 *ℤ pos (suc o) ≡ neg_ℤ (pos (suc o)) = omega (arith, ints) in ap (λ z. put z no_powers n) e

nothing : (z : ℤ) → neg_ℤ (pos 0) +ℤ z ≡ z
nothing z = omega (arith, ints)

pub less_first : (k o : ℕ) (m : Monomial) (n : List Monomial) → 0 < k → m.powers ≡ no_powers → (is_zero (int_rem (neg_ℤ (pos o) +ℤ m.coefficient) (pos k)) && divides k n) ≡ divides k (minus (m ∷ n) (constant o))
less_first k zero m n h e = ap (λ z. is_zero (int_rem z (pos k)) && divides k n) (nothing m.coefficient)
less_first k (suc o) m n h e =
    sym (divides-on k (neg_ℤ (pos (suc o)) +ℤ m.coefficient) no_powers n h)
    ∙ ap (λ ks. divides k (placed (place no_powers ks) (neg_ℤ (pos (suc o))) no_powers m n (put (neg_ℤ (pos (suc o))) no_powers n))) (sym e)
    ∙ ap (divides k) (sym (added_less o (m ∷ n)))

pub less_other : (k o : ℕ) (m : Monomial) (n : List Monomial) → 0 < k → AllWide 8 (m ∷ n) → (m.powers ≡ no_powers → ⊥) → (is_zero (int_rem (neg_ℤ (pos o) +ℤ pos 0) (pos k)) && divides k (m ∷ n)) ≡ divides k (minus (m ∷ n) (constant o))
less_other k zero m n h w e = let r = rem_zero k h in ap (λ b. b && divides k (m ∷ n)) r
less_other k (suc o) m n h w e =
    let c = neg_ℤ (pos (suc o)) in
    let z : c +ℤ pos 0 ≡ c = omega (arith, ints) in
    ap (λ z. is_zero (int_rem z (pos k)) && divides k (m ∷ n)) z
    ∙ sym (divides-on k c no_powers (m ∷ n) h)
    ∙ ap (λ p. divides k (placed p c no_powers m n (put c no_powers n))) (sym first)
    ∙ ap (divides k) (sym (added_less o (m ∷ n)))
  where
    first : place no_powers m.powers ≡ Before
    first = elim (zeros_first no_powers m.powers none w.0) [ inl b ↦ b | inr b ↦ absurd (e (sym (place_here no_powers m.powers b))) ]

pub ruleset less = (less_first, less_other)

-- powers that a test found others
pub other_powers : (t : Bool) (ms : List ℕ) → t ≡ false → t ≡ pointwise eqb ms no_powers → ms ≡ no_powers → ⊥
other_powers t ms f e p =
    let g : t ≡ true = subst (λ ks. t ≡ pointwise eqb ks no_powers) p e in
    cc
