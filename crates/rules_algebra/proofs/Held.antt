-- The product of a stride's factors, as far as code can hold it, divides lengths and is
-- one exactly where the product is.
use Rattle.std.proofs.Common.{◌≡◌, ℕ, zero, suc, ◌+◌, ◌-◌, ◌*◌, ◌<◌, ◌≤◌, List, [], ◌∷◌, ◌++◌, length, drop, get_or, ℤ, pos, negsuc, ◌*ℤ◌, refl, sym, ap, ◌∙◌, subst, arith, Bool, true, false, Option, Some, None}
use Rattle.std.specs.Prelude.{map, min, ◌&&◌, ◌⊎◌, ◌↔◌, IsTrue, IsSome, IfSome, if◌then◌else◌, nat_lt, nat_eq, int_div, int_rem, unsigned_abs, slice_set}
use Rattle.std.proofs.Math.Logic.{inl, inr}
use Rattle.std.proofs.Math.Nat.{min-eq_left, min-eq_right}
use Rattle.std.proofs.lemmas.Nat.{mul-le}
use Rattle.std.proofs.lemmas.Int.{ints, unsigned_abs-mul}
use Rattle.std.proofs.lemmas.List.{append-nil, drop_more}
use Rattle.std.proofs.lemmas.Bool.{ne_eqb}
use Rattle.std.proofs.Math.Dec.{leb-zero, leb-suc-zero, leb-suc-suc}
use Rattle.size_arith.specs.declared.names.Name.{Name}
use Rattle.size_arith.specs.declared.poly.Monomial.{Monomial}
use Rattle.size_arith.specs.Polynomial.{no_powers, add_powers, less_powers, AtMost, total, degree, greatest, is_zero, on, of_monomial, IsCanonical, IsPoly, Divides, AllDivide, divided, quotient}
use Rattle.size_arith.specs.Decisions.{is_same, is_shown, all_divide}
use Rattle.size_arith.proofs.Decisions.{same_is, decides_all_divide}
use Rattle.size_arith.proofs.Finding.{on_some}
use Rattle.lift_tree.specs.declared.length.Factor.{Factor}
use Rattle.lift_tree.specs.declared.length.Factor.TheVariants as factor
use Rattle.lift_tree.specs.WorkedOut.{nth_name, factor_monomial, product_of}
use Rattle.rules_algebra.specs.Steps.{multiple_at, number_of, numbers, one, count, counts, most_number, most_power, held}
use Rattle.rules_algebra.specs.Strides.{is_divided}
use Rattle.lift_tree.proofs.Quotients.{coefficient_times, abs_some}

-- ---- numbers that stand still
le_or : (a b : ℕ) → a ≤ b ⊎ b ≤ a
le_or zero b = inl (omega arith)
le_or (suc a) zero = inr (omega arith)
le_or (suc a) (suc b) = more (le_or a b)
  where
    more : a ≤ b ⊎ b ≤ a → suc a ≤ suc b ⊎ suc b ≤ suc a
    more (inl h) = inl (omega arith)
    more (inr h) = inr (omega arith)

min_mul : (a b m : ℕ) → min (a * min b m) m ≡ min (a * b) m
min_mul zero b m = ap (λ k. min k m) (omega arith)
min_mul (suc a) b m = cases (le_or b m)
  where
    above : (c : ℕ) → m ≤ c → m ≤ suc a * c
    above c h = omega (arith, mul-le 1 c (suc a) c (omega arith) (omega arith))

    cases : b ≤ m ⊎ m ≤ b → min (suc a * min b m) m ≡ min (suc a * b) m
    cases (inl h) = ap (λ k. min (suc a * k) m) (min-eq_left h)
    cases (inr h) = ap (λ k. min (suc a * k) m) (min-eq_right h) ∙ min-eq_right (above m (omega arith)) ∙ sym (min-eq_right (above b h))

times_assoc : (a b c : ℕ) → a * (b * c) ≡ (a * b) * c
times_assoc zero b c = omega arith
times_assoc (suc a) b c = let e = times_assoc a b c in omega arith

pub next_number : (a n o m : ℕ) → min (a * min (n * o) m) m ≡ min ((a * n) * o) m
next_number a n o m = min_mul a (n * o) m ∙ ap (λ k. min k m) (times_assoc a n o)

-- one factor, and the product of those behind it
pub number_from : (names : List Name) (fs : List Factor) (i o m : ℕ) (d : Factor) → i < length fs → min (number_of names (get_or fs i d) * min (numbers names (drop (i + 1) fs) * o) m) m ≡ min (numbers names (drop i fs) * o) m
number_from names fs i o m d h =
    next_number (number_of names (get_or fs i d)) (numbers names (drop (i + 1) fs)) o m
    ∙ ap (λ gs. min (numbers names gs * o) m) (sym (drop_more fs i d h))

numbers-append : (names : List Name) (fs gs : List Factor) → numbers names (fs ++ gs) ≡ numbers names fs * numbers names gs
numbers-append names [] gs = omega arith
numbers-append names (f ∷ fs) gs = ap (λ k. number_of names f * k) (numbers-append names fs gs) ∙ times_assoc (number_of names f) (numbers names fs) (numbers names gs)

pub number_both : (names : List Name) (fs gs : List Factor) → min (numbers names fs * min (numbers names gs * 1) most_number) most_number ≡ min (numbers names (fs ++ gs)) most_number
number_both names fs gs =
    let e : numbers names gs * 1 ≡ numbers names gs = omega arith in
    ap (λ k. min (numbers names fs * min k most_number) most_number) e
    ∙ min_mul (numbers names fs) (numbers names gs) most_number
    ∙ ap (λ k. min k most_number) (sym (numbers-append names fs gs))

pub next_count : (c o x m : ℕ) → min (min (c + o) m + x) m ≡ min ((x + c) + o) m
next_count c o x m = omega arith

pub count_from : (s j : ℕ) (fs : List Factor) (i o m : ℕ) (d : Factor) → i < length fs → min (min (count s j (drop (i + 1) fs) + o) m + one s j (get_or fs i d)) m ≡ min (count s j (drop i fs) + o) m
count_from s j fs i o m d h =
    next_count (count s j (drop (i + 1) fs)) o (one s j (get_or fs i d)) m
    ∙ ap (λ gs. min (count s j gs + o) m) (sym (drop_more fs i d h))

count-append : (s j : ℕ) (fs gs : List Factor) → count s j (fs ++ gs) ≡ count s j fs + count s j gs
count-append s j [] gs = omega arith
count-append s j (f ∷ fs) gs = let e = count-append s j fs gs in omega arith

pub count_both : (s j : ℕ) (fs gs : List Factor) → min (count s j fs + min (count s j gs + 0) most_power) most_power ≡ min (count s j (fs ++ gs)) most_power
count_both s j fs gs = let e = count-append s j fs gs in omega arith

-- ---- the product by its numbers and counts
exact : List Name → List Factor → Monomial
exact names fs = record { coefficient = pos (numbers names fs); powers = counts (length names) fs }

multiples : (i before : ℕ) (names : List Name) → (nth_name i before names).coefficient ≡ pos (multiple_at names i)
multiples i before [] = refl
multiples zero before (n ∷ ns) = refl
multiples (suc i) before (n ∷ ns) = multiples i (suc before) ns

factor_number : (names : List Name) (f : Factor) → (factor_monomial names f).coefficient ≡ pos (number_of names f)
factor_number names (factor.Number n) = refl
factor_number names (factor.Size i) = multiples i 0 names

coefficient_is : (names : List Name) (fs : List Factor) → (product_of names fs).coefficient ≡ pos (numbers names fs)
coefficient_is names [] = refl
coefficient_is names (f ∷ fs) =
    ap (λ z. z *ℤ (product_of names fs).coefficient) (factor_number names f)
    ∙ ap (λ z. pos (number_of names f) *ℤ z) (coefficient_is names fs)
    ∙ omega (arith, ints)

ones : ℕ → Factor → List ℕ
ones s f = one s 0 f ∷ one s 1 f ∷ one s 2 f ∷ one s 3 f ∷ one s 4 f ∷ one s 5 f ∷ one s 6 f ∷ one s 7 f ∷ []

set_or_none : Bool → ℕ → List ℕ
set_or_none b i = if b then slice_set no_powers i 1 else no_powers

lt_none : (i : ℕ) → nat_lt i zero ≡ false
lt_none i = leb-suc-zero i

lt_first : (n : ℕ) → nat_lt zero (suc n) ≡ true
lt_first n = leb-suc-suc zero n ∙ leb-zero n

lt_next : (i n : ℕ) → nat_lt (suc i) (suc n) ≡ nat_lt i n
lt_next i n = leb-suc-suc (suc i) n

name_powers : (i before : ℕ) (names : List Name) → (nth_name i before names).powers ≡ set_or_none (nat_lt i (length names)) (i + before)
unfolding set_or_none
name_powers i before [] = ap (λ b. set_or_none b (i + before)) (sym (lt_none i))
name_powers zero before (n ∷ ns) =
    let e : before ≡ 0 + before = omega arith in
    ap (λ k. slice_set no_powers k 1) e ∙ ap (λ b. set_or_none b (0 + before)) (sym (lt_first (length ns)))
name_powers (suc i) before (n ∷ ns) =
    let e : i + suc before ≡ suc i + before = omega arith in
    name_powers i (suc before) ns
    ∙ ap (set_or_none (nat_lt i (length ns))) e
    ∙ ap (λ b. set_or_none b (suc i + before)) (sym (lt_next i (length ns)))

-- another number is no unit
far : (n j : ℕ) → j < n → ◌≡◌ {A = ℕ} (if true && nat_eq n j then 1 else 0) 0
far n j h = ap (λ b. if b then 1 else 0) (ne_eqb n j (λ e. omega arith))

unit_powers : (b : Bool) (i : ℕ) → set_or_none b i
    ≡ (if b && nat_eq i 0 then 1 else 0) ∷ (if b && nat_eq i 1 then 1 else 0) ∷ (if b && nat_eq i 2 then 1 else 0) ∷ (if b && nat_eq i 3 then 1 else 0)
    ∷ (if b && nat_eq i 4 then 1 else 0) ∷ (if b && nat_eq i 5 then 1 else 0) ∷ (if b && nat_eq i 6 then 1 else 0) ∷ (if b && nat_eq i 7 then 1 else 0) ∷ []
unfolding set_or_none
unit_powers false i = refl
unit_powers true zero = refl
unit_powers true (suc zero) = refl
unit_powers true (suc (suc zero)) = refl
unit_powers true (suc (suc (suc zero))) = refl
unit_powers true (suc (suc (suc (suc zero)))) = refl
unit_powers true (suc (suc (suc (suc (suc zero))))) = refl
unit_powers true (suc (suc (suc (suc (suc (suc zero)))))) = refl
unit_powers true (suc (suc (suc (suc (suc (suc (suc zero))))))) = refl
unit_powers true (suc (suc (suc (suc (suc (suc (suc (suc i)))))))) =
    let n = suc (suc (suc (suc (suc (suc (suc (suc i))))))) in
    let a = far n 0 (omega arith) in
    let b = far n 1 (omega arith) in
    let c = far n 2 (omega arith) in
    let d = far n 3 (omega arith) in
    let e = far n 4 (omega arith) in
    let f = far n 5 (omega arith) in
    let g = far n 6 (omega arith) in
    let h = far n 7 (omega arith) in
    cc

factor_powers : (names : List Name) (f : Factor) → (factor_monomial names f).powers ≡ ones (length names) f
unfolding ones
factor_powers names (factor.Number n) = refl
factor_powers names (factor.Size i) =
    let e : i + 0 ≡ i = omega arith in
    name_powers i 0 names ∙ ap (set_or_none (nat_lt i (length names))) e ∙ unit_powers (nat_lt i (length names)) i

powers_are : (names : List Name) (fs : List Factor) → (product_of names fs).powers ≡ counts (length names) fs
unfolding ones
powers_are names [] = refl
powers_are names (f ∷ fs) =
    ap (λ ms. add_powers ms (product_of names fs).powers) (factor_powers names f)
    ∙ ap (λ ms. add_powers (ones (length names) f) ms) (powers_are names fs)

product_is : (names : List Name) (fs : List Factor) → product_of names fs ≡ exact names fs
unfolding exact
product_is names fs =
    let a = coefficient_is names fs in
    let b = powers_are names fs in
    λ i. record { coefficient = a i; powers = b i }

-- ---- a monomial of a length
record IsInside (m : Monomial) : Type 0 where
  some : is_zero m.coefficient ≡ false
  small : unsigned_abs m.coefficient ≤ 4294967296
  low : total m.powers ≤ 4

abbrev AllInside : List Monomial → Type 0
AllInside [] = Unit {0}
AllInside (m ∷ p) = IsInside m × AllInside p

all_inside : (p : List Monomial) → IsCanonical p → degree p ≤ 4 → greatest p ≤ 4294967296 → AllInside p
all_inside [] c d g = tt
all_inside (m ∷ p) c d g = (record { some = c.0; small = omega arith; low = omega arith }, all_inside p c.2 (omega arith) (omega arith))

inside : (p : List Monomial) → IsPoly p → AllInside p
inside p h = all_inside p h.canonical h.degree h.coefficients

cap : ℕ → ℕ
cap k = min k most_power

-- ---- what divides it is no greater
no_greater : (d m : Monomial) (c : ℕ) → d.coefficient ≡ pos c → IsInside m → Divides d m → c ≤ 4294967296
no_greater d m c e i h =
    let q = int_div m.coefficient d.coefficient in
    let f : pos c *ℤ q ≡ m.coefficient = ap (λ z. z *ℤ q) (sym e) ∙ coefficient_times d m h in
    let a : unsigned_abs (pos c *ℤ q) ≡ unsigned_abs m.coefficient = ap unsigned_abs f in
    let b = unsigned_abs-mul (pos c) q in
    let s = abs_some m.coefficient i.some in
    let t = i.small in
    within c (unsigned_abs q) (unsigned_abs m.coefficient) (sym b ∙ a) s t
  where
    within : (c k n : ℕ) → c * k ≡ n → 1 ≤ n → n ≤ 4294967296 → c ≤ 4294967296
    within c zero n e s t = absurd (omega arith)
    within c (suc k) n e s t = let g = mul-le c 1 c (suc k) (omega arith) (omega arith) in omega arith

most_capped : (ks ms : List ℕ) → total ms ≤ 4 → AtMost ks ms → AtMost (map cap ks) ms
unfolding cap
most_capped [] ms t h = tt
most_capped (k ∷ ks) [] t h = absurd h
most_capped (k ∷ ks) (m ∷ ms) t h = let a = h.0 in (omega arith, most_capped ks ms (omega arith) h.1)

most_uncapped : (ks ms : List ℕ) → total ms ≤ 4 → AtMost (map cap ks) ms → AtMost ks ms
unfolding cap
most_uncapped [] ms t h = tt
most_uncapped (k ∷ ks) [] t h = absurd h
most_uncapped (k ∷ ks) (m ∷ ms) t h = let a = h.0 in (omega arith, most_uncapped ks ms (omega arith) h.1)

less_capped : (ms ks : List ℕ) → total ms ≤ 4 → less_powers ms (map cap ks) ≡ less_powers ms ks
unfolding cap
less_capped [] ks t = refl
less_capped (m ∷ ms) [] t = refl
less_capped (m ∷ ms) (k ∷ ks) t = let e : m - min k most_power ≡ m - k = omega arith in let r = less_capped ms ks (omega arith) in cc

-- the monomial of these numbers, and what is held of it
whole : ℕ → List ℕ → Monomial
whole n ks = record { coefficient = pos n; powers = ks }

part : ℕ → List ℕ → Monomial
unfolding cap
part n ks = record { coefficient = pos (min n most_number); powers = map cap ks }

same_number : (n : ℕ) → min n most_number ≤ 4294967296 → min n most_number ≡ n
same_number n h = omega arith

divides_part : (n : ℕ) (ks : List ℕ) (m : Monomial) → IsInside m → Divides (whole n ks) m → Divides (part n ks) m
unfolding whole part
divides_part n ks m i h =
    let small = no_greater (whole n ks) m n refl i h in
    let e : min n most_number ≡ n = omega arith in
    record {
      divisor = ap (λ k. is_zero (pos k)) e ∙ h.divisor;
      coefficient = ap (λ k. int_rem m.coefficient (pos k)) e ∙ h.coefficient;
      powers = most_capped ks m.powers i.low h.powers;
    }

divides_whole : (n : ℕ) (ks : List ℕ) (m : Monomial) → IsInside m → Divides (part n ks) m → Divides (whole n ks) m
unfolding whole part
divides_whole n ks m i h =
    let small = no_greater (part n ks) m (min n most_number) refl i h in
    let e : n ≡ min n most_number = omega arith in
    record {
      divisor = ap (λ k. is_zero (pos k)) e ∙ h.divisor;
      coefficient = ap (λ k. int_rem m.coefficient (pos k)) e ∙ h.coefficient;
      powers = most_uncapped ks m.powers i.low h.powers;
    }

all_part : (n : ℕ) (ks : List ℕ) (p : List Monomial) → AllInside p → AllDivide (whole n ks) p → AllDivide (part n ks) p
all_part n ks [] i h = tt
all_part n ks (m ∷ p) i h = (divides_part n ks m i.0 h.0, all_part n ks p i.1 h.1)

all_whole : (n : ℕ) (ks : List ℕ) (p : List Monomial) → AllInside p → AllDivide (part n ks) p → AllDivide (whole n ks) p
all_whole n ks [] i h = tt
all_whole n ks (m ∷ p) i h = (divides_whole n ks m i.0 h.0, all_whole n ks p i.1 h.1)

same_quotient : (n : ℕ) (ks : List ℕ) (p : List Monomial) → AllInside p → AllDivide (part n ks) p → quotient (part n ks) p ≡ quotient (whole n ks) p
unfolding whole part
same_quotient n ks [] i h = refl
same_quotient n ks (m ∷ p) i h =
    let small = no_greater (part n ks) m (min n most_number) refl i.0 h.0 in
    let e : min n most_number ≡ n = omega arith in
    let a : int_div m.coefficient (pos (min n most_number)) ≡ int_div m.coefficient (pos n) = ap (λ k. int_div m.coefficient (pos k)) e in
    let b : less_powers m.powers (map cap ks) ≡ less_powers m.powers ks = less_capped m.powers ks i.0.low in
    let first : divided (part n ks) m ≡ divided (whole n ks) m = λ j. record { coefficient = a j; powers = b j } in
    let rest = same_quotient n ks p i.1 h.1 in
    ap (λ v. v ∷ quotient (part n ks) p) first ∙ ap (λ r. divided (whole n ks) m ∷ r) rest

-- ---- a length divided
pub nothing_more : (names : List Name) (fs : List Factor) → held names (fs ++ []) ≡ held names fs
nothing_more names fs = ap (held names) (append-nil fs)

of_exact : (names : List Name) (fs : List Factor) → product_of names fs ≡ whole (numbers names fs) (counts (length names) fs)
unfolding exact whole
of_exact names fs = product_is names fs

of_held : (names : List Name) (fs : List Factor) → held names fs ≡ part (numbers names fs) (counts (length names) fs)
unfolding part cap
of_held names fs = refl

and_true : (b c : Bool) → IsTrue b → c ≡ (b && c)
and_true true c h = refl
and_true false c h = absurd (cc)

and_false : (b c : Bool) → (IsTrue b → ⊥) → false ≡ (b && c)
and_false true c h = absurd (h refl)
and_false false c h = refl

-- where what is held divides the length, the quotient is the product's
pub divided_some : (names : List Name) (fs : List Factor) (n q : List Monomial) → IsPoly n → AllDivide (held names fs) n → q ≡ quotient (held names fs) n → is_shown 1 names q ≡ is_divided names (product_of names fs) n
divided_some names fs n q poly h e =
    let k = numbers names fs in
    let ks = counts (length names) fs in
    let i = inside n poly in
    let g : AllDivide (part k ks) n = subst (λ d. AllDivide d n) (of_held names fs) h in
    let a : AllDivide (product_of names fs) n = subst (λ d. AllDivide d n) (sym (of_exact names fs)) (all_whole k ks n i g) in
    let same : q ≡ quotient (product_of names fs) n = e ∙ ap (λ d. quotient d n) (of_held names fs) ∙ same_quotient k ks n i g ∙ ap (λ d. quotient d n) (sym (of_exact names fs)) in
    ap (is_shown 1 names) same
    ∙ and_true (all_divide (product_of names fs) n) (is_shown 1 names (quotient (product_of names fs) n)) ((decides_all_divide (product_of names fs) n).1 a)

pub divided_none : (names : List Name) (fs : List Factor) (n : List Monomial) → IsPoly n → (AllDivide (held names fs) n → ⊥) → false ≡ is_divided names (product_of names fs) n
divided_none names fs n poly h =
    let k = numbers names fs in
    let ks = counts (length names) fs in
    and_false (all_divide (product_of names fs) n) (is_shown 1 names (quotient (product_of names fs) n))
    (λ t.
    let a : AllDivide (whole k ks) n = subst (λ d. AllDivide d n) (of_exact names fs) ((decides_all_divide (product_of names fs) n).0 t) in
    h (subst (λ d. AllDivide d n) (sym (of_held names fs)) (all_part k ks n (inside n poly) a)))

pub divided_is : (names : List Name) (fs : List Factor) (n : List Monomial) (q : Option (List Monomial)) → IsPoly n → (IsSome q ↔ AllDivide (held names fs) n) → IfSome q (λ r. r ≡ quotient (held names fs) n)
    → IfSome q (λ r. is_shown 1 names r ≡ is_divided names (product_of names fs) n)
divided_is names fs n (Some r) poly h e = divided_some names fs n r poly (h.0 refl) e
divided_is names fs n None poly h e = tt

pub ruleset divisions = (divided_some, divided_none)

-- ---- a length that is the product
pub none_same : (m : Monomial) → (m.coefficient ≡ pos 0) ↔ (of_monomial m ≡ [])
none_same m = go m.coefficient m.powers
  where
    go : (c : ℤ) (ks : List ℕ) → (c ≡ pos 0) ↔ (on c ks [] ≡ [])
    go (pos zero) ks = (λ e. refl, λ e. refl)
    go (pos (suc n)) ks = (λ e. absurd (cc), λ e. absurd (cc))
    go (negsuc n) ks = (λ e. absurd (cc), λ e. absurd (cc))

some_number : (z : ℤ) → ((z ≡ pos 0) → ⊥) → is_zero z ≡ false
some_number (pos zero) h = absurd (h refl)
some_number (pos (suc n)) h = refl
some_number (negsuc n) h = refl

pub one_same : (m x : Monomial) (rest : List Monomial) → ((rest ≡ []) × ((m.coefficient ≡ pos 0) → ⊥) × (x ≡ m)) ↔ (of_monomial m ≡ x ∷ rest)
one_same m x rest = (there m, back m.coefficient m.powers)
  where
    there : (m : Monomial) → (rest ≡ []) × ((m.coefficient ≡ pos 0) → ⊥) × (x ≡ m) → of_monomial m ≡ x ∷ rest
    there m h =
        let e : is_zero m.coefficient ≡ false = some_number m.coefficient h.1 in
        on_some m.coefficient m.powers [] e ∙ ap (λ y. y ∷ []) (sym h.2) ∙ ap (λ ys. x ∷ ys) (sym h.0)

    back : (c : ℤ) (ks : List ℕ) → on c ks [] ≡ x ∷ rest → (rest ≡ []) × ((c ≡ pos 0) → ⊥) × (x ≡ record { coefficient = c; powers = ks })
    back (pos zero) ks e = absurd (cc)
    back (pos (suc n)) ks e = (cc, (λ f. absurd (cc)), cc)
    back (negsuc n) ks e = (cc, (λ f. absurd (cc)), cc)

pub ruleset alone = (none_same, one_same)

total_capped : (ks : List ℕ) → total (map cap ks) ≤ 4 → map cap ks ≡ ks
unfolding cap
total_capped [] t = refl
total_capped (k ∷ ks) t = let e : min k most_power ≡ k = omega arith in let r = total_capped ks (omega arith) in cc

total_whole : (ks : List ℕ) → total ks ≤ 4 → map cap ks ≡ ks
unfolding cap
total_whole [] t = refl
total_whole (k ∷ ks) t = let e : min k most_power ≡ k = omega arith in let r = total_whole ks (omega arith) in cc

-- what is within the limits is held whole
held_whole : (n : ℕ) (ks : List ℕ) → n ≤ 4294967296 → total ks ≤ 4 → part n ks ≡ whole n ks
unfolding part whole
held_whole n ks h t =
    let e : min n most_number ≡ n = omega arith in
    let r = total_whole ks t in
    λ j. record { coefficient = pos (e j); powers = r j }

part_whole : (n : ℕ) (ks : List ℕ) → min n most_number ≤ 4294967296 → total (map cap ks) ≤ 4 → part n ks ≡ whole n ks
unfolding part whole
part_whole n ks h t =
    let e : min n most_number ≡ n = omega arith in
    let r = total_capped ks t in
    λ j. record { coefficient = pos (e j); powers = r j }

-- one monomial that is a polynomial
alone_inside : (c : ℕ) (ks : List ℕ) (n : List Monomial) → IsPoly n → of_monomial (whole c ks) ≡ n → (c ≡ 0) ⊎ ((c ≤ 4294967296) × (total ks ≤ 4))
unfolding whole
alone_inside zero ks n poly e = inl refl
alone_inside (suc c) ks n poly e =
    let i = subst AllInside (sym e) (inside n poly) in
    inr (i.0.small, i.0.low)

part_zero : (ks : List ℕ) → of_monomial (part 0 ks) ≡ of_monomial (whole 0 ks)
unfolding part whole
part_zero ks = refl

same_alone : (c : ℕ) (ks : List ℕ) (n : List Monomial) → IsPoly n → (of_monomial (part c ks) ≡ n) ↔ (of_monomial (whole c ks) ≡ n)
unfolding part whole
same_alone c ks n poly = (
  (λ e. from (alone_inside (min c most_number) (map cap ks) n poly e) e),
  (λ e. to (alone_inside c ks n poly e) e),
)
  where
    from : (min c most_number ≡ 0) ⊎ ((min c most_number ≤ 4294967296) × (total (map cap ks) ≤ 4)) → of_monomial (part c ks) ≡ n → of_monomial (whole c ks) ≡ n
    from (inl z) e =
        let f : c ≡ 0 = omega arith in
        ap (λ k. of_monomial (whole k ks)) f ∙ sym (part_zero ks) ∙ ap (λ k. of_monomial (part k ks)) (sym f) ∙ e
    from (inr h) e = ap of_monomial (sym (part_whole c ks h.0 h.1)) ∙ e

    to : (c ≡ 0) ⊎ ((c ≤ 4294967296) × (total ks ≤ 4)) → of_monomial (whole c ks) ≡ n → of_monomial (part c ks) ≡ n
    to (inl z) e = ap (λ k. of_monomial (part k ks)) z ∙ part_zero ks ∙ ap (λ k. of_monomial (whole k ks)) (sym z) ∙ e
    to (inr h) e = ap of_monomial (held_whole c ks h.0 h.1) ∙ e

pub product_same : (names : List Name) (fs : List Factor) (n : List Monomial) (b : Bool) → IsPoly n → (IsTrue b ↔ (of_monomial (held names fs) ≡ n)) → b ≡ is_same (of_monomial (product_of names fs)) n
product_same names fs n b poly h =
    let s = same_alone (numbers names fs) (counts (length names) fs) n poly in
    let p = of_exact names fs in
    let q = of_held names fs in
    same_is b (of_monomial (product_of names fs)) n (
      (λ t. ap of_monomial p ∙ s.0 (ap of_monomial (sym q) ∙ h.0 t)),
      (λ e. h.1 (ap of_monomial q ∙ s.1 (ap of_monomial (sym p) ∙ e))),
    )
