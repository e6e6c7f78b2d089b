-- A length split by a monomial and joined again, and the other way.
use Rattle.std.proofs.Common.{◌≡◌, ℕ, zero, suc, ◌+◌, ◌-◌, ◌*◌, ◌<◌, ◌≤◌, false, List, [], ◌∷◌, length, ℤ, pos, negsuc, ◌*ℤ◌, refl, sym, ap, ◌∙◌, subst, arith}
use Rattle.std.specs.Prelude.{map, nat_lt, unsigned_abs, int_div, neg_ℤ, if◌then◌else◌}
use Rattle.std.proofs.lemmas.Nat.{mul-le}
use Rattle.std.proofs.lemmas.Int.{ints, quot-rem, unsigned_abs-mul}
use Rattle.std.proofs.lemmas.Bool.Decides.{nat_tests}
use Rattle.std.proofs.Math.IntN.{*ℤ_comm}
use Rattle.std.proofs.Math.ListN.{length-set}
use Rattle.size_arith.specs.declared.names.Name.{Name}
use Rattle.size_arith.specs.declared.poly.Monomial.{Monomial}
use Rattle.size_arith.specs.Polynomial.{number, no_powers, add_powers, less_powers, Place, Before, Here, After, place, is_zero, on, placed, put, added, of_monomial, times, AllAfter, IsCanonical, AllWide, IsPoly, Divides, AllDivide, divided, quotient}
use Rattle.size_arith.specs.Ranges.{leasts}
use Rattle.size_arith.specs.Shown.{share, part, ShownAtLeast}
use Rattle.size_arith.proofs.Integers.{cancel}
use Rattle.size_arith.proofs.Finding.{on_some}
use Rattle.size_arith.proofs.Maps.{place_same}
use Rattle.size_arith.proofs.Values.{AllZero}
use Rattle.size_arith.proofs.Quotients.{quotient_times}
use Rattle.lift_tree.specs.declared.length.Factor.{Factor}
use Rattle.lift_tree.specs.declared.length.Factor.TheVariants as factor
use Rattle.lift_tree.specs.WorkedOut.{nth_name, factor_monomial, product_of}

-- ---- the monomial of a split
pub record IsFactor (m : Monomial) : Type 0 where
  pub count : ℕ
  pub is : m.coefficient ≡ pos count
  pub wide : length m.powers ≡ 8

named : (names : List Name) (i before : ℕ) → IsFactor (nth_name i before names)
named [] i before = record { count = 0; is = refl; wide = refl }
named (n ∷ ns) zero before = record { count = n.multiple; is = refl; wide = length-set no_powers before 1 }
named (n ∷ ns) (suc i) before = named ns i (suc before)

a_factor : (names : List Name) (f : Factor) → IsFactor (factor_monomial names f)
a_factor names (factor.Number n) = record { count = n; is = refl; wide = refl }
a_factor names (factor.Size i) = named names i 0

length-add : (ms ns : List ℕ) → length ms ≡ length ns → length (add_powers ms ns) ≡ length ns
length-add [] ns e = refl
length-add (m ∷ ms) [] e = e
length-add (m ∷ ms) (n ∷ ns) e = ap suc (length-add ms ns (omega arith))

pub a_product : (names : List Name) (fs : List Factor) → IsFactor (product_of names fs)
a_product names [] = record { count = 1; is = refl; wide = refl }
a_product names (f ∷ fs) =
    let a = a_factor names f in
    let b = a_product names fs in
    let x = a.is in
    let y = b.is in
    record {
      count = a.count * b.count;
      is = ap (λ z. z *ℤ (product_of names fs).coefficient) x ∙ ap (λ z. pos a.count *ℤ z) y ∙ omega (arith, ints);
      wide = length-add (factor_monomial names f).powers (product_of names fs).powers (a.wide ∙ sym b.wide) ∙ b.wide;
    }

-- what is shown at least 1 isn't 0
part_none : (ls ms : List ℕ) → AllZero ms → part ls ms (map (λ l. 0) ls) ≡ 1
part_none [] ms a = refl
part_none (l ∷ ls) [] a = let e = part_none ls [] tt in omega arith
part_none (l ∷ ls) (m ∷ ms) a =
    let e = part_none ls ms a.1 in
    let f : share l m 0 ≡ 1 = ap (λ k. share l k 0) a.0 in
    omega (arith, ap (λ k. k * part ls ms (map (λ l. 0) ls)) f)

length-none : (ls : List ℕ) → length {A = ℕ} (map (λ l. 0) ls) ≡ length ls
length-none [] = refl
length-none (l ∷ ls) = ap suc (length-none ls)

pub none_shown : (names : List Name) → ShownAtLeast 1 names [] → ⊥
none_shown names h =
    let ls = leasts names in
    let a = h (map (λ l. 0) ls) (length-none ls) in
    let e = part_none ls no_powers (refl, (refl, (refl, (refl, (refl, (refl, (refl, (refl, tt)))))))) in
    let f = ap (λ n. neg_ℤ (pos 1) *ℤ pos n) e in
    omega (arith, ints)

pub not_zero : (names : List Name) (m : Monomial) → ShownAtLeast 1 names (of_monomial m) → is_zero m.coefficient ≡ false
not_zero names m h = go m.coefficient m.powers h
  where
    go : (c : ℤ) (ms : List ℕ) → ShownAtLeast 1 names (on c ms []) → is_zero c ≡ false
    go (pos zero) ms h = absurd (none_shown names h)
    go (pos (suc c)) ms h = refl
    go (negsuc c) ms h = refl

-- ---- a product with a monomial
add_comm : (ms ns : List ℕ) → add_powers ms ns ≡ add_powers ns ms
add_comm [] [] = refl
add_comm [] (n ∷ ns) = refl
add_comm (m ∷ ms) [] = refl
add_comm (m ∷ ms) (n ∷ ns) = let e : m + n ≡ n + m = omega arith in let d = add_comm ms ns in cc

times-monomial : (m : Monomial) (q : List Monomial) → is_zero m.coefficient ≡ false → times q (of_monomial m) ≡ added m q []
times-monomial m q z = ap (times q) (on_some m.coefficient m.powers [] z) ∙ go q
  where
    go : (q : List Monomial) → times q (m ∷ []) ≡ added m q []
    go [] = refl
    go (x ∷ q) =
        ap (put (x.coefficient *ℤ m.coefficient) (add_powers x.powers m.powers)) (go q)
        ∙ ap (λ c. put c (add_powers x.powers m.powers) (added m q [])) (*ℤ_comm x.coefficient m.coefficient)
        ∙ ap (λ ps. put (m.coefficient *ℤ x.coefficient) ps (added m q [])) (add_comm x.powers m.powers)

pub quotient_joined : (m : Monomial) (n : List Monomial) → is_zero m.coefficient ≡ false → IsCanonical n → AllDivide m n → times (quotient m n) (of_monomial m) ≡ n
quotient_joined m n z c h = times-monomial m (quotient m n) z ∙ quotient_times m n c h

-- ---- the product as a list
abbrev scaled : Monomial → List Monomial → List Monomial
scaled m [] = []
scaled m (x ∷ q) = record { coefficient = m.coefficient *ℤ x.coefficient; powers = add_powers m.powers x.powers } ∷ scaled m q

place_add : (ms a b : List ℕ) → length a ≡ length b → place (add_powers ms a) (add_powers ms b) ≡ place a b
place_add [] a b e = refl
place_add (m ∷ ms) [] [] e = place_same (m ∷ ms)
place_add (m ∷ ms) [] (y ∷ b) e = absurd (omega arith)
place_add (m ∷ ms) (x ∷ a) [] e = absurd (omega arith)
place_add (m ∷ ms) (x ∷ a) (y ∷ b) e = let r = place_add ms a b (omega arith) in step m x y (place (add_powers ms a) (add_powers ms b)) (place a b) r
  where
    step : (m x y : ℕ) (p q : Place) → p ≡ q → (if nat_lt (m + x) (m + y) then Before else (if nat_lt (m + y) (m + x) then After else p)) ≡ (if nat_lt x y then Before else (if nat_lt y x then After else q))
    step m x y p q e = grind (arith, nat_tests)

after_scaled : (m : Monomial) (ms : List ℕ) (q : List Monomial) → length ms ≡ 8 → AllWide 8 q → AllAfter ms q → AllAfter (add_powers m.powers ms) (scaled m q)
after_scaled m ms [] w h a = tt
after_scaled m ms (x ∷ q) w h a = (place_add m.powers ms x.powers (w ∙ sym h.0) ∙ a.0, after_scaled m ms q w h.1 a.1)

pub abs_some : (z : ℤ) → is_zero z ≡ false → 1 ≤ unsigned_abs z
abs_some (pos zero) h = cc
abs_some (pos (suc n)) h = omega arith
abs_some (negsuc n) h = omega arith

some_abs : (z : ℤ) → 1 ≤ unsigned_abs z → is_zero z ≡ false
some_abs (pos zero) h = absurd (omega arith)
some_abs (pos (suc n)) h = refl
some_abs (negsuc n) h = refl

product_some : (a b : ℤ) → is_zero a ≡ false → is_zero b ≡ false → is_zero (a *ℤ b) ≡ false
product_some a b p q =
    let e = unsigned_abs-mul a b in
    let f = mul-le 1 1 (unsigned_abs a) (unsigned_abs b) (abs_some a p) (abs_some b q) in
    some_abs (a *ℤ b) (omega arith)

put_front : (c : ℤ) (ms : List ℕ) (p : List Monomial) → is_zero c ≡ false → AllAfter ms p → put c ms p ≡ record { coefficient = c; powers = ms } ∷ p
put_front c ms [] z a = on_some c ms [] z
put_front c ms (x ∷ p) z a = at (place ms x.powers) a.0
  where
    at : (q : Place) → q ≡ Before → placed q c ms x p (put c ms p) ≡ record { coefficient = c; powers = ms } ∷ x ∷ p
    at Before e = on_some c ms (x ∷ p) z
    at Here e = cc
    at After e = cc

added_scaled : (m : Monomial) (q : List Monomial) → is_zero m.coefficient ≡ false → IsCanonical q → AllWide 8 q → added m q [] ≡ scaled m q
added_scaled m [] z c w = refl
added_scaled m (x ∷ q) z c w =
    ap (put (m.coefficient *ℤ x.coefficient) (add_powers m.powers x.powers)) (added_scaled m q z c.2 w.1)
    ∙ put_front (m.coefficient *ℤ x.coefficient) (add_powers m.powers x.powers) (scaled m q) (product_some m.coefficient x.coefficient z c.0) (after_scaled m x.powers q w.0 w.1 c.1)

-- ---- and divided again
less_add : (ms ns : List ℕ) → length ms ≡ length ns → less_powers (add_powers ms ns) ms ≡ ns
less_add [] [] e = refl
less_add [] (n ∷ ns) e = absurd (omega arith)
less_add (m ∷ ms) [] e = absurd (omega arith)
less_add (m ∷ ms) (n ∷ ns) e = let f : m + n - m ≡ n = omega arith in let r = less_add ms ns (omega arith) in cc

quotient_is : (c : ℕ) (d x : ℤ) → d ≡ pos c → 0 < c → (n : ℤ) → n ≡ d *ℤ x → d *ℤ int_div n d ≡ n → int_div n d ≡ x
quotient_is c d x e some n f h = cancel c (int_div n d) x some (ap (λ z. z *ℤ int_div n d) (sym e) ∙ h ∙ f ∙ ap (λ z. z *ℤ x) e)

pub coefficient_times : (d m : Monomial) → Divides d m → d.coefficient *ℤ int_div m.coefficient d.coefficient ≡ m.coefficient
coefficient_times d m h =
    let q = quot-rem m.coefficient d.coefficient in
    let r = h.coefficient in
    let c = *ℤ_comm (int_div m.coefficient d.coefficient) d.coefficient in
    omega (arith, ints)

some_count : (c : ℕ) (z : ℤ) → z ≡ pos c → is_zero z ≡ false → 0 < c
some_count zero z e h = let f = ap is_zero e in cc
some_count (suc c) z e h = omega arith

quotient-scaled : (m : Monomial) (q : List Monomial) → IsFactor m → is_zero m.coefficient ≡ false → AllWide 8 q → AllDivide m (scaled m q) → quotient m (scaled m q) ≡ q
quotient-scaled m [] f z w h = refl
quotient-scaled m (x ∷ q) f z w h =
    let y : Monomial = record { coefficient = m.coefficient *ℤ x.coefficient; powers = add_powers m.powers x.powers } in
    let a = quotient_is f.count m.coefficient x.coefficient f.is (some_count f.count m.coefficient f.is z) y.coefficient refl (coefficient_times m y h.0) in
    let b = less_add m.powers x.powers (f.wide ∙ sym w.0) in
    let e : divided m y ≡ x = λ i. record { coefficient = a i; powers = b i } in
    ap (λ v. v ∷ quotient m (scaled m q)) e ∙ ap (λ r. x ∷ r) (quotient-scaled m q f z w.1 h.1)

pub joined_quotient : (names : List Name) (fs : List Factor) (n : List Monomial) → is_zero (product_of names fs).coefficient ≡ false → IsPoly n
    → AllDivide (product_of names fs) (times n (of_monomial (product_of names fs))) → quotient (product_of names fs) (times n (of_monomial (product_of names fs))) ≡ n
joined_quotient names fs n z p h =
    let m = product_of names fs in
    let e : times n (of_monomial m) ≡ scaled m n = times-monomial m n z ∙ added_scaled m n z p.canonical p.wide in
    ap (quotient m) e ∙ quotient-scaled m n (a_product names fs) z p.wide (subst (AllDivide m) e h)

-- so many times a number, and divided by it again
pub number_quotient : (k : ℕ) (n : List Monomial) → 0 < k → IsPoly n → AllDivide (number (pos k)) (times n (of_monomial (number (pos k)))) → quotient (number (pos k)) (times n (of_monomial (number (pos k)))) ≡ n
number_quotient zero n some p h = absurd (omega arith)
number_quotient (suc k) n some p h =
    let m = number (pos (suc k)) in
    let f : IsFactor m = record { count = suc k; is = refl; wide = refl } in
    let e : times n (of_monomial m) ≡ scaled m n = times-monomial m n refl ∙ added_scaled m n refl p.canonical p.wide in
    ap (quotient m) e ∙ quotient-scaled m n f refl p.wide (subst (AllDivide m) e h)
