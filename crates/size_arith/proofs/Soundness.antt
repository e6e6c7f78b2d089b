-- A polynomial whose shifted coefficients are not negative is not negative.
use Rattle.std.proofs.Common.{◌≡◌, ℕ, zero, suc, ◌+◌, ◌-◌, ◌*◌, ◌/◌, ◌^◌, neg_ℤ, ◌≤◌, List, [], ◌∷◌, ℤ, pos, negsuc, ◌+ℤ◌, ◌*ℤ◌, ◌≤ℤ◌, refl, sym, ap, ◌∙◌, arith, length, subst}
use Rattle.std.proofs.lemmas.Int.{ints}
use Rattle.std.proofs.Math.Nat.{pow-suc, pow-zero, pow-le-pow_left, div-le_of_le-mul, le-div_iff_mul-le}
use Rattle.std.proofs.lemmas.Nat.{mul-le}
use Rattle.size_arith.specs.declared.poly.Monomial.{Monomial}
use Rattle.size_arith.specs.declared.names.Name.{Name}
use Rattle.size_arith.specs.Polynomial.{product, total, degree, number, value_at, AllLow, IsPoly}
use Rattle.size_arith.specs.Ranges.{AreNames, IsName, Admissible, leasts, greatests}
use Rattle.size_arith.specs.Shown.{share, part, shifted, IsNeverNegative, ShownAtLeast, positive_part, largest, sum_upto, sum_over, raised}
use Rattle.size_arith.specs.Code.{AllExtended}
use Rattle.std.specs.Prelude.{Bool, true, false, nat_lt, ◌<◌}
use Rattle.std.proofs.lemmas.Bool.Decides.{nat_tests}
use Rattle.size_arith.proofs.Integers.{add_mul, mul_both, mul_add}
use Rattle.size_arith.proofs.Values.{number_at}
use Rattle.size_arith.proofs.Limits.{low_of, low_degree}

-- sums are alike, add, scale and keep their sign
upto_same : (d : ℕ) (f g : ℕ → ℤ) → ((j : ℕ) → f j ≡ g j) → sum_upto d f ≡ sum_upto d g
upto_same zero f g h = h 0
upto_same (suc d) f g h = omega (arith, ints, upto_same d f g h, h (suc d))

box_same : (d : ℕ) (ls : List ℕ) (f g : List ℕ → ℤ) → ((js : List ℕ) → f js ≡ g js) → sum_over d ls f ≡ sum_over d ls g
box_same d [] f g h = h []
box_same d (l ∷ ls) f g h = upto_same d _ _ (λ j. box_same d ls _ _ (λ js. h (j ∷ js)))

upto_add : (d : ℕ) (f g : ℕ → ℤ) → sum_upto d (λ j. f j +ℤ g j) ≡ sum_upto d f +ℤ sum_upto d g
upto_add zero f g = refl
upto_add (suc d) f g = omega (arith, ints, upto_add d f g)

box_add : (d : ℕ) (ls : List ℕ) (f g : List ℕ → ℤ) → sum_over d ls (λ js. f js +ℤ g js) ≡ sum_over d ls f +ℤ sum_over d ls g
box_add d [] f g = refl
box_add d (l ∷ ls) f g = upto_same d _ _ (λ j. box_add d ls (λ js. f (j ∷ js)) (λ js. g (j ∷ js))) ∙ upto_add d _ _

upto_scale : (d : ℕ) (c : ℤ) (f : ℕ → ℤ) → sum_upto d (λ j. c *ℤ f j) ≡ c *ℤ sum_upto d f
upto_scale zero c f = refl
upto_scale (suc d) c f = omega (arith, ints, upto_scale d c f, mul_add c (sum_upto d f) (f (suc d)))

box_scale : (d : ℕ) (ls : List ℕ) (c : ℤ) (f : List ℕ → ℤ) → sum_over d ls (λ js. c *ℤ f js) ≡ c *ℤ sum_over d ls f
box_scale d [] c f = refl
box_scale d (l ∷ ls) c f = upto_same d _ _ (λ j. box_scale d ls c (λ js. f (j ∷ js))) ∙ upto_scale d c _

upto_sign : (d : ℕ) (f : ℕ → ℤ) → ((j : ℕ) → pos 0 ≤ℤ f j) → pos 0 ≤ℤ sum_upto d f
upto_sign zero f h = h 0
upto_sign (suc d) f h = omega (arith, ints, upto_sign d f h, h (suc d))

box_sign : (d : ℕ) (ls : List ℕ) (f : List ℕ → ℤ) → ((js : List ℕ) → length js ≡ length ls → pos 0 ≤ℤ f js) → pos 0 ≤ℤ sum_over d ls f
box_sign d [] f h = h [] refl
box_sign d (l ∷ ls) f h = upto_sign d _ (λ j. box_sign d ls _ (λ js e. h (j ∷ js) (ap suc e)))

-- a power of a sum
all : ℕ → (ℕ → ℕ) → ℕ
all zero f = f 0
all (suc d) f = all d f + f (suc d)

pos-all : (d : ℕ) (f : ℕ → ℕ) → sum_upto d (λ j. pos (f j)) ≡ pos (all d f)
unfolding all
pos-all zero f = refl
pos-all (suc d) f = ap (λ n. n +ℤ pos (f (suc d))) (pos-all d f)

all_scale : (d c : ℕ) (f : ℕ → ℕ) → all d (λ j. f j * c) ≡ all d f * c
unfolding all
all_scale zero c f = refl
all_scale (suc d) c f = omega (arith, all_scale d c f)

next_first : (a b l y : ℕ) → l * a * y ^ 0 + (a + l * b) * y ^ 1 ≡ y * (a * y ^ 0) + l * (a * y ^ 0 + b * y ^ 1)
next_first a b l y = rw (pow-suc y 0, pow-zero y) (omega arith)

next : (l y m d : ℕ) → all (suc d) (λ j. share l (suc m) j * y ^ j) ≡ y * all d (λ j. share l m j * y ^ j) + l * all (suc d) (λ j. share l m j * y ^ j)
unfolding all
next l y m zero = next_first (share l m 0) (share l m 1) l y
next l y m (suc d) = let h = next l y m d in let e = pow-suc y (suc d) in rw (pow-suc y (suc d)) (omega arith)

power : (l y m d : ℕ) → m ≤ d → (l + y) ^ m ≡ all d (λ j. share l m j * y ^ j)
unfolding all
power l y zero zero h = rw (pow-zero (l + y), pow-zero y) refl
power l y zero (suc d) h = omega (arith, power l y zero d (omega arith))
power l y (suc m) zero h = absurd (omega arith)
power l y (suc m) (suc d) h =
    let a = ap (λ n. n * l) (power l y m (suc d) (omega arith)) in
    let b = ap (λ n. n * y) (power l y m d (omega arith)) in
    let e = next l y m d in
    rw (pow-suc (l + y) m) (omega arith)

-- a product of powers of raised
one_more : (d l y m : ℕ) (ls ys ms : List ℕ) → m ≤ d → pos (product (raised ls ys) ms) ≡ sum_over d ls (λ js. pos (part ls ms js) *ℤ pos (product ys js)) → pos ((l + y) ^ m * product (raised ls ys) ms) ≡ sum_upto d (λ j. sum_over d ls (λ js. pos (share l m j * part ls ms js) *ℤ pos (y ^ j * product ys js)))
one_more d l y m ls ys ms h b =
    ap (λ n. pos (n * product (raised ls ys) ms)) (power l y m d h)
    ∙ ap pos (sym (all_scale d (product (raised ls ys) ms) _))
    ∙ sym (pos-all d _)
    ∙ upto_same d _ _ (λ j. ap (λ z. pos (share l m j * y ^ j) *ℤ z) b ∙ sym (box_scale d ls (pos (share l m j * y ^ j)) _) ∙ box_same d ls _ _ (λ js. ap pos (omega arith)))

product-nil : (ys : List ℕ) → product ys [] ≡ 1
product-nil [] = refl
product-nil (y ∷ ys) = refl

whole : (d : ℕ) (ls ys ms : List ℕ) → length ls ≡ length ys → total ms ≤ d → pos (product (raised ls ys) ms) ≡ sum_over d ls (λ js. pos (part ls ms js) *ℤ pos (product ys js))
whole d [] [] ms e w = refl
whole d [] (y ∷ ys) ms e w = absurd (omega arith)
whole d (l ∷ ls) [] ms e w = absurd (omega arith)
whole d (l ∷ ls) (y ∷ ys) [] e w =
    let n : 1 ≡ (l + y) ^ 0 * product (raised ls ys) [] = rw (pow-zero (l + y), product-nil (raised ls ys)) refl in
    ap pos n ∙ one_more d l y 0 ls ys [] (omega arith) (whole d ls ys [] (omega arith) w)
whole d (l ∷ ls) (y ∷ ys) (m ∷ ms) e w = one_more d l y m ls ys ms (omega arith) (whole d ls ys ms (omega arith) (omega arith))

pub value_shifted : (d : ℕ) (ls ys : List ℕ) (p : List Monomial) → length ls ≡ length ys → AllLow d p → value_at (raised ls ys) p ≡ sum_over d ls (λ js. shifted ls p js *ℤ pos (product ys js))
value_shifted d ls ys [] e w = let a = box_scale d ls (pos 0) (λ js. pos (product ys js)) in omega (arith, ints)
value_shifted d ls ys (x ∷ p) e w =
    ap (λ n. (x.coefficient *ℤ n) +ℤ value_at (raised ls ys) p) (whole d ls ys x.powers e w.0)
    ∙ ap (λ z. (x.coefficient *ℤ sum_over d ls (λ js. pos (part ls x.powers js) *ℤ pos (product ys js))) +ℤ z) (value_shifted d ls ys p e w.1)
    ∙ ap (λ z. z +ℤ sum_over d ls (λ js. shifted ls p js *ℤ pos (product ys js))) (sym (box_scale d ls x.coefficient _))
    ∙ sym (box_add d ls _ _)
    ∙ box_same d ls _ _ (λ js. ap (λ z. z +ℤ (shifted ls p js *ℤ pos (product ys js))) (mul_both x.coefficient (part ls x.powers js) (product ys js)) ∙ sym (add_mul (x.coefficient *ℤ pos (part ls x.powers js)) (shifted ls p js) (pos (product ys js))))

pub sign : (z : ℤ) (n : ℕ) → pos 0 ≤ℤ z → pos 0 ≤ℤ (z *ℤ pos n)
sign (pos k) n h = omega (arith, ints)
sign (negsuc k) n h = absurd (omega (arith, ints))

never_negative : (d : ℕ) (ls ys : List ℕ) (p : List Monomial) → length ls ≡ length ys → AllLow d p → IsNeverNegative ls p → pos 0 ≤ℤ value_at (raised ls ys) p
never_negative d ls ys p e w h = subst (λ z. pos 0 ≤ℤ z) (sym (value_shifted d ls ys p e w)) (box_sign d ls _ (λ js f. sign (shifted ls p js) (product ys js) (h js f)))

pub value_raised : (ls ys : List ℕ) (p : List Monomial) → IsPoly p → length ls ≡ length ys → value_at (raised ls ys) p ≡ sum_over 4 ls (λ js. shifted ls p js *ℤ pos (product ys js))
value_raised ls ys p i e = value_shifted 4 ls ys p e (low_of p p refl i)

-- ---- admissible sizes
-- the base names' values above the least ones
abbrev above : List Name → List ℕ → List ℕ
above [] ys = []
above (n ∷ ns) [] = []
above (n ∷ ns) (y ∷ ys) = (y - n.from / n.multiple) ∷ above ns ys

least_below : (n : Name) (y : ℕ) → IsName n → n.from ≤ n.multiple * y → n.from / n.multiple ≤ y
least_below n y h f = div-le_of_le-mul n.multiple f

greatest_above : (n : Name) (y : ℕ) → IsName n → n.multiple * y ≤ n.to → y ≤ n.to / n.multiple
greatest_above n y h f = (le-div_iff_mul-le h.positive).1 (omega arith)

above_least : (ns : List Name) (ys : List ℕ) → AreNames ns → Admissible ns ys → raised (leasts ns) (above ns ys) ≡ ys
above_least [] [] a h = refl
above_least [] (y ∷ ys) a h = absurd h
above_least (n ∷ ns) [] a h = absurd h
above_least (n ∷ ns) (y ∷ ys) a h =
    let l = least_below n y a.0 h.0.0 in
    let e : n.from / n.multiple + (y - n.from / n.multiple) ≡ y = omega arith in
    let r = above_least ns ys a.1 h.1 in
    cc

length-above : (ns : List Name) (ys : List ℕ) → Admissible ns ys → length (leasts ns) ≡ length (above ns ys)
length-above [] ys h = refl
length-above (n ∷ ns) [] h = absurd h
length-above (n ∷ ns) (y ∷ ys) h = ap suc (length-above ns ys h.1)

-- what is shown at least k is at least k
pub shown_at_least : (ns : List Name) (ys : List ℕ) → AreNames ns → Admissible ns ys → (k : ℕ) (p : List Monomial) → ShownAtLeast k ns p → pos k ≤ℤ value_at ys p
shown_at_least ns ys a h k p s =
    let c = neg_ℤ (pos k) in
    let q = number c ∷ p in
    let n = never_negative (degree p) (leasts ns) (above ns ys) q (length-above ns ys h) (omega arith, low_degree p) s in
    let m : pos 0 ≤ℤ value_at ys q = subst (λ zs. pos 0 ≤ℤ value_at zs q) (above_least ns ys a h) n in
    let e = number_at ys c in
    omega (arith, ints)

product_below : (ns : List Name) (ys ms : List ℕ) → AreNames ns → Admissible ns ys → product ys ms ≤ product (greatests ns) ms
product_below [] [] ms a h = omega arith
product_below [] (y ∷ ys) ms a h = absurd h
product_below (n ∷ ns) [] ms a h = absurd h
product_below (n ∷ ns) (y ∷ ys) [] a h = omega arith
product_below (n ∷ ns) (y ∷ ys) (m ∷ ms) a h = mul-le (y ^ m) (product ys ms) ((n.to / n.multiple) ^ m) (product (greatests ns) ms) (pow-le-pow_left (greatest_above n y a.0 h.0.1) m) (product_below ns ys ms a.1 h.1)

term_below : (c : ℤ) (a b : ℕ) → a ≤ b → (c *ℤ pos a) ≤ℤ pos (positive_part c * b)
term_below (pos n) a b h = let e = mul-le n a n b (omega arith) h in omega (arith, ints)
term_below (negsuc n) a b h = let e = neg_at_most (suc n * a) in omega (arith, ints)
  where
    neg_at_most : (m : ℕ) → neg_ℤ (pos m) ≤ℤ pos 0
    neg_at_most m = omega (arith, ints)

pub sound_largest : (ns : List Name) (p : List Monomial) (ys : List ℕ) → AreNames ns → Admissible ns ys → value_at ys p ≤ℤ pos (largest ns p)
sound_largest ns [] ys a h = omega (arith, ints)
sound_largest ns (m ∷ p) ys a h =
    let t = term_below m.coefficient (product ys m.powers) (product (greatests ns) m.powers) (product_below ns ys m.powers a h) in
    let r = sound_largest ns p ys a h in
    omega (arith, ints)

-- ---- all powers are tried
pub share_beyond : (l m j : ℕ) → m < j → share l m j ≡ 0
share_beyond l zero zero h = absurd (omega arith)
share_beyond l zero (suc j) h = refl
share_beyond l (suc m) zero h = absurd (omega arith)
share_beyond l (suc m) (suc j) h = let a = share_beyond l m j (omega arith) in let b = share_beyond l m (suc j) (omega arith) in rw (a, b) (omega arith)

part_beyond : (ls ms js : List ℕ) → length js ≡ length ls → total ms < total js → part ls ms js ≡ 0
part_beyond [] ms [] e h = absurd (omega arith)
part_beyond [] ms (j ∷ js) e h = absurd (omega arith)
part_beyond (l ∷ ls) ms [] e h = refl
part_beyond (l ∷ ls) [] (zero ∷ js) e h = let r = part_beyond ls [] js (omega arith) (omega arith) in rw r (omega arith)
part_beyond (l ∷ ls) [] (suc j ∷ js) e h = omega arith
part_beyond (l ∷ ls) (m ∷ ms) (j ∷ js) e h = at (nat_lt m j) refl (λ k. part_beyond ls ms js (omega arith) k)
  where
    at : (t : Bool) → nat_lt m j ≡ t → (total ms < total js → part ls ms js ≡ 0) → share l m j * part ls ms js ≡ 0
    at true q r = let s = share_beyond l m j (grind (arith, nat_tests)) in rw s (omega arith)
    at false q r = let k : j ≤ m = grind (arith, nat_tests) in let z = r (omega arith) in rw z (omega arith)

shifted_beyond : (ls js : List ℕ) (p : List Monomial) → length js ≡ length ls → AllLow 4 p → 4 < total js → shifted ls p js ≡ pos 0
shifted_beyond ls js [] e l h = refl
shifted_beyond ls js (m ∷ p) e l h =
    let a = ap (λ n. m.coefficient *ℤ pos n) (part_beyond ls m.powers js e (omega (arith, l.0))) in
    let b = shifted_beyond ls js p e l.1 h in
    omega (arith, ints)

pub tried_all : (k : ℕ) (ns : List Name) (ls : List ℕ) (p : List Monomial) (n : ℕ) → ls ≡ leasts ns → n ≡ length ls → AllLow 4 p → AllExtended (λ js. pos 0 ≤ℤ shifted ls (number (neg_ℤ (pos k)) ∷ p) js) [] n 4 → ShownAtLeast k ns p
tried_all k ns ls p n e f l h js g = at (nat_lt 4 (total js)) refl
  where
    at : (t : Bool) → nat_lt 4 (total js) ≡ t → pos 0 ≤ℤ shifted (leasts ns) (number (neg_ℤ (pos k)) ∷ p) js
    at true q = let s = shifted_beyond (leasts ns) js (number (neg_ℤ (pos k)) ∷ p) g (omega arith, l) (grind (arith, nat_tests)) in omega (arith, ints)
    at false q = subst (λ zs. pos 0 ≤ℤ shifted zs (number (neg_ℤ (pos k)) ∷ p) js) e (h js (g ∙ sym (f ∙ ap length e)) (grind (arith, nat_tests)))

pub shown_all : (k : ℕ) (ns : List Name) (ls : List ℕ) (p : List Monomial) (n : ℕ) → ls ≡ leasts ns → n ≡ length ls → ShownAtLeast k ns p → AllExtended (λ js. pos 0 ≤ℤ shifted ls (number (neg_ℤ (pos k)) ∷ p) js) [] n 4
shown_all k ns ls p n e f h js g t = subst (λ zs. pos 0 ≤ℤ shifted zs (number (neg_ℤ (pos k)) ∷ p) js) (sym e) (h js (g ∙ f ∙ ap length e))
