-- Pieces by tiles keep their type, copies and value.
use Rattle.std.proofs.Common.{◌≡◌, ℕ, zero, suc, ◌+◌, ◌-◌, ◌*◌, ◌/◌, ◌%◌, ◌<◌, ◌≤◌, List, [], ◌∷◌, length, refl, sym, ap, ◌∙◌, subst, arith, add-one, zero-add, ℤ, pos, negsuc, ◌+ℤ◌, ◌-ℤ◌, ◌*ℤ◌, ◌≤ℤ◌, false, None}
use Rattle.std.specs.Prelude.{map, IsTrue, ◌&&◌, neg_ℤ, nat_le, nat_eq}
use Rattle.std.proofs.lemmas.Int.{ints}
use Rattle.std.proofs.lemmas.Bool.{and_parts}
use Rattle.std.proofs.lemmas.Bool.Decides.{nat_tests}
use Rattle.std.proofs.Math.Nat.{mul-div_cancel_left, add-mul-mod_self_right}
use Rattle.size_arith.specs.declared.names.Name.{Name}
use Rattle.size_arith.specs.declared.poly.Monomial.{Monomial}
use Rattle.size_arith.specs.Polynomial.{Place, Before, Here, After, place, hit, coefficient, no_powers, number, is_zero, plus, minus, times, value_at, AllWide, IsCanonical, IsPoly, AllDivide, quotient}
use Rattle.size_arith.specs.Shown.{part, shifted, ShownAtLeast}
use Rattle.size_arith.specs.Ranges.{leasts}
use Rattle.size_arith.specs.Decisions.{is_shown}
use Rattle.size_arith.proofs.Decisions.{decides_shown}
use Rattle.size_arith.proofs.Integers.{add_mul, mul_add, mul_left, cancel, one_times}
use Rattle.size_arith.proofs.Limits.{canonical-added, canonical-times, low_of}
use Rattle.size_arith.proofs.Maps.{same_map_same_list}
use Rattle.size_arith.proofs.Soundness.{shown_at_least}
use Rattle.size_arith.proofs.Values.{value-minus}
use Rattle.lift_tree.specs.declared.layout.Layout.TheVariants.{Join}
use Rattle.lift_tree.specs.declared.term.UnaryForm.TheVariants.{Layout, Slide}
use Rattle.lift_tree.specs.Tree.{Tree, Unary}
use Rattle.lift_tree.specs.Lists.{concat, pieces, pieces_that_fit}
use Rattle.lift_tree.specs.Values.{Value, array, members}
use Rattle.lift_tree.specs.Meaning.{World, meaning, array_of_rows}
use Rattle.lift_tree.specs.Types.{PlainTy, ArrayOf, IsFormed}
use Rattle.lift_tree.specs.Typing.{UnaryRow, constant}
use Rattle.lift_tree.proofs.Copies.{TypesUnder, met, types_alone}
use Rattle.lift_tree.proofs.Members.{members-array, pieces_long}
use Rattle.lift_tree.proofs.Rows.{list_have}
use Rattle.lift_tree.proofs.Sizes.{number_at, value-constant, value-quotient}
use Rattle.lift_tree.proofs.Formed.{formed}
use Rattle.lift_tree.proofs.Sound.{values_have_types}
use Rattle.lift_tree.proofs.Unique.{one_type}
use Rattle.rewriting.specs.Answers.{Becomes}
use Rattle.rewriting.specs.Around.{Around}
use Rattle.rewriting.specs.Keeps.{KeepsIn}
use Rattle.rules_split.specs.Tests.{divides}
use Rattle.rules_split.specs.Rules.{tiled, tile_slide, tile_sides, first_false, array_length}
use Rattle.rewriting.proofs.Keeping.{keeping}
use Rattle.lift_tree.proofs.Linear.{total_by, total-constant, total-quotient, no_powers_at_most}
use Rattle.rules_split.proofs.Lists.{map_every, map-map, map-concat, tiles}
use Rattle.lift_tree.proofs.PieceLengths.{canonical-constant, wide-minus, canonical-minus, wide-plus, wide-quotient, canonical-quotient, total-plus, total-minus, total-times, shifted_total, shown-constant}
use Rattle.rules_split.proofs.Tried.{divided_by, at_least_one, none_false, unless_none}
use Rattle.rules_split.proofs.Typed.{same_array, slide_array}

-- ---- values
quotient_is : (t m a : ℕ) → 0 < t → m ≡ t * a → m / t ≡ a
quotient_is t m a h e = ap (λ y. y / t) e ∙ mul-div_cancel_left a h

-- the pieces of a list, by tiles of u elements that begin v further on and hold q pieces each,
-- where they cover the list
by_tiles : (s t u v q p : ℕ) (m : List Value) → 0 < t → 0 < q → v ≡ q * t → u + t ≡ v + s → length m ≡ u + v * p
    → concat (map members (map (λ r. array_of_rows (pieces (pieces_that_fit s t (length (members r))) s t (members r))) (map array (pieces (pieces_that_fit u v (length m)) u v m)))) ≡ map array (pieces (pieces_that_fit s t (length m)) s t m)
by_tiles s t u v q p m ht hq hv hu hm =
    let g : Value → Value = λ r. array_of_rows (pieces (pieces_that_fit s t (length (members r))) s t (members r)) in
    let some : 0 < v = subst (λ z. 0 < z) (sym hv) (positive q t hq ht) in
    let outer : pieces_that_fit u v (length m) ≡ p + 1 = quotient_is v (length m + v - u) (p + 1) some (outer_is u v p (length m) hm) in
    let inner : pieces_that_fit s t u ≡ q = quotient_is t (u + t - s) q ht (inner_is s t u v q hv hu) in
    let whole : pieces_that_fit s t (length m) ≡ (p + 1) * q = quotient_is t (length m + t - s) ((p + 1) * q) ht (whole_is s t u v q p (length m) hv hu hm) in
    let piece : (r : List Value) → length r ≡ u → members (g (array r)) ≡ map array (pieces q s t r) = λ r e.
    members-array (map array (pieces (pieces_that_fit s t (length (members (array r)))) s t (members (array r))))
    ∙ ap (λ l. map array (pieces (pieces_that_fit s t (length l)) s t l)) (members-array r)
    ∙ ap (λ n. map array (pieces n s t r)) (ap (pieces_that_fit s t) e ∙ inner) in
    ap (λ n. concat (map members (map g (map array (pieces n u v m))))) outer
    ∙ ap (λ l. concat (map members l)) (map-map g array (pieces (p + 1) u v m))
    ∙ ap concat (map-map members (λ r. g (array r)) (pieces (p + 1) u v m) ∙ map_every (λ r. length r ≡ u) _ _ _ piece (pieces_long (p + 1) u v m (long_is u v p (length m) hm)) ∙ sym (map-map (map array) (pieces q s t) (pieces (p + 1) u v m)))
    ∙ sym (map-concat array (map (pieces q s t) (pieces (p + 1) u v m)))
    ∙ ap (λ z. map array (concat (map (pieces q s t) (pieces (p + 1) u z m)))) hv
    ∙ ap (map array) (tiles (p + 1) q s t u m (hu ∙ ap (λ z. z + s) hv) ∙ ap (λ n. pieces n s t m) (sym whole))
  where
    positive : (a b : ℕ) → 0 < a → 0 < b → 0 < a * b
    positive a b h k = grind arith

    outer_is : (u v p n : ℕ) → n ≡ u + v * p → n + v - u ≡ v * (p + 1)
    outer_is u v p n h = omega arith

    inner_is : (s t u v q : ℕ) → v ≡ q * t → u + t ≡ v + s → u + t - s ≡ t * q
    inner_is s t u v q h k = omega arith

    whole_is : (s t u v q p n : ℕ) → v ≡ q * t → u + t ≡ v + s → n ≡ u + v * p → n + t - s ≡ t * ((p + 1) * q)
    whole_is s t u v q p n h k l = let e = ap (λ z. z * p) h in omega arith

    long_is : (u v p n : ℕ) → n ≡ u + v * p → (p + 1) * v + u ≤ n + v
    long_is u v p n h = omega arith

-- the value by tiles
tiled_value : (w : World) (vs : List Value) (s t u v q p : ℕ) (xs : Tree) → 0 < t → 0 < q → v ≡ q * t → u + t ≡ v + s → length (members (meaning w vs xs)) ≡ u + v * p
    → meaning w vs (tiled s t u v xs) ≡ meaning w vs (Unary (Slide s t) xs)
tiled_value w vs s t u v q p xs ht hq hv hu hm =
    let m = members (meaning w vs xs) in
    let g : Value → Value = λ r. array_of_rows (pieces (pieces_that_fit s t (length (members r))) s t (members r)) in
    let ws = map array (pieces (pieces_that_fit u v (length m)) u v m) in
    ap (λ l. array (concat (map members l))) (members-array (map g (members (array ws))))
    ∙ ap (λ l. array (concat (map members (map g l)))) (members-array ws)
    ∙ ap array (by_tiles s t u v q p m ht hq hv hu hm)

-- ---- lengths
-- the coefficient of no powers, 1, and of all others, 0
bit : Place → ℕ
bit Before = 0
bit Here = 1
bit After = 0

hit_bit : (q : Place) (c : ℤ) → hit q c ≡ c *ℤ pos (bit q)
unfolding bit
hit_bit Before c = omega (arith, ints)
hit_bit Here c = omega (arith, ints)
hit_bit After c = omega (arith, ints)

coefficient_total : (p : List Monomial) (ms : List ℕ) → coefficient p ms ≡ total_by (λ ns. pos (bit (place ms ns))) p
coefficient_total [] ms = refl
coefficient_total (m ∷ p) ms =
    ap (λ z. z +ℤ coefficient p ms) (hit_bit (place ms m.powers) m.coefficient)
    ∙ ap (λ z. (m.coefficient *ℤ pos (bit (place ms m.powers))) +ℤ z) (coefficient_total p ms)

-- polynomials with the same sums are the same
same_totals : (p q : List Monomial) → IsCanonical p → IsCanonical q → ((f : List ℕ → ℤ) → (b : ℕ) → f no_powers ≡ pos b → total_by f p ≡ total_by f q) → p ≡ q
same_totals p q c d h = same_map_same_list p q c d (λ ms. coefficient_total p ms ∙ h (λ ns. pos (bit (place ms ns))) (bit (place ms no_powers)) refl ∙ sym (coefficient_total q ms))

less_constant : (u s : ℕ) → s ≤ u → minus (constant u) (constant s) ≡ constant (u - s)
less_constant u s h = same_totals _ _ (canonical-minus (constant u) s (canonical-constant u)) (canonical-constant (u - s)) (λ f b e.
    let a = total-minus f (constant u) s ∙ total-constant f u in
    go (total_by f (minus (constant u) (constant s))) (f no_powers) b e a ∙ sym (total-constant f (u - s)))
  where
    products : (b : ℕ) → (u - s) * b + s * b ≡ u * b
    products b = let e : (u - s) + s ≡ u = omega arith in let d = ap (λ z. z * b) e in omega arith

    go : (x z : ℤ) (b : ℕ) → z ≡ pos b → x +ℤ (pos s *ℤ z) ≡ pos u *ℤ z → x ≡ pos (u - s) *ℤ z
    go x z b e h = subst (λ y. x ≡ pos (u - s) *ℤ y) (sym e) (at (subst (λ y. x +ℤ (pos s *ℤ y) ≡ pos u *ℤ y) e h))
      where
        at : x +ℤ (pos s *ℤ pos b) ≡ pos u *ℤ pos b → x ≡ pos (u - s) *ℤ pos b
        at h = let d = products b in omega (arith, ints)

more_constant : (m k : ℕ) → plus (constant m) (constant k) ≡ constant (m + k)
more_constant m k = same_totals _ _ (canonical-added (number (pos 1)) (constant k) (constant m) (canonical-constant m)) (canonical-constant (m + k)) (λ f b e.
    total-plus f (constant m) k
    ∙ ap (λ z. z +ℤ (pos k *ℤ f no_powers)) (total-constant f m)
    ∙ sym (add_mul (pos m) (pos k) (f no_powers))
    ∙ sym (total-constant f (m + k)))

none_left : (t m : ℕ) → 0 < t → (m * t) % t ≡ 0
none_left t m h =
    let z : 0 % t ≡ 0 = omega arith in
    ap (λ y. y % t) (sym (zero-add (m * t))) ∙ add-mul-mod_self_right 0 m t ∙ z

divide_constant : (t m n : ℕ) → 0 < t → n ≡ m * t → AllDivide (number (pos t)) (constant n)
divide_constant t m zero h e = tt
divide_constant t m (suc n) h e = (record { divisor = some t h; coefficient = ap pos (ap (λ z. z % t) e ∙ none_left t m h); powers = no_powers_at_most no_powers refl }, tt)
  where
    some : (t : ℕ) → 0 < t → is_zero (pos t) ≡ false
    some zero h = absurd (omega arith)
    some (suc t) h = refl

quotient_constant : (t m : ℕ) → 0 < t → quotient (number (pos t)) (constant (m * t)) ≡ constant m
quotient_constant t m h =
    let d = divide_constant t m (m * t) h refl in
    same_totals _ _ (canonical-quotient t (constant (m * t)) d (canonical-constant (m * t))) (canonical-constant m) (λ f b e.
    cancel t _ _ h (sym (total-quotient f t (constant (m * t)) d) ∙ total-constant f (m * t) ∙ mul_left m t (f no_powers))
    ∙ sym (total-constant f m))

-- so many tiles of q pieces each are all pieces
tiles_length : (s t u v q : ℕ) (n : List Monomial) → 0 < t → 0 < q → v ≡ q * t → u + t ≡ v + s → IsCanonical n → AllWide 8 n
    → AllDivide (number (pos v)) (minus n (constant u)) → AllDivide (number (pos t)) (minus n (constant s))
    → times (plus (quotient (number (pos v)) (minus n (constant u))) (constant 1)) (constant q) ≡ plus (quotient (number (pos t)) (minus n (constant s))) (constant 1)
tiles_length s t u v q n ht hq hv hu c w dv dt =
    let a = quotient (number (pos v)) (minus n (constant u)) in
    let b = quotient (number (pos t)) (minus n (constant s)) in
    let wide_a = wide-quotient (number (pos v)) v (minus n (constant u)) refl (wide-minus n u w) in
    same_totals _ _ (canonical-times (plus a (constant 1)) (constant q)) (canonical-added (number (pos 1)) (constant 1) b (canonical-quotient t (minus n (constant s)) dt (canonical-minus n s c))) (λ f k e.
    total-times f (plus a (constant 1)) q hq (wide-plus a 1 wide_a)
    ∙ ap (λ z. pos q *ℤ z) (total-plus f a 1)
    ∙ go (total_by f a) (total_by f b) (f no_powers) (total_by f n) k e
    (ap (λ z. z +ℤ (pos u *ℤ f no_powers)) (sym (total-quotient f v (minus n (constant u)) dv)) ∙ total-minus f n u)
    (ap (λ z. z +ℤ (pos s *ℤ f no_powers)) (sym (total-quotient f t (minus n (constant s)) dt)) ∙ total-minus f n s)
    ∙ sym (total-plus f b 1))
  where
    products : (k : ℕ) → u * k + t * k ≡ v * k + s * k
    products k = let d = ap (λ z. z * k) hu in omega arith

    last : (x y n : ℤ) (k : ℕ) → x +ℤ (pos u *ℤ pos k) ≡ n → y +ℤ (pos s *ℤ pos k) ≡ n → x +ℤ (pos v *ℤ pos k) ≡ y +ℤ (pos t *ℤ pos k)
    last x y n k h l = let d = products k in omega (arith, ints)

    one : (v : ℕ) (z : ℤ) → pos v *ℤ (pos 1 *ℤ z) ≡ pos v *ℤ z
    one v z = ap (λ y. pos v *ℤ y) (one_times z)

    go : (a b z n : ℤ) (k : ℕ) → z ≡ pos k → (pos v *ℤ a) +ℤ (pos u *ℤ z) ≡ n → (pos t *ℤ b) +ℤ (pos s *ℤ z) ≡ n → pos q *ℤ (a +ℤ (pos 1 *ℤ z)) ≡ b +ℤ (pos 1 *ℤ z)
    go a b z n k e h l = cancel t _ _ ht
        (sym (mul_left q t (a +ℤ (pos 1 *ℤ z)))
        ∙ ap (λ m. pos m *ℤ (a +ℤ (pos 1 *ℤ z))) (sym hv)
        ∙ mul_add (pos v) a (pos 1 *ℤ z)
        ∙ ap (λ y. (pos v *ℤ a) +ℤ y) (one v z)
        ∙ ap (λ y. (pos v *ℤ a) +ℤ (pos v *ℤ y)) e
        ∙ last (pos v *ℤ a) (pos t *ℤ b) n k (subst (λ y. (pos v *ℤ a) +ℤ (pos u *ℤ y) ≡ n) e h) (subst (λ y. (pos t *ℤ b) +ℤ (pos s *ℤ y) ≡ n) e l)
        ∙ ap (λ y. (pos t *ℤ b) +ℤ (pos t *ℤ y)) (sym e)
        ∙ ap (λ y. (pos t *ℤ b) +ℤ y) (sym (one t z))
        ∙ sym (mul_add (pos t) b (pos 1 *ℤ z)))

-- ---- what is shown
neg_times : (u p : ℕ) → neg_ℤ (pos u) *ℤ pos p ≡ neg_ℤ (pos (u * p))
neg_times zero p = omega (arith, ints)
neg_times (suc u) p = omega (arith, ints)

shown_less : (names : List Name) (u : ℕ) (n : List Monomial) → ShownAtLeast u names n → ShownAtLeast 0 names (minus n (constant u))
shown_less names u n h js e =
    let ls = leasts names in
    let f : List ℕ → ℤ = λ ms. pos (part ls ms js) in
    let b = part ls no_powers js in
    let a : shifted ls (minus n (constant u)) js +ℤ (pos u *ℤ pos b) ≡ shifted ls n js = ap (λ z. z +ℤ (pos u *ℤ pos b)) (shifted_total ls js (minus n (constant u))) ∙ total-minus f n u ∙ sym (shifted_total ls js n) in
    go b (shifted ls (minus n (constant u)) js) (shifted ls n js) a (subst (λ z. pos 0 ≤ℤ (z +ℤ shifted ls n js)) (neg_times u b) (h js e))
  where
    go : (b : ℕ) (x y : ℤ) → x +ℤ (pos u *ℤ pos b) ≡ y → pos 0 ≤ℤ (neg_ℤ (pos (u * b)) +ℤ y) → pos 0 ≤ℤ ((pos 0 *ℤ pos b) +ℤ x)
    go b x y h l = omega (arith, ints)

shown_none : (names : List Name) (k : ℕ) → ShownAtLeast 0 names (constant k)
shown_none names k js e =
    let ls = leasts names in
    let f : List ℕ → ℤ = λ ms. pos (part ls ms js) in
    go (part ls no_powers js) (shifted ls (constant k) js) (shifted_total ls js (constant k) ∙ total-constant f k)
  where
    go : (b : ℕ) (z : ℤ) → z ≡ pos k *ℤ pos b → pos 0 ≤ℤ ((pos 0 *ℤ pos b) +ℤ z)
    go b z d = omega (arith, ints)

shown_more : (names : List Name) (s u : ℕ) → s ≤ u → ShownAtLeast 1 names (constant s) → ShownAtLeast 1 names (constant u)
shown_more names s u h l js e =
    let ls = leasts names in
    let f : List ℕ → ℤ = λ ms. pos (part ls ms js) in
    go (part ls no_powers js) (shifted ls (constant s) js) (shifted ls (constant u) js) (shifted_total ls js (constant s) ∙ total-constant f s) (shifted_total ls js (constant u) ∙ total-constant f u) (l js e)
  where
    le_times : (s u b : ℕ) → s ≤ u → s * b ≤ u * b
    le_times s u b h = grind arith

    go : (b : ℕ) (x y : ℤ) → x ≡ pos s *ℤ pos b → y ≡ pos u *ℤ pos b → pos 0 ≤ℤ ((negsuc 0 *ℤ pos b) +ℤ x) → pos 0 ≤ℤ ((negsuc 0 *ℤ pos b) +ℤ y)
    go b x y e f k = let m = le_times s u b h in omega (arith, ints)

-- one tile or more
shown_tiles : (names : List Name) (v : ℕ) (n : List Monomial) → 0 < v → AllDivide (number (pos v)) n → ShownAtLeast 0 names n → ShownAtLeast 1 names (plus (quotient (number (pos v)) n) (constant 1))
shown_tiles names v n h d l js e =
    let ls = leasts names in
    let f : List ℕ → ℤ = λ ms. pos (part ls ms js) in
    let q = quotient (number (pos v)) n in
    go (part ls no_powers js) (shifted ls n js) (total_by f q) (shifted ls (plus q (constant 1)) js)
    (shifted_total ls js n ∙ total-quotient f v n d)
    (shifted_total ls js (plus q (constant 1)) ∙ total-plus f q 1)
    (l js e)
  where
    go : (b : ℕ) (x z y : ℤ) → x ≡ pos v *ℤ z → y ≡ z +ℤ (pos 1 *ℤ pos b) → pos 0 ≤ℤ ((pos 0 *ℤ pos b) +ℤ x) → pos 0 ≤ℤ ((negsuc 0 *ℤ pos b) +ℤ y)
    go b x (pos z) y e f l = omega (arith, ints)
    go b x (negsuc z) y e f l = absurd (negative v b z x h e l)
      where
        negative : (v b z : ℕ) (x : ℤ) → 0 < v → x ≡ pos v *ℤ negsuc z → pos 0 ≤ℤ ((pos 0 *ℤ pos b) +ℤ x) → ⊥
        negative v b z x h e l = omega (arith, ints)

-- ---- the rule
-- the tiles' length u and distance v fit the pieces
pub record AreTiles (t u v : ℕ) (names : List Name) (n : List Monomial) : Type 0 where
  pub some : 0 < v
  pub whole : v % t ≡ 0
  pub shown : ShownAtLeast u names n
  pub divide : AllDivide (number (pos v)) (minus n (constant u))

tiles_hold : (t u v : ℕ) (a : Around) → IsPoly (array_length a.types) → first_false (tile_sides t u v a) ≡ None → AreTiles t u v a.names (array_length a.types)
tiles_hold t u v a p h =
    let n = array_length a.types in
    let b = none_false (nat_le 1 v) _ _ h in
    let c = none_false (nat_eq (v % t) 0) _ _ b.1 in
    let d = none_false (nat_le u 4294967295 && is_shown u a.names n) _ _ c.1 in
    let e = none_false (divides v (minus n (constant u))) _ _ d.1 in
    let some = at_least_one v b.0 in
    record {
      some = some;
      whole = same v c.0;
      shown = (decides_shown u a.names n (low_of n n refl p)).0 (and_parts (nat_le u 4294967295) (is_shown u a.names n) d.0).1;
      divide = divided_by v (minus n (constant u)) some (wide-minus n u p.wide) e.0;
    }
  where
    same : (v : ℕ) → IsTrue (nat_eq (v % t) 0) → v % t ≡ 0
    same v h = grind (arith, nat_tests)

-- how many pieces a tile holds
count_of : (v t : ℕ) → 0 < v → 0 < t → v % t ≡ 0 → (m : ℕ) × (v ≡ suc m * t)
count_of v t h k e = go (v / t) (omega arith)
  where
    go : (q : ℕ) → v ≡ t * q → (m : ℕ) × (v ≡ suc m * t)
    go zero f = absurd (omega arith)
    go (suc m) f = (m, omega arith)

-- the tiles cover the list
covered : (n u v : ℕ) (l z : ℤ) → 0 < v → pos n ≡ l → pos u ≤ℤ l → l -ℤ pos u ≡ pos v *ℤ z → (p : ℕ) × (n ≡ u + v * p)
covered n u v l (pos p) h e k f = (p, omega (arith, ints))
covered n u v l (negsuc p) h e k f = absurd (negative v p l h k f)
  where
    negative : (v p : ℕ) (l : ℤ) → 0 < v → pos u ≤ℤ l → l -ℤ pos u ≡ pos v *ℤ negsuc p → ⊥
    negative v p l h k f = omega (arith, ints)

-- the pieces of a tile
inner_row : (names : List Name) (s t u q m : ℕ) (x : PlainTy) → 0 < t → s ≤ u → u - s ≡ m * t → q ≡ suc m → ShownAtLeast 1 names (constant s) → IsFormed names x
    → UnaryRow names (Slide s t) (ArrayOf x (constant u)) (ArrayOf (ArrayOf x (constant s)) (constant q))
inner_row names s t u q m x ht hs hu hq shown form =
    let e : minus (constant u) (constant s) ≡ constant (m * t) = less_constant u s hs ∙ ap constant hu in
    let count : plus (quotient (number (pos t)) (minus (constant u) (constant s))) (constant 1) ≡ constant q =
    ap (λ n. plus (quotient (number (pos t)) n) (constant 1)) e
    ∙ ap (λ n. plus n (constant 1)) (quotient_constant t m ht)
    ∙ more_constant m 1
    ∙ ap constant (add-one m ∙ sym hq) in (
      x,
      constant u,
      refl,
      ht,
      subst (ShownAtLeast 0 names) (sym e) (shown_none names (m * t)),
      subst (AllDivide (number (pos t))) (sym e) (divide_constant t m (m * t) ht refl),
      ap (ArrayOf (ArrayOf x (constant s))) (sym count),
      (shown-constant names q (subst (λ z. 1 ≤ z) (sym hq) (omega arith)), (shown, form)),
    )

pub tile_slide_keeps : (a : Around) (s t v : ℕ) (xs : Tree) → IsPoly (array_length a.types) → AreTiles t (v + s - t) v a.names (array_length a.types) → KeepsIn a (Unary (Slide s t) xs) (tiled s t (v + s - t) v xs)
tile_slide_keeps a s t v xs poly sides d around =
    let g = a.binders in
    let n = array_length a.types in
    let u = v + s - t in
    let own = slide_array d g s t xs a.types around.nodes in
    let x = own.0.element in
    let ht = own.1 in
    let m = count_of v t sides.some ht sides.whole in
    let q = suc m.0 in
    let sizes = tile_sizes s t v m.0 m.1 in
    let shown : ShownAtLeast u d.names n = subst (λ ns. ShownAtLeast u ns n) around.names sides.shown in
    let left = minus n (constant u) in
    let p = plus (quotient (number (pos v)) left) (constant 1) in
    keeping d g _ _
    (λ asked b h.
    let r = h.2 in
    let array_is = one_type d g xs h.0 (ArrayOf x n) (types_alone asked d g xs h.0 h.1) own.0.typed in
    let same = same_array r.0 x r.1 n (sym r.2 ∙ array_is) in
    let divide = subst (λ l. AllDivide (number (pos t)) (minus l (constant s))) same.1 r.5 in
    let form_b = formed d around.declared.inputs g (Unary (Slide s t) xs) b around.binders (types_alone asked d g (Unary (Slide s t) xs) b h) in
    let form = subst (IsFormed d.names) r.6 form_b in
    let form_x = subst (IsFormed d.names) same.0 form.1.1 in
    let whole : b ≡ ArrayOf (ArrayOf x (constant s)) (times p (constant q)) =
    r.6
    ∙ ap (λ y. ArrayOf (ArrayOf y (constant s)) (plus (quotient (number (pos t)) (minus r.1 (constant s))) (constant 1))) same.0
    ∙ ap (λ l. ArrayOf (ArrayOf x (constant s)) (plus (quotient (number (pos t)) (minus l (constant s))) (constant 1))) same.1
    ∙ ap (ArrayOf (ArrayOf x (constant s))) (sym (tiles_length s t u v q n ht (omega arith) m.1 sizes.0 poly.canonical poly.wide sides.divide divide)) in (
      ArrayOf (ArrayOf (ArrayOf x (constant s)) (constant q)) p,
      (
        ArrayOf x (constant u),
        ArrayOf (ArrayOf x (constant s)) (constant q),
        p,
        (
          ArrayOf x n,
          subst (TypesUnder asked d g xs) array_is h.1,
          (
            x,
            n,
            refl,
            sides.some,
            shown_less d.names u n shown,
            sides.divide,
            refl,
            (shown_tiles d.names v left sides.some sides.divide (shown_less d.names u n shown), (shown_more d.names s u sizes.1 form.1.0, form_x)),
          ),
          met asked (Slide u v) (ArrayOf (ArrayOf x (constant u)) p) tt,
        ),
        (ArrayOf x (constant u), refl, inner_row d.names s t u q m.0 x ht sizes.1 sizes.2 refl form.1.0 form_x, met asked (Slide s t) (ArrayOf (ArrayOf x (constant s)) (constant q)) tt),
        refl,
      ),
      (ArrayOf x (constant s), constant q, p, refl, whole, form_b),
      met asked (Layout Join) b tt,
    ))
    (λ w vs ok all.
    let v0 = meaning w vs xs in
    let l = list_have w.bases x n v0 (values_have_types d w g vs xs (ArrayOf x n) around.declared ok around.binders all own.0.typed) in
    let least = shown_at_least d.names w.bases around.declared.names ok.bases u n shown in
    let less : value_at w.bases n -ℤ pos u ≡ pos v *ℤ value_at w.bases (quotient (number (pos v)) left) =
    ap (λ z. value_at w.bases n -ℤ z) (sym (value-constant w.bases u))
    ∙ sym (value-minus w.bases n (constant u))
    ∙ value-quotient w.bases (number (pos v)) left sides.divide
    ∙ ap (λ z. z *ℤ value_at w.bases (quotient (number (pos v)) left)) (number_at w.bases (pos v)) in
    let c = covered (length (members v0)) u v (value_at w.bases n) (value_at w.bases (quotient (number (pos v)) left)) sides.some l.0 least less in
    tiled_value w vs s t u v q c.0 xs ht (omega arith) m.1 sizes.0 c.1)
  where
    tile_sizes : (s t v m : ℕ) → v ≡ suc m * t → (v + s - t + t ≡ v + s) × (s ≤ v + s - t) × (v + s - t - s ≡ m * t)
    tile_sizes s t v m e = (omega arith, omega arith, omega arith)

pub tile_slide_gives : (a : Around) (v : ℕ) (t u : Tree) → IsPoly (array_length a.types) → tile_slide v a t ≡ Becomes u → KeepsIn a t u
tile_slide_gives a v (Unary (Slide s t) xs) u poly e =
    let h = unless_none _ _ u e in
    subst (KeepsIn a (Unary (Slide s t) xs)) h.1 (tile_slide_keeps a s t v xs poly (tiles_hold t (v + s - t) v a poly h.0))
tile_slide_gives a v _ u poly e = absurd (cc)
