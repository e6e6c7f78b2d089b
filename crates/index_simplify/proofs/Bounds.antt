-- What passes the test stays below the length.
use Rattle.std.proofs.Common.{◌≡◌, ℕ, zero, suc, ℤ, pos, ◌+◌, ◌*◌, ◌/◌, ◌%◌, ◌<◌, ◌≤◌, ◌+ℤ◌, ◌*ℤ◌, Bool, true, false, Option, Some, None, List, refl, sym, ap, ◌∙◌, subst, arith}
use Rattle.std.specs.Prelude.{◌&&◌, ◌||◌, ◌<ℤ◌, ◌-ℤ◌, ◌^◌, ◌-◌, max, nat_lt, if◌then◌else◌, is_some, option_map, slice_get, slice_index, int_div, int_rem}
use Rattle.std.specs.Int.{int_max}
use Rattle.std.proofs.lemmas.Bool.{and_parts, or_cases, ltb-true}
use Rattle.std.proofs.Common.{inl, inr}
use Rattle.std.proofs.lemmas.Int.{ints, clamps}
use Rattle.std.proofs.lemmas.Nat.{le-div}
use Rattle.std.proofs.Math.Arith.{digits_lt}
use Rattle.std.proofs.Math.Nat.{div-lt_iff_lt-mul, div-mul-le_self, mod-lt}
use Rattle.index_expr.specs.declared.operation.Operation.TheVariants.{Sum, Difference, Product, Quotient, Remainder, Greatest}
use Rattle.index_expr.specs.Expression.{Expression, Variable, Literal, Size, Binary}
use Rattle.index_expr.specs.Values.{exact}
use Rattle.index_simplify.specs.PlainRanges.{PlainRanges}
use Rattle.index_simplify.specs.Tests.{is_number, is_at_least, is_no_longer, is_positive}
use Rattle.index_simplify.specs.Factors.{over}
use Rattle.index_simplify.specs.Below.{is_natural, is_passed, is_part_within, is_greatest_below, is_quotient_below, is_remainder_below, is_digit_below, rows_within, is_sum_below, literal_sum, longer, length_before, stays_below}
use Rattle.index_simplify.specs.Ranges.{AreBelowLengths, AreMultiples, ArePositive, AreWithin}
use Rattle.index_simplify.proofs.Tests.{count_value, number_value, positive_value, IsColumn, counted_least, counted_longer, column_of}
use Rattle.index_simplify.proofs.Divided.{IfLeft, over_left, over_value}

part_below : (v q d : ℕ) → v < q * d → v / d < q
part_below v q zero lt = absurd (omega arith)
part_below v q (suc d) lt = (div-lt_iff_lt-mul (omega arith)).1 lt

pub length_from : (N Q W : ℤ) (q w : ℕ) → N ≡ Q *ℤ W → Q ≡ pos q → W ≡ pos w → N ≡ pos (q * w)
length_from N Q W q w e f g = rw (e, f, g) refl

pub cell_from : (X W Y : ℤ) (x w y : ℕ) → X ≡ pos x → W ≡ pos w → Y ≡ pos y → (X *ℤ W) +ℤ Y ≡ pos (x * w + y)
cell_from X W Y x w y e f g = rw (e, f, g) refl

pub both_of : (a b : Bool) → (if a then b else false) ≡ true → (a ≡ true) × (b ≡ true)
both_of true b h = (refl, h)
both_of false b h = absurd (cc h)

rows_are : (b : Bool) (o : Option Expression) (q : Expression) → (if b then o else None) ≡ Some q → (b ≡ true) × (o ≡ Some q)
rows_are true o q h = (refl, h)
rows_are false o q h = absurd (cc h)

-- ---- so many more than a length
module _ (sizes variables : List ℕ) where
  pub sum_is : (m n : ℕ) (q : Expression) → literal_sum m n ≡ Some q → exact sizes variables q ≡ pos (m + n)
  sum_is m n q h = go (nat_lt (m + n) (2 ^ 32)) h
    where
      go : (b : Bool) → option_map Literal (if b then Some (m + n) else None) ≡ Some q → exact sizes variables q ≡ pos (m + n)
      go true e = let same : Literal (m + n) ≡ q = cc e in ap (exact sizes variables) (sym same)
      go false e = absurd (cc e)

  in_front : (n : ℕ) (e q : Expression) → Some (Binary Sum (Literal n) e) ≡ Some q → exact sizes variables q ≡ exact sizes variables e +ℤ pos n
  in_front n e q h = let same : Binary Sum (Literal n) e ≡ q = cc h in let z : ℤ = exact sizes variables e in ap (exact sizes variables) (sym same) ∙ front z
    where
      front : (z : ℤ) → pos n +ℤ z ≡ z +ℤ pos n
      front z = omega (arith, ints)

  longer_is : (e : Expression) (n : ℕ) (q : Expression) → longer e n ≡ Some q → exact sizes variables q ≡ exact sizes variables e +ℤ pos n
  longer_is (Literal m) n q h = sum_is m n q h
  longer_is (Variable k l g) n q h = in_front n (Variable k l g) q h
  longer_is (Size k) n q h = in_front n (Size k) q h
  longer_is (Binary Sum (Literal m) rest) n q h = go (literal_sum m n) refl h
    where
      front : (z : ℤ) → pos (m + n) +ℤ z ≡ (pos m +ℤ z) +ℤ pos n
      front z = omega (arith, ints)

      go : (s : Option Expression) → literal_sum m n ≡ s → option_map (λ number. Binary Sum number rest) s ≡ Some q → exact sizes variables q ≡ exact sizes variables (Binary Sum (Literal m) rest) +ℤ pos n
      go (Some number) is e =
          let same : Binary Sum number rest ≡ q = cc e in
          ap (exact sizes variables) (sym same) ∙ ap (λ z. z +ℤ exact sizes variables rest) (sum_is m n number is) ∙ front (exact sizes variables rest)
      go None is e = absurd (cc e)
  longer_is (Binary o a b) n q h = in_front n (Binary o a b) q h

-- made no less than a number that is then taken away
behind_is : (E M T : ℤ) (e m : ℕ) → E ≡ pos e → M ≡ pos m → T ≡ pos m → int_max E M -ℤ T ≡ pos (max e m - m)
behind_is E M T e m f g h = rw (f, g, h) (omega (arith, ints, clamps))

behind_below : (e m v n : ℕ) (N Q : ℤ) → N ≡ pos v → Q ≡ pos n → Q ≡ N +ℤ pos m → 0 < v → e < n → max e m - m < v
behind_below e m v n N Q f g h some lt =
    let long : n ≡ v + m = (let both : pos n ≡ pos (v + m) = sym g ∙ h ∙ ap (λ z. z +ℤ pos m) f in cc both) in
    omega arith

module _ (sizes variables : List ℕ) (r : PlainRanges) (loops : AreBelowLengths r sizes variables) (all : AreMultiples r sizes) (some : ArePositive r sizes) where
  cell_below : (row width column n : Expression) (rows : Option Expression) → rows_within r width column n ≡ rows → is_passed (λ q. is_digit_below r row q) rows ≡ true → (is_digit_below r column width ≡ true → IsColumn sizes variables column width) → ((q : Expression) → is_digit_below r row q ≡ true → IsColumn sizes variables row q) → IsColumn sizes variables (Binary Sum (Binary Product row width) column) n
  cell_below row width column n None e h within each = absurd (cc h)
  cell_below row width column n (Some q) e h within each =
      let parts = rows_are (is_digit_below r column width) (over n width) q e in
      let left = over_value sizes variables n width q parts.1 in
      let c = within parts.0 in
      let x = each q h in
      record {
        at = x.at * c.count + c.at;
        count = x.count * c.count;
        column_is = cell_from (exact sizes variables row) (exact sizes variables width) (exact sizes variables column) x.at c.count c.at x.column_is c.length_is c.column_is;
        length_is = length_from (exact sizes variables n) (exact sizes variables q) (exact sizes variables width) x.count c.count left x.length_is c.length_is;
        below = digits_lt x.below c.below;
      }

  quotient_is : (V D : ℤ) (v d : ℕ) → V ≡ pos v → D ≡ pos d → int_div V D ≡ pos (v / d)
  quotient_is V D v d e f = rw (e, f) refl

  remainder_is : (V D : ℤ) (v d : ℕ) → V ≡ pos v → D ≡ pos d → int_rem V D ≡ pos (v % d)
  remainder_is V D v d e f = rw (e, f) refl

  below_part : (v q d : ℕ) (K : ℤ) → pos v <ℤ K → K ≡ pos (q * d) → v / d < q
  below_part v q d K lt e = let less : pos v <ℤ pos (q * d) = subst (λ z. pos v <ℤ z) e lt in part_below v q d (omega (arith, ints))

  part_within : (k l g : ℕ) (d n known : Expression) (part : Option Expression) → pos (slice_index variables k) <ℤ exact sizes variables known → IfLeft sizes variables known d part → is_passed (is_part_within d n) part ≡ true → IsColumn sizes variables (Binary Quotient (Variable k l g) d) n
  part_within k l g d n known None lt left h = absurd (cc h)
  part_within k l g d n known (Some q) lt left h =
      let parts = and_parts (is_natural q && is_natural d) (is_no_longer q n) h in
      let numbers = and_parts (is_natural q) (is_natural d) parts.0 in
      let qn = count_value sizes variables 3 q numbers.0 in
      let dn = count_value sizes variables 3 d numbers.1 in
      let v : ℕ = slice_index variables k in
      let less = below_part v qn.0 dn.0 (exact sizes variables known) lt (length_from (exact sizes variables known) (exact sizes variables q) (exact sizes variables d) qn.0 dn.0 left qn.1 dn.1) in
      let under : pos (v / dn.0) <ℤ exact sizes variables q = subst (λ z. pos (v / dn.0) <ℤ z) (sym qn.1) (omega (arith, ints)) in
      let count = counted_longer sizes variables (v / dn.0) q n under parts.1 in
      record {
        at = v / dn.0;
        count = count.0;
        column_is = quotient_is (pos v) (exact sizes variables d) v dn.0 refl dn.1;
        length_is = count.1;
        below = count.2;
      }

  -- the greatest number is below one over a number, and so is each
  greatest_below : (k l g : ℕ) (d n : Expression) → slice_index variables k ≤ g → is_greatest_below g d n ≡ true → IsColumn sizes variables (Binary Quotient (Variable k l g) d) n
  greatest_below k l g (Literal d) (Literal m) le h =
      let parts = and_parts (nat_lt 0 d) (nat_lt (g / d) m) h in
      let v : ℕ = slice_index variables k in
      let lt = ltb-true (g / d) m parts.1 in
      let most : v / d ≤ g / d = le-div (v / d) g d (ltb-true 0 d parts.0) (let all = div-mul-le_self v d in omega arith) in
      record { at = v / d; count = m; column_is = quotient_is (pos v) (pos d) v d refl refl; length_is = refl; below = omega arith }
  greatest_below k l g (Literal d) n le h = let parts = and_parts (nat_lt 0 d) false h in absurd (cc parts.1)
  greatest_below k l g d n le h = absurd (cc h)

  known_below : (k l g : ℕ) (d n : Expression) (known : Option Expression) → slice_index variables k ≤ g → slice_get r.lengths k ≡ known → is_passed (λ e. is_greatest_below g d n || is_passed (is_part_within d n) (over e d)) known ≡ true → IsColumn sizes variables (Binary Quotient (Variable k l g) d) n
  known_below k l g d n None le at h = absurd (cc h)
  known_below k l g d n (Some known) le at h =
      elim (or_cases (is_greatest_below g d n) (is_passed (is_part_within d n) (over known d)) h) [
        | inl a ↦ greatest_below k l g d n le a
        | inr b ↦ part_within k l g d n known (over known d) (loops k known at) (over_left sizes variables known d) b
      ]

  quotient_below : (e d n : Expression) → AreWithin variables e → is_quotient_below r e d n ≡ true → IsColumn sizes variables (Binary Quotient e d) n
  quotient_below (Variable k l g) d n own h = known_below k l g d n (slice_get r.lengths k) own.1 refl h
  quotient_below _ d n own h = absurd (cc h)

  remainder_below : (e d n : Expression) → is_remainder_below r e d n ≡ true → IsColumn sizes variables (Binary Remainder e d) n
  remainder_below e (Literal d) n h =
      let parts = and_parts (nat_lt 0 d && is_some (slice_get r.lengths 0) && is_natural e) (is_at_least n d) h in
      let rest = and_parts (nat_lt 0 d && is_some (slice_get r.lengths 0)) (is_natural e) parts.0 in
      let some = ltb-true 0 d (and_parts (nat_lt 0 d) (is_some (slice_get r.lengths 0)) rest.0).0 in
      let v = count_value sizes variables 3 e rest.1 in
      let less : v.0 % d < d = mod-lt v.0 some in
      let count = counted_least sizes variables (v.0 % d) d n (omega (arith, ints)) parts.1 in
      record {
        at = v.0 % d;
        count = count.0;
        column_is = remainder_is (exact sizes variables e) (pos d) v.0 d v.1 refl;
        length_is = count.1;
        below = count.2;
      }
  remainder_below e _ n h = absurd (cc h)

  digit_is : (e n : Expression) → AreWithin variables e → is_digit_below r e n ≡ true → IsColumn sizes variables e n
  digit_is (Variable k l g) n own h = column_of sizes variables r loops (Variable k l g) n own h
  digit_is (Binary Quotient a b) n own h = quotient_below a b n own.0 h
  digit_is (Binary Remainder a b) n own h = remainder_below a b n h
  digit_is _ n own h = absurd (cc h)

  cell_is : (begin column n : Expression) → AreWithin variables (Binary Sum begin column) → is_sum_below r begin column n ≡ true → IsColumn sizes variables (Binary Sum begin column) n
  cell_is (Binary Product row width) column n own h =
      cell_below row width column n (rows_within r width column n) refl h (λ passed. digit_is column width own.1 passed) (λ q passed. digit_is row q own.0.0 passed)
  cell_is _ column n own h = absurd (cc h)

  behind : (e least taken n : Expression) (before : Option Expression) → length_before r least taken n ≡ before → is_passed (λ q. stays_below r e q) before ≡ true → ((q : Expression) → stays_below r e q ≡ true → IsColumn sizes variables e q)
      → IsColumn sizes variables (Binary Difference (Binary Greatest e least) taken) n
  behind e least taken n None is h each = absurd (cc h)
  behind e (Literal m) taken n (Some q) is h each =
      let parts = rows_are (is_number m taken && is_positive r n) (longer n m) q is in
      let tests = and_parts (is_number m taken) (is_positive r n) parts.0 in
      let c = each q h in
      let v = positive_value sizes variables r all some n tests.1 in
      record {
        at = max c.at m - m;
        count = v.0;
        column_is = behind_is (exact sizes variables e) (pos m) (exact sizes variables taken) c.at m c.column_is refl (sym (number_value sizes variables m taken tests.0));
        length_is = v.1;
        below = behind_below c.at m v.0 c.count (exact sizes variables n) (exact sizes variables q) v.1 c.length_is (longer_is sizes variables n m q parts.1) v.2 c.below;
      }
  behind e (Variable k l g) taken n (Some q) is h each = absurd (cc is)
  behind e (Size k) taken n (Some q) is h each = absurd (cc is)
  behind e (Binary o a b) taken n (Some q) is h each = absurd (cc is)

  pub below_is : (e n : Expression) → AreWithin variables e → stays_below r e n ≡ true → IsColumn sizes variables e n
  below_is (Binary Sum begin column) n own h = cell_is begin column n own h
  below_is (Binary Difference (Binary Greatest e least) taken) n own h = behind e least taken n (length_before r least taken n) refl h (λ q passed. below_is e q own.0.0 passed)
  below_is e n own h = digit_is e n own h
