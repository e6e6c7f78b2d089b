-- Each law keeps the value at every point of the ranges: one lemma a law.
use Rattle.std.proofs.Common.{◌≡◌, ℕ, suc, ℤ, pos, negsuc, ◌+◌, ◌-◌, ◌*◌, ◌^◌, ◌+ℤ◌, ◌-ℤ◌, ◌*ℤ◌, neg_ℤ, min, max, Bool, true, false, Some, None, List, refl, sym, ap, ◌∙◌, arith}
use Rattle.std.specs.Prelude.{◌&&◌, nat_lt, nat_le, int_div, int_rem, is_some, unwrap_or, if◌then◌else◌}
use Rattle.std.specs.Int.{int_min, int_max}
use Rattle.std.proofs.lemmas.Int.{ints, clamps}
use Rattle.std.proofs.lemmas.Bool.{and_parts, leb-true}
use Rattle.std.proofs.Math.Nat.{div-one, mod-one}
use Rattle.index_expr.specs.declared.operation.Operation.{Operation}
use Rattle.index_expr.specs.declared.operation.Operation.TheVariants.{Sum, Difference, Product, Quotient, Remainder, Least, Greatest}
use Rattle.index_expr.specs.Expression.{Expression, Literal}
use Rattle.index_expr.specs.Values.{operate, exact}
use Rattle.index_simplify.specs.PlainRanges.{PlainRanges}
use Rattle.index_simplify.specs.declared.law.Law.{Law}
use Rattle.index_simplify.specs.declared.law.Law.TheVariants.{Computed, PlusZero, ZeroPlus, MinusZero, MinusItself, TimesOne, OneTimes, TimesZero, ZeroTimes, OverOne, ModuloOne, WholeSize, ScaledSize, RowOfCell, ColumnOfCell, CellOfParts, GreatestZero, ZeroGreatest, LeastZero, ZeroLeast}
use Rattle.index_simplify.specs.Literals.{word, difference, computed_from, computed_with, computed}
use Rattle.index_simplify.specs.Tests.{same_operation, is_number, same, is_zero_beside, is_cell, are_parts, is_whole_size, is_scaled_size}
use Rattle.index_simplify.specs.Laws.{first_part, second_part, scaled, applies, applied}
use Rattle.index_simplify.specs.Ranges.{AreBelowLengths, AreMultiples, AreWithin}
use Rattle.index_simplify.proofs.Tests.{is_operation, number_value, same_value, zero_beside, row_value, column_value, parts_value, whole_size_value, scaled_size_value}

-- ---- the laws over the whole numbers
plus_zero : (z : ℤ) → z ≡ z +ℤ pos 0
plus_zero z = omega (arith, ints)

zero_plus : (z : ℤ) → z ≡ pos 0 +ℤ z
zero_plus z = omega (arith, ints)

minus_zero : (z : ℤ) → z ≡ z -ℤ pos 0
minus_zero z = omega (arith, ints)

minus_itself : (z : ℤ) → pos 0 ≡ z -ℤ z
minus_itself z = omega (arith, ints)

times_one : (z : ℤ) → z ≡ z *ℤ pos 1
times_one z = omega (arith, ints)

one_times : (z : ℤ) → z ≡ pos 1 *ℤ z
one_times z = omega (arith, ints)

times_zero : (z : ℤ) → pos 0 ≡ z *ℤ pos 0
times_zero z = omega (arith, ints)

zero_times : (z : ℤ) → pos 0 ≡ pos 0 *ℤ z
zero_times z = omega (arith, ints)

over_one : (z : ℤ) → z ≡ int_div z (pos 1)
over_one (pos n) = ap pos (sym (div-one n))
over_one (negsuc n) = ap (λ x. neg_ℤ (pos x)) (sym (div-one (suc n)))

modulo_one : (z : ℤ) → pos 0 ≡ int_rem z (pos 1)
modulo_one (pos n) = ap pos (sym (mod-one n))
modulo_one (negsuc n) = ap (λ x. neg_ℤ (pos x)) (sym (mod-one (suc n)))

greatest_first : (x y : ℤ) (n : ℕ) → x ≡ pos n → y ≡ pos 0 → x ≡ int_max x y
greatest_first x y n e f = rw (e, f) (omega (arith, ints, clamps))

greatest_second : (x y : ℤ) (n : ℕ) → x ≡ pos 0 → y ≡ pos n → y ≡ int_max x y
greatest_second x y n e f = rw (e, f) (omega (arith, ints, clamps))

least_first : (x y : ℤ) (n : ℕ) → x ≡ pos 0 → y ≡ pos n → pos 0 ≡ int_min x y
least_first x y n e f = rw (e, f) (omega (arith, ints, clamps))

least_second : (x y : ℤ) (n : ℕ) → x ≡ pos n → y ≡ pos 0 → pos 0 ≡ int_min x y
least_second x y n e f = rw (e, f) (omega (arith, ints, clamps))

-- ---- operations on two numbers
word_is : (n : ℕ) → is_some (word n) ≡ true → unwrap_or (word n) 0 ≡ n
word_is n h = go (nat_lt n (2 ^ 32)) h
  where
    go : (b : Bool) → is_some (if b then Some n else None) ≡ true → unwrap_or (if b then Some n else None) 0 ≡ n
    go true h = refl
    go false h = absurd (cc h)

difference_is : (m n : ℕ) → is_some (difference m n) ≡ true → pos (unwrap_or (difference m n) 0) ≡ pos m -ℤ pos n
difference_is m n h = go (nat_le n m) refl h
  where
    go : (b : Bool) → nat_le n m ≡ b → is_some (if b then Some (m - n) else None) ≡ true → pos (unwrap_or (if b then Some (m - n) else None) 0) ≡ pos m -ℤ pos n
    go true e h = let le = leb-true n m e in omega (arith, ints)
    go false e h = absurd (cc h)

least_is : (x y : ℕ) → pos (min x y) ≡ int_min (pos x) (pos y)
least_is x y = omega (arith, ints, clamps)

greatest_is : (x y : ℕ) → pos (max x y) ≡ int_max (pos x) (pos y)
greatest_is x y = omega (arith, ints, clamps)

from_value : (o : Operation) (m n : ℕ) → is_some (computed_from o m n) ≡ true → pos (unwrap_or (computed_from o m n) 0) ≡ operate o (pos m) (pos n)
from_value Sum m n h = ap pos (word_is (m + n) h)
from_value Difference m n h = difference_is m n h
from_value Product m n h = ap pos (word_is (m * n) h)
from_value Quotient m n h = refl
from_value Remainder m n h = refl
from_value Least m n h = least_is m n
from_value Greatest m n h = greatest_is m n

module _ (sizes variables : List ℕ) where
  with_value : (o : Operation) (m : ℕ) (b : Expression) → is_some (computed_with o m b) ≡ true → pos (unwrap_or (computed_with o m b) 0) ≡ operate o (pos m) (exact sizes variables b)
  with_value o m (Literal n) h = from_value o m n h
  with_value o m _ h = absurd (cc h)

  computed_value : (o : Operation) (a b : Expression) → is_some (computed o a b) ≡ true → pos (unwrap_or (computed o a b) 0) ≡ operate o (exact sizes variables a) (exact sizes variables b)
  computed_value o (Literal m) b h = with_value o m b h
  computed_value o _ b h = absurd (cc h)

  -- the value where a law's operation and one operand are known
  by_second : (o p : Operation) (n : ℕ) (a b s : Expression) → (same_operation o p && is_number n b) ≡ true → exact sizes variables s ≡ operate p (exact sizes variables a) (pos n) → exact sizes variables s ≡ operate o (exact sizes variables a) (exact sizes variables b)
  by_second o p n a b s h e =
      let parts = and_parts (same_operation o p) (is_number n b) h in
      e ∙ ap (operate p (exact sizes variables a)) (number_value sizes variables n b parts.1)
      ∙ ap (λ q. operate q (exact sizes variables a) (exact sizes variables b)) (sym (is_operation o p parts.0))

  by_first : (o p : Operation) (n : ℕ) (a b s : Expression) → (same_operation o p && is_number n a) ≡ true → exact sizes variables s ≡ operate p (pos n) (exact sizes variables b) → exact sizes variables s ≡ operate o (exact sizes variables a) (exact sizes variables b)
  by_first o p n a b s h e =
      let parts = and_parts (same_operation o p) (is_number n a) h in
      e ∙ ap (λ z. operate p z (exact sizes variables b)) (number_value sizes variables n a parts.1)
      ∙ ap (λ q. operate q (exact sizes variables a) (exact sizes variables b)) (sym (is_operation o p parts.0))

  by_test : (o p : Operation) (t : Bool) (a b s : Expression) → (same_operation o p && t) ≡ true → (t ≡ true → exact sizes variables s ≡ operate p (exact sizes variables a) (exact sizes variables b)) → exact sizes variables s ≡ operate o (exact sizes variables a) (exact sizes variables b)
  by_test o p t a b s h e =
      let parts = and_parts (same_operation o p) t h in
      e parts.1 ∙ ap (λ q. operate q (exact sizes variables a) (exact sizes variables b)) (sym (is_operation o p parts.0))

  pub law_value : (r : PlainRanges) → AreBelowLengths r sizes variables → AreMultiples r sizes → (law : Law) (o : Operation) (a b : Expression) → AreWithin variables a → applies r law o a b ≡ true → exact sizes variables (applied law o a b) ≡ operate o (exact sizes variables a) (exact sizes variables b)
  law_value r loops all Computed o a b own h = computed_value o a b h
  law_value r loops all PlusZero o a b own h = by_second o Sum 0 a b a h (plus_zero (exact sizes variables a))
  law_value r loops all ZeroPlus o a b own h = by_first o Sum 0 a b b h (zero_plus (exact sizes variables b))
  law_value r loops all MinusZero o a b own h = by_second o Difference 0 a b a h (minus_zero (exact sizes variables a))
  law_value r loops all MinusItself o a b own h = by_test o Difference (same a b) a b (Literal 0) h (λ t. minus_itself (exact sizes variables a) ∙ ap (λ z. exact sizes variables a -ℤ z) (same_value sizes variables a b t))
  law_value r loops all TimesOne o a b own h = by_second o Product 1 a b a h (times_one (exact sizes variables a))
  law_value r loops all OneTimes o a b own h = by_first o Product 1 a b b h (one_times (exact sizes variables b))
  law_value r loops all TimesZero o a b own h = by_second o Product 0 a b (Literal 0) h (times_zero (exact sizes variables a))
  law_value r loops all ZeroTimes o a b own h = by_first o Product 0 a b (Literal 0) h (zero_times (exact sizes variables b))
  law_value r loops all OverOne o a b own h = by_second o Quotient 1 a b a h (over_one (exact sizes variables a))
  law_value r loops all ModuloOne o a b own h = by_second o Remainder 1 a b (Literal 0) h (modulo_one (exact sizes variables a))
  law_value r loops all WholeSize o a b own h = by_test o Product (is_whole_size r a b) a b (first_part b) h (whole_size_value sizes variables r a b all)
  law_value r loops all ScaledSize o a b own h = by_test o Product (is_scaled_size r a b) a b (scaled a b) h (scaled_size_value sizes variables r a b all)
  law_value r loops all RowOfCell o a b own h = by_test o Quotient (is_cell r a b) a b (first_part (first_part a)) h (row_value sizes variables r loops a b own)
  law_value r loops all ColumnOfCell o a b own h = by_test o Remainder (is_cell r a b) a b (second_part a) h (column_value sizes variables r loops a b own)
  law_value r loops all CellOfParts o a b own h = by_test o Sum (are_parts a b) a b (first_part (first_part a)) h (parts_value sizes variables a b)
  law_value r loops all GreatestZero o a b own h = by_test o Greatest (is_zero_beside b a) a b a h (λ t. let z = zero_beside sizes variables b a t in greatest_first (exact sizes variables a) (exact sizes variables b) z.at z.other_is z.zero_is)
  law_value r loops all ZeroGreatest o a b own h = by_test o Greatest (is_zero_beside a b) a b b h (λ t. let z = zero_beside sizes variables a b t in greatest_second (exact sizes variables a) (exact sizes variables b) z.at z.zero_is z.other_is)
  law_value r loops all LeastZero o a b own h = by_test o Least (is_zero_beside b a) a b (Literal 0) h (λ t. let z = zero_beside sizes variables b a t in least_second (exact sizes variables a) (exact sizes variables b) z.at z.other_is z.zero_is)
  law_value r loops all ZeroLeast o a b own h = by_test o Least (is_zero_beside a b) a b (Literal 0) h (λ t. let z = zero_beside sizes variables a b t in least_first (exact sizes variables a) (exact sizes variables b) z.at z.zero_is z.other_is)
