-- By the laws that know of no loop, an expression keeps its value on words, also where something in
-- it wraps: one lemma a law.
use Rattle.std.proofs.Common.{◌≡◌, ◌≢◌, ℕ, zero, suc, ◌+◌, ◌-◌, ◌*◌, ◌/◌, ◌%◌, ◌^◌, ◌<◌, ◌≤◌, Bool, true, false, Option, Some, None, List, [], refl, sym, ap, ◌∙◌, subst, ⊎_elim, arith}
use Rattle.std.specs.Prelude.{◌==◌, ◌&&◌, ◌||◌, nat_lt, nat_le, is_some, unwrap_or, option_map, if◌then◌else◌, slice_get, slice_index, replicate}
use Rattle.std.proofs.Math.Nat.{mod-lt, mod-le, mod-eq_of_lt, div-le_self, div-add-mod, mul_assoc, mul_comm, div-one, mod-one}
use Rattle.std.proofs.lemmas.Bool.{and_from, and_parts, or_cases, eqb-true, eq-eqb, ne_eqb, ltb-true, leb-true}
use Rattle.std.proofs.lemmas.Option.{same_Some}
use Rattle.index_expr.specs.declared.operation.Operation.{Operation}
use Rattle.index_expr.specs.declared.operation.Operation.TheVariants.{Sum, Difference, Product, Quotient, Remainder, Least, Greatest}
use Rattle.index_expr.specs.Expression.{Expression, Variable, Literal, Size, Binary}
use Rattle.index_expr.specs.Values.{operate_words, Divides}
use Rattle.kernel_tree.specs.Formula as formula
use Rattle.kernel_tree.specs.Formula.{Formula, Ids, Vars, operate, with_both, value}
use Rattle.length_spelling.specs.Turns.{turn_formula, turns_of}
use Rattle.length_spelling.specs.Formulas.{index_formula, operator_of}
use Rattle.length_spelling.specs.Laws.{AreWords}
use Rattle.index_simplify.specs.PlainRanges.{PlainRanges}
use Rattle.index_simplify.specs.declared.law.Law.{Law}
use Rattle.index_simplify.specs.declared.law.Law.TheVariants as law
use Rattle.index_simplify.specs.declared.law.TheConstants.{LAWS}
use Rattle.index_simplify.specs.Literals.{word, difference, computed_from, computed_with, computed}
use Rattle.index_simplify.specs.Tests.{same_operation, same_variable, is_number, same_size, same, is_above, is_at_least, is_below, is_count, is_zero_beside, is_begin, is_cell, is_quotient, is_rounded, are_parts, is_known_multiple, is_multiple, is_positive, is_part_of, is_base, is_part_base, is_whole_size, is_scaled_size}
use Rattle.index_simplify.specs.Laws.{first_part, scaled, applies, applied}
use Rattle.index_simplify.specs.Operations.{first_law, by_law, tabled, recut, simple}
use Rattle.index_simplify.specs.Factors.{over}
use Rattle.index_simplify.specs.Below.{is_natural, is_passed, is_quotient_below, is_remainder_below, is_digit_below, rows_within, is_sum_below, literal_sum, longer, length_before, stays_below, is_at_most}
use Rattle.index_simplify.specs.Cells as cells
use Rattle.index_simplify.specs.Cells.{natural_over, cell_over, cell_modulo, sum_over, sum_modulo, rows_around, remainder_over, remainder_modulo, quotient_of, remainder_of, part_of, parted_operation, parted}
use Rattle.index_simplify.specs.Ranges.{AreMultiples, ArePositive}
use Rattle.index_simplify.specs.Simplified.{HasWordLiterals}
use Rattle.index_simplify.specs.Promises.{SameOperationsAreEqual}
use Rattle.tidy_indices.proofs.Known.{Known}
use Rattle.tidy_indices.proofs.Readings.{AreWide}
use Rattle.tidy_indices.proofs.Spelled.{turn_value}

-- ---- words
past_word : (x : ℕ) → x < 2 ^ 32 → (x + 2 ^ 32) % 2 ^ 32 ≡ x
past_word x lt = omega arith

minus_nothing : (x : ℕ) → x < 2 ^ 32 → (x + (2 ^ 32 - 0)) % 2 ^ 32 ≡ x
minus_nothing x lt = past_word x lt

minus_same : (x : ℕ) → x < 2 ^ 32 → (x + (2 ^ 32 - x)) % 2 ^ 32 ≡ 0
minus_same x lt = omega arith

minus_less : (m k : ℕ) → k ≤ m → m < 2 ^ 32 → (m + (2 ^ 32 - k)) % 2 ^ 32 ≡ m - k
minus_less m k le lt = let same : m + (2 ^ 32 - k) ≡ (m - k) + 2 ^ 32 = omega arith in ap (λ z. z % 2 ^ 32) same ∙ past_word (m - k) (omega arith)

word_of_result : (o : Operation) (x y : ℕ) → x < 2 ^ 32 → y < 2 ^ 32 → operate_words o x y < 2 ^ 32
word_of_result Sum x y h k = mod-lt _ (omega arith)
word_of_result Difference x y h k = mod-lt _ (omega arith)
word_of_result Product x y h k = mod-lt _ (omega arith)
word_of_result Quotient x y h k = let l = div-le_self x y in omega arith
word_of_result Remainder x y h k = let l = mod-le x y in omega arith
word_of_result Least x y h k = omega arith
word_of_result Greatest x y h k = omega arith

-- ---- an operation with its result
result_is : (o : Operation) (x y : ℕ) → (Divides o → y ≢ 0) → operate (operator_of o) x y ≡ Some (operate_words o x y)
result_is Sum x y h = refl
result_is Difference x y h = refl
result_is Product x y h = refl
result_is Quotient x y h = ap (λ (b : Bool). if b then None else Some (x / y)) (ne_eqb y 0 (h tt))
result_is Remainder x y h = ap (λ (b : Bool). if b then None else Some (x % y)) (ne_eqb y 0 (h tt))
result_is Least x y h = refl
result_is Greatest x y h = refl

record IsResult (o : Operation) (x y n : ℕ) : Type 0 where
  result : n ≡ operate_words o x y
  divisor : Divides o → y ≢ 0

divided : (o : Operation) (x y n z : ℕ) (b : Bool) → (y == 0) ≡ b → z ≡ operate_words o x y → (if b then None else Some z) ≡ Some n → IsResult o x y n
divided o x y n z true e is h = absurd (cc h)
divided o x y n z false e is h =
    let same : z ≡ n = cc h in
    record { result = sym same ∙ is; divisor = λ w zero. let t : (y == 0) ≡ true = eq-eqb y 0 zero in absurd (cc (t, e)) }

result_back : (o : Operation) (x y n : ℕ) → operate (operator_of o) x y ≡ Some n → IsResult o x y n
result_back Sum x y n h = record { result = cc h; divisor = λ w. absurd w }
result_back Difference x y n h = record { result = cc h; divisor = λ w. absurd w }
result_back Product x y n h = record { result = cc h; divisor = λ w. absurd w }
result_back Quotient x y n h = divided Quotient x y n (x / y) (y == 0) refl refl h
result_back Remainder x y n h = divided Remainder x y n (x % y) (y == 0) refl refl h
result_back Least x y n h = record { result = cc h; divisor = λ w. absurd w }
result_back Greatest x y n h = record { result = cc h; divisor = λ w. absurd w }

-- ---- what is computed of literals
word_computed : (n : ℕ) → is_some (word n) ≡ true → unwrap_or (word n) 0 ≡ n % 2 ^ 32
word_computed n h = go (nat_lt n (2 ^ 32)) refl h
  where
    go : (b : Bool) → nat_lt n (2 ^ 32) ≡ b → is_some (if b then Some n else None) ≡ true → unwrap_or (if b then Some n else None) 0 ≡ n % 2 ^ 32
    go true e h = sym (mod-eq_of_lt (ltb-true n (2 ^ 32) e))
    go false e h = absurd (cc h)

difference_computed : (m n : ℕ) → m < 2 ^ 32 → is_some (difference m n) ≡ true → unwrap_or (difference m n) 0 ≡ (m + (2 ^ 32 - n)) % 2 ^ 32
difference_computed m n lt h = go (nat_le n m) refl h
  where
    go : (b : Bool) → nat_le n m ≡ b → is_some (if b then Some (m - n) else None) ≡ true → unwrap_or (if b then Some (m - n) else None) 0 ≡ (m + (2 ^ 32 - n)) % 2 ^ 32
    go true e h = sym (minus_less m n (leb-true n m e) lt)
    go false e h = absurd (cc h)

from_computed : (o : Operation) (m n : ℕ) → m < 2 ^ 32 → is_some (computed_from o m n) ≡ true → unwrap_or (computed_from o m n) 0 ≡ operate_words o m n
from_computed Sum m n lt h = word_computed (m + n) h
from_computed Difference m n lt h = difference_computed m n lt h
from_computed Product m n lt h = word_computed (m * n) h
from_computed Quotient m n lt h = refl
from_computed Remainder m n lt h = refl
from_computed Least m n lt h = refl
from_computed Greatest m n lt h = refl

record AreLiterals (a b : Expression) : Type 0 where
  first : ℕ
  second : ℕ
  first_is : a ≡ Literal first
  second_is : b ≡ Literal second

with_literal : (o : Operation) (m : ℕ) (b : Expression) → is_some (computed_with o m b) ≡ true → AreLiterals (Literal m) b
with_literal o m (Literal n) h = record { first = m; second = n; first_is = refl; second_is = refl }
with_literal o m _ h = absurd (cc h)

are_literals : (o : Operation) (a b : Expression) → is_some (computed o a b) ≡ true → AreLiterals a b
are_literals o (Literal m) b h = with_literal o m b h
are_literals o _ b h = absurd (cc h)

number_is : (n : ℕ) (e : Expression) → is_number n e ≡ true → e ≡ Literal n
number_is n (Literal m) h = ap Literal (sym (eqb-true n m h))
number_is n _ h = absurd (cc h)

-- ---- the same but for the ranges of variables: the same formula
variable_formula : (k l g : ℕ) (e : Expression) → same_variable k e ≡ true → index_formula (Variable k l g) ≡ index_formula e
variable_formula k l g (Variable j m h) e = ap turn_formula (eqb-true k j e)
variable_formula k l g _ e = absurd (cc e)

size_formula : (k : ℕ) (e : Expression) → same_size k e ≡ true → index_formula (Size k) ≡ index_formula e
size_formula k (Size j) e = ap formula.Size (eqb-true k j e)
size_formula k _ e = absurd (cc e)

same_formula : SameOperationsAreEqual → (a b : Expression) → same a b ≡ true → index_formula a ≡ index_formula b
same_formula equal (Variable k l g) b h = variable_formula k l g b h
same_formula equal (Literal n) b h = ap index_formula (sym (number_is n b h))
same_formula equal (Size k) b h = size_formula k b h
same_formula equal (Binary o a b) (Binary p c d) h =
    let parts = and_parts (same_operation o p && same a c) (same b d) h in
    let front = and_parts (same_operation o p) (same a c) parts.0 in
    ap (λ q. formula.Binary (operator_of q) (index_formula a) (index_formula b)) (equal o p front.0)
    ∙ ap (λ z. formula.Binary (operator_of p) z (index_formula b)) (same_formula equal a c front.1)
    ∙ ap (formula.Binary (operator_of p) (index_formula c)) (same_formula equal b d parts.1)
same_formula equal (Binary o a b) _ h = absurd (cc h)

-- ---- the shapes that the laws' tests ask for
multiple_known : (k : ℕ) (known : Option ℕ) (d : Expression) → is_known_multiple known d ≡ true → (m : ℕ) × (known ≡ Some m) × (d ≡ Literal m)
multiple_known k None d h = absurd (cc h)
multiple_known k (Some m) d h = (m, refl, number_is m d h)

-- a size with a literal that it is a multiple of
record IsMultiple (r : PlainRanges) (size d : Expression) : Type 0 where
  number : ℕ
  divisor : ℕ
  size_is : size ≡ Size number
  divisor_is : d ≡ Literal divisor
  known : slice_get r.multiples number ≡ Some divisor

multiple_is : (r : PlainRanges) (size d : Expression) → is_multiple r size d ≡ true → IsMultiple r size d
multiple_is r (Size k) d h =
    let found = multiple_known k (slice_get r.multiples k) d h in
    record { number = k; divisor = found.0; size_is = refl; divisor_is = found.2; known = found.1 }
multiple_is r _ d h = absurd (cc h)

-- a literal beside a size over its divisor
record IsScaled (r : PlainRanges) (a b : Expression) : Type 0 where
  times : ℕ
  number : ℕ
  divisor : ℕ
  first_is : a ≡ Literal times
  second_is : b ≡ Binary Quotient (Size number) (Literal divisor)
  known : slice_get r.multiples number ≡ Some divisor

-- the same, and the literal is the divisor
whole_is : (r : PlainRanges) (a b : Expression) → is_whole_size r a b ≡ true → (p : IsScaled r a b) × (p.divisor ≡ p.times)
whole_is r (Literal c) b h = base_is r c b h
  where
    base_is : (r : PlainRanges) (c : ℕ) (b : Expression) → is_base r c b ≡ true → (p : IsScaled r (Literal c) b) × (p.divisor ≡ p.times)
    base_is r c (Binary Quotient size d) h =
        let parts = and_parts (is_number c d) (is_multiple r size d) h in
        let m = multiple_is r size d parts.1 in
        let twice : Literal m.divisor ≡ Literal c = sym m.divisor_is ∙ number_is c d parts.0 in (
          record {
            times = c;
            number = m.number;
            divisor = m.divisor;
            first_is = refl;
            second_is = ap (λ x. Binary Quotient x d) m.size_is ∙ ap (Binary Quotient (Size m.number)) m.divisor_is;
            known = m.known;
          },
          cc twice,
        )
    base_is r c _ h = absurd (cc h)
whole_is r _ b h = absurd (cc h)

part_is : (c m : ℕ) (d : Expression) → d ≡ Literal m → is_part_of c d ≡ true → c % m ≡ 0
part_is c m d e h = go (subst (λ x. is_part_of c x ≡ true) e h)
  where
    go : is_part_of c (Literal m) ≡ true → c % m ≡ 0
    go t = eqb-true (c % m) 0 (and_parts (nat_lt 0 m && nat_lt m c) (c % m == 0) t).1

-- the same, and the literal is a multiple of the divisor
scaled_is : (r : PlainRanges) (a b : Expression) → is_scaled_size r a b ≡ true → (p : IsScaled r a b) × (p.times % p.divisor ≡ 0)
scaled_is r (Literal c) b h = part_base r c b h
  where
    part_base : (r : PlainRanges) (c : ℕ) (b : Expression) → is_part_base r c b ≡ true → (p : IsScaled r (Literal c) b) × (p.times % p.divisor ≡ 0)
    part_base r c (Binary Quotient size d) h =
        let parts = and_parts (is_part_of c d) (is_multiple r size d) h in
        let m = multiple_is r size d parts.1 in (
          record {
            times = c;
            number = m.number;
            divisor = m.divisor;
            first_is = refl;
            second_is = ap (λ x. Binary Quotient x d) m.size_is ∙ ap (Binary Quotient (Size m.number)) m.divisor_is;
            known = m.known;
          },
          part_is c m.divisor d m.divisor_is parts.0,
        )
    part_base r c _ h = absurd (cc h)
scaled_is r _ b h = absurd (cc h)

-- the two parts of a number
record AreParts (a b : Expression) : Type 0 where
  number : Expression
  divisor : Formula
  number_is : first_part (first_part a) ≡ number
  first_is : index_formula a ≡ formula.Binary (operator_of Product) (formula.Binary (operator_of Quotient) (index_formula number) divisor) divisor
  second_is : index_formula b ≡ formula.Binary (operator_of Remainder) (index_formula number) divisor

quotient_is : SameOperationsAreEqual → (q d m : Expression) → is_quotient q d m ≡ true → (index_formula q ≡ formula.Binary (operator_of Quotient) (index_formula (first_part q)) (index_formula m)) × (index_formula (first_part q) ≡ index_formula d)
quotient_is equal (Binary Quotient e n) d m h =
    let parts = and_parts (same n m) (same e d) h in
    (ap (formula.Binary (operator_of Quotient) (index_formula e)) (same_formula equal n m parts.0), same_formula equal e d parts.1)
quotient_is equal _ d m h = absurd (cc h)

rounded_is : SameOperationsAreEqual → (a d m : Expression) → is_rounded a d m ≡ true → AreParts a (Binary Remainder d m)
rounded_is equal (Binary Product q n) d m h =
    let parts = and_parts (same n m) (is_quotient q d m) h in
    let x = quotient_is equal q d m parts.1 in
    record {
      number = first_part q;
      divisor = index_formula m;
      number_is = refl;
      first_is = ap (formula.Binary (operator_of Product) (index_formula q)) (same_formula equal n m parts.0) ∙ ap (λ z. formula.Binary (operator_of Product) z (index_formula m)) x.0;
      second_is = ap (λ z. formula.Binary (operator_of Remainder) z (index_formula m)) (sym x.1);
    }
rounded_is equal _ d m h = absurd (cc h)

parts_are : SameOperationsAreEqual → (a b : Expression) → are_parts a b ≡ true → AreParts a b
parts_are equal a (Binary Remainder d m) h = rounded_is equal a d m h
parts_are equal a _ h = absurd (cc h)

-- ---- one of the two is 0
beside_zero : (o p : Operation) (nothing other : Expression) → (same_operation o p && is_zero_beside nothing other) ≡ true → (same_operation o p && is_number 0 nothing) ≡ true
beside_zero o p nothing other h =
    let parts = and_parts (same_operation o p) (is_zero_beside nothing other) h in
    and_from (same_operation o p) (is_number 0 nothing) parts.0 (and_parts (is_number 0 nothing) (is_count 3 other) parts.1).0

-- ---- no variable that may be any word stays below a word
filled : (k n : ℕ) → slice_index (replicate (suc k) n) k ≡ n
filled zero n = refl
filled (suc k) n = filled k n

filled_word : (k n j : ℕ) → n < 2 ^ 32 → slice_index (replicate k n) j < 2 ^ 32
filled_word zero n j lt = omega arith
filled_word (suc k) n zero lt = lt
filled_word (suc k) n (suc j) lt = filled_word k n j lt

not_above : (n : Expression) (g : ℕ) → HasWordLiterals n → 4294967295 ≤ g → is_above n g ≡ true → ⊥
not_above (Literal n) g lt le h = let more = ltb-true g n h in absurd (omega arith)
not_above _ g lt le h = absurd (cc h)

only : (b : Bool) → (b || false) ≡ true → b ≡ true
only true h = refl
only false h = absurd (cc h)

both_of : (a b : Bool) → (if a then b else false) ≡ true → (a ≡ true) × (b ≡ true)
both_of true b h = (refl, h)
both_of false b h = absurd (cc h)

-- ---- so many more than a length of words is one
sum_words : (m n : ℕ) (q : Expression) → literal_sum m n ≡ Some q → HasWordLiterals q
sum_words m n q h = go (nat_lt (m + n) (2 ^ 32)) refl h
  where
    go : (b : Bool) → nat_lt (m + n) (2 ^ 32) ≡ b → option_map Literal (if b then Some (m + n) else None) ≡ Some q → HasWordLiterals q
    go true lt e = let same : Literal (m + n) ≡ q = cc e in subst HasWordLiterals same (ltb-true (m + n) (2 ^ 32) lt)
    go false lt e = absurd (cc e)

front_words : (n : ℕ) (e q : Expression) → n < 2 ^ 32 → HasWordLiterals e → Some (Binary Sum (Literal n) e) ≡ Some q → HasWordLiterals q
front_words n e q lt x h = subst HasWordLiterals (same_Some _ _ h) (lt, x)

longer_words : (e : Expression) (n : ℕ) (q : Expression) → HasWordLiterals e → n < 2 ^ 32 → longer e n ≡ Some q → HasWordLiterals q
longer_words (Literal m) n q x lt h = sum_words m n q h
longer_words (Variable k l g) n q x lt h = front_words n (Variable k l g) q lt x h
longer_words (Size k) n q x lt h = front_words n (Size k) q lt x h
longer_words (Binary Sum (Literal m) rest) n q x lt h = go (literal_sum m n) refl h
  where
    go : (s : Option Expression) → literal_sum m n ≡ s → option_map (λ number. Binary Sum number rest) s ≡ Some q → HasWordLiterals q
    go (Some number) is e = subst HasWordLiterals (same_Some _ _ e) (sum_words m n number is, x.1)
    go None is e = absurd (cc e)
longer_words (Binary o a b) n q x lt h = front_words n (Binary o a b) q lt x h

-- by what is known of sizes alone
module _ (facts : Known) (multiples : List ℕ) where
  abbrev Sizes : PlainRanges
  Sizes = record { lengths = []; multiples = multiples }

  not_below : (column n : Expression) → AreWide column → HasWordLiterals n → is_below Sizes column n ≡ true → ⊥
  not_below (Variable k l g) n wide lt h =
      let turns : List ℕ = replicate (suc k) 4294967295 in
      let within = wide turns (λ j. filled_word (suc k) 4294967295 j (omega arith)) in
      not_above n g lt (subst (λ z. z ≤ g) (filled k 4294967295) within.1) (only (is_above n g) h)
  not_below _ n wide lt h = absurd (cc h)

  not_cell : (e n : Expression) → AreWide e → HasWordLiterals n → is_cell Sizes e n ≡ true → ⊥
  not_cell (Binary Sum begin column) n wide lt h = not_below column n (λ turns w. (wide turns w).1) lt (and_parts (is_begin begin n) (is_below Sizes column n) h).1
  not_cell _ n wide lt h = absurd (cc h)

  -- ---- so no law of what stays below a length is of any operation
  unless : (b : Bool) (x : Option Expression) → (b ≡ true → ⊥) → (if b then x else None) ≡ None
  unless true x h = absurd (h refl)
  unless false x h = refl

  no_quotient : (a d n : Expression) → is_quotient_below Sizes a d n ≡ true → ⊥
  no_quotient (Variable k l g) d n h = absurd (cc h)
  no_quotient _ d n h = absurd (cc h)

  no_remainder : (a d n : Expression) → is_remainder_below Sizes a d n ≡ true → ⊥
  no_remainder a (Literal d) n h =
      let front = and_parts (nat_lt 0 d && false && is_natural a) (is_at_least n d) h in
      let rest = and_parts (nat_lt 0 d && false) (is_natural a) front.0 in
      absurd (cc (and_parts (nat_lt 0 d) false rest.0).1)
  no_remainder a _ n h = absurd (cc h)

  no_digit : (e n : Expression) → AreWide e → HasWordLiterals n → is_digit_below Sizes e n ≡ true → ⊥
  no_digit (Variable k l g) n wide y h = not_below (Variable k l g) n wide y h
  no_digit (Binary Quotient a b) n wide y h = no_quotient a b n h
  no_digit (Binary Remainder a b) n wide y h = no_remainder a b n h
  no_digit _ n wide y h = absurd (cc h)

  no_sum : (begin column n : Expression) → AreWide column → HasWordLiterals begin → is_sum_below Sizes begin column n ≡ true → ⊥
  no_sum (Binary Product row width) column n wide x h =
      let none : rows_within Sizes width column n ≡ None = unless (is_digit_below Sizes column width) (over n width) (no_digit column width wide x.1) in
      let passed : is_passed (λ q. is_digit_below Sizes row q) None ≡ true = subst (λ o. is_passed (λ q. is_digit_below Sizes row q) o ≡ true) none h in
      absurd (cc passed)
  no_sum _ column n wide x h = absurd (cc h)

  no_front : (e least taken n : Expression) (before : Option Expression) → length_before Sizes least taken n ≡ before → HasWordLiterals least → HasWordLiterals n → ((q : Expression) → HasWordLiterals q → stays_below Sizes e q ≡ true → ⊥) → is_passed (λ q. stays_below Sizes e q) before ≡ true → ⊥
  no_front e least taken n None is x y none h = absurd (cc h)
  no_front e (Literal m) taken n (Some q) is x y none h = none q (go (is_number m taken && is_positive Sizes n) is) h
    where
      go : (b : Bool) → (if b then longer n m else None) ≡ Some q → HasWordLiterals q
      go true e = longer_words n m q y x e
      go false e = absurd (cc e)
  no_front e (Variable k l g) taken n (Some q) is x y none h = absurd (cc is)
  no_front e (Size k) taken n (Some q) is x y none h = absurd (cc is)
  no_front e (Binary o a b) taken n (Some q) is x y none h = absurd (cc is)

  stays_nowhere : (e n : Expression) → AreWide e → HasWordLiterals e → HasWordLiterals n → stays_below Sizes e n ≡ true → ⊥
  stays_nowhere (Binary Sum begin column) n wide x y h = no_sum begin column n (λ turns w. (wide turns w).1) x.0 h
  stays_nowhere (Binary Difference (Binary Greatest e least) taken) n wide x y h =
      no_front e least taken n (length_before Sizes least taken n) refl x.0.1 y (λ q z passed. stays_nowhere e q (λ turns w. (wide turns w).0.0) x.0.0 z passed) h
  stays_nowhere e n wide x y h = no_digit e n wide y h

  -- nor is anything at most a number
  never_at_most : (e last : Expression) → AreWide e → HasWordLiterals e → HasWordLiterals last → is_at_most Sizes e last ≡ true → ⊥
  never_at_most e (Literal m) wide x y h = go (literal_sum m 1) refl h
    where
      go : (n : Option Expression) → literal_sum m 1 ≡ n → is_passed (λ n. stays_below Sizes e n) n ≡ true → ⊥
      go (Some n) is h = stays_nowhere e n wide x (sum_words m 1 n is) h
      go None is h = absurd (cc h)
  never_at_most e (Binary Difference n one) wide x y h = stays_nowhere e n wide x y.0 (and_parts (is_number 1 one) (stays_below Sizes e n) h).1
  never_at_most e _ wide x y h = absurd (cc h)

  no_cell : (row width column : Expression) → AreWide column → HasWordLiterals column → HasWordLiterals width → cells.is_cell Sizes row width column ≡ true → ⊥
  no_cell row width column wide x y h = stays_nowhere column width wide x y (both_of (is_natural row) (stays_below Sizes column width) h).1

  no_sum_over : (begin column n : Expression) → AreWide column → HasWordLiterals begin → HasWordLiterals column → sum_over Sizes begin column n ≡ None
  no_sum_over (Binary Product row width) column n wide x y = unless (cells.is_cell Sizes row width column) (cell_over row width column n) (no_cell row width column wide y x.1)
  no_sum_over _ column n wide x y = refl

  no_sum_modulo : (begin column n : Expression) → AreWide column → HasWordLiterals begin → HasWordLiterals column → sum_modulo Sizes begin column n ≡ None
  no_sum_modulo (Binary Product row width) column n wide x y = unless (cells.is_cell Sizes row width column) (cell_modulo row width column n) (no_cell row width column wide y x.1)
  no_sum_modulo _ column n wide x y = refl

  no_rows : (begin column m n : Expression) → AreWide column → HasWordLiterals begin → HasWordLiterals column → rows_around Sizes begin column m n ≡ None
  no_rows (Binary Product row width) column m n wide x y = unless (same width n && cells.is_cell Sizes row width column) (natural_over m width) (λ h. no_cell row width column wide y x.1 (and_parts (same width n) (cells.is_cell Sizes row width column) h).1)
  no_rows _ column m n wide x y = refl

  no_remainder_over : (e m n : Expression) → AreWide e → HasWordLiterals e → remainder_over Sizes e m n ≡ None
  no_remainder_over (Binary Sum begin column) m n wide x = ap (option_map (λ rows. Binary Remainder (first_part begin) rows)) (no_rows begin column m n (λ turns w. (wide turns w).1) x.0 x.1)
  no_remainder_over _ m n wide x = refl

  no_remainder_modulo : (e m n : Expression) → AreWide e → HasWordLiterals e → remainder_modulo Sizes e m n ≡ None
  no_remainder_modulo (Binary Sum begin column) m n wide x = ap (option_map (λ rows. column)) (no_rows begin column m n (λ turns w. (wide turns w).1) x.0 x.1)
  no_remainder_modulo _ m n wide x = refl

  no_quotient_of : (a n : Expression) → AreWide a → HasWordLiterals a → quotient_of Sizes a n ≡ None
  no_quotient_of (Binary Sum begin column) n wide x = no_sum_over begin column n (λ turns w. (wide turns w).1) x.0 x.1
  no_quotient_of (Binary Remainder e m) n wide x = no_remainder_over e m n (λ turns w. (wide turns w).0) x.0
  no_quotient_of _ n wide x = refl

  no_remainder_of : (a n : Expression) → AreWide a → HasWordLiterals a → remainder_of Sizes a n ≡ None
  no_remainder_of (Binary Sum begin column) n wide x = no_sum_modulo begin column n (λ turns w. (wide turns w).1) x.0 x.1
  no_remainder_of (Binary Remainder e m) n wide x = no_remainder_modulo e m n (λ turns w. (wide turns w).0) x.0
  no_remainder_of _ n wide x = refl

  otherwise : (b : Bool) (x y : Option Expression) → (b ≡ true → ⊥) → y ≡ None → (if b then x else y) ≡ None
  otherwise true x y h e = absurd (h refl)
  otherwise false x y h e = e

  no_part : (o : Operation) (a b : Expression) → AreWide a → AreWide b → HasWordLiterals a → HasWordLiterals b → part_of Sizes o a b ≡ None
  no_part Sum a b wide second x y = unless (stays_below Sizes b (Literal 1)) (Some a) (stays_nowhere b (Literal 1) second y (omega arith))
  no_part Product a b wide second x y = unless (stays_below Sizes a (Literal 1) || stays_below Sizes b (Literal 1)) (Some (Literal 0)) (λ h. ⊎_elim (stays_nowhere a (Literal 1) wide x (omega arith)) (stays_nowhere b (Literal 1) second y (omega arith)) (or_cases (stays_below Sizes a (Literal 1)) (stays_below Sizes b (Literal 1)) h))
  no_part Quotient a b wide second x y = otherwise (stays_below Sizes a b) (Some (Literal 0)) (quotient_of Sizes a b) (stays_nowhere a b wide x y) (no_quotient_of a b wide x)
  no_part Remainder a b wide second x y = otherwise (stays_below Sizes a b) (Some a) (remainder_of Sizes a b) (stays_nowhere a b wide x y) (no_remainder_of a b wide x)
  no_part Least a b wide second x y = otherwise (is_at_most Sizes a b) (Some a) (if is_at_most Sizes b a then Some b else None) (never_at_most a b wide x y) (unless (is_at_most Sizes b a) (Some b) (never_at_most b a second y x))
  no_part _ a b wide second x y = refl

  parted_same : (e : Expression) → AreWide e → HasWordLiterals e → parted Sizes e ≡ e
  parted_same (Variable k l g) wide h = refl
  parted_same (Literal n) wide h = refl
  parted_same (Size k) wide h = refl
  parted_same (Binary o a b) wide h =
      ap (λ z. parted_operation Sizes o z (parted Sizes b)) (parted_same a (λ turns w. (wide turns w).0) h.0)
      ∙ ap (parted_operation Sizes o a) (parted_same b (λ turns w. (wide turns w).1) h.1)
      ∙ ap (λ z. unwrap_or z (Binary o a b)) (no_part o a b (λ turns w. (wide turns w).0) (λ turns w. (wide turns w).1) h.0 h.1)

  module _ (ids : Ids) (loops : List ℕ) (variables : Vars) (sizes_fit : AreWords ids.sizes) (turns_fit : AreWords (turns_of ids loops)) (all : AreMultiples Sizes ids.sizes) (some : ArePositive Sizes ids.sizes) where
    abbrev IsWorth : Expression → ℕ → Type 0
    IsWorth e n = value ids loops variables (index_formula e) ≡ Some n

    -- an operation's result comes of what its arguments are worth
    record HasParts (o : Operation) (a b : Formula) (n : ℕ) : Type 0 where
      first : ℕ
      second : ℕ
      first_is : value ids loops variables a ≡ Some first
      second_is : value ids loops variables b ≡ Some second
      is_result : IsResult o first second n

    parts_of : (o : Operation) (a b : Formula) (n : ℕ) (x y : Option ℕ) → value ids loops variables a ≡ x → value ids loops variables b ≡ y → with_both (operate (operator_of o)) x y ≡ Some n → HasParts o a b n
    parts_of o a b n None y p q h = absurd (cc h)
    parts_of o a b n (Some x) None p q h = absurd (cc h)
    parts_of o a b n (Some x) (Some y) p q h = record { first = x; second = y; first_is = p; second_is = q; is_result = result_back o x y n h }

    parts : (o : Operation) (a b : Formula) (n : ℕ) → value ids loops variables (formula.Binary (operator_of o) a b) ≡ Some n → HasParts o a b n
    parts o a b n h = parts_of o a b n (value ids loops variables a) (value ids loops variables b) refl refl h

    joined : (o : Operation) (a b : Expression) (x y : ℕ) → IsWorth a x → IsWorth b y → (Divides o → y ≢ 0) → IsWorth (Binary o a b) (operate_words o x y)
    joined o a b x y p q d =
        ap (λ z. with_both (operate (operator_of o)) z (value ids loops variables (index_formula b))) p
        ∙ ap (with_both (operate (operator_of o)) (Some x)) q ∙ result_is o x y d

    pub word_of : (e : Expression) (n : ℕ) → HasWordLiterals e → IsWorth e n → n < 2 ^ 32
    word_of (Variable k l g) n h w = subst (λ z. z < 2 ^ 32) (same_Some _ _ (sym (turn_value ids loops variables k) ∙ w)) (turns_fit k)
    word_of (Literal m) n h w = subst (λ z. z < 2 ^ 32) (same_Some _ _ w) h
    word_of (Size k) n h w = subst (λ z. z < 2 ^ 32) (same_Some _ _ w) (sizes_fit k)
    word_of (Binary o a b) n h w =
        let p = parts o (index_formula a) (index_formula b) n w in
        subst (λ z. z < 2 ^ 32) (sym p.is_result.result) (word_of_result o p.first p.second (word_of a p.first h.0 p.first_is) (word_of b p.second h.1 p.second_is))

    -- a law's operation, and one argument that it knows
    second_known : (o p : Operation) (k n : ℕ) (a b : Expression) → (same_operation o p && is_number k b) ≡ true → IsWorth (Binary o a b) n → (x : ℕ) × (IsWorth a x) × (n ≡ operate_words p x k)
    second_known o p k n a b h w =
        let tests = and_parts (same_operation o p) (is_number k b) h in
        let q = parts o (index_formula a) (index_formula b) n w in
        let is = number_is k b tests.1 in
        let same : q.second ≡ k = same_Some _ _ (sym q.second_is ∙ ap (λ e. value ids loops variables (index_formula e)) is) in
        (q.first, q.first_is, q.is_result.result ∙ ap (λ x. operate_words x q.first q.second) (facts.operations o p tests.0) ∙ ap (operate_words p q.first) same)

    first_known : (o p : Operation) (k n : ℕ) (a b : Expression) → (same_operation o p && is_number k a) ≡ true → IsWorth (Binary o a b) n → (y : ℕ) × (IsWorth b y) × (n ≡ operate_words p k y)
    first_known o p k n a b h w =
        let tests = and_parts (same_operation o p) (is_number k a) h in
        let q = parts o (index_formula a) (index_formula b) n w in
        let is = number_is k a tests.1 in
        let same : q.first ≡ k = same_Some _ _ (sym q.first_is ∙ ap (λ e. value ids loops variables (index_formula e)) is) in
        (q.second, q.second_is, q.is_result.result ∙ ap (λ x. operate_words x q.first q.second) (facts.operations o p tests.0) ∙ ap (λ z. operate_words p z q.second) same)

    -- the second stands where it has the first's worth
    keeps_second : (o p : Operation) (k n : ℕ) (a b : Expression) → HasWordLiterals a → ((x : ℕ) → x < 2 ^ 32 → operate_words p x k ≡ x) → (same_operation o p && is_number k b) ≡ true → IsWorth (Binary o a b) n → IsWorth a n
    keeps_second o p k n a b lits same h w =
        let q = second_known o p k n a b h w in
        subst (IsWorth a) (sym (q.2 ∙ same q.0 (word_of a q.0 lits q.1))) q.1

    keeps_first : (o p : Operation) (k n : ℕ) (a b : Expression) → HasWordLiterals b → ((y : ℕ) → y < 2 ^ 32 → operate_words p k y ≡ y) → (same_operation o p && is_number k a) ≡ true → IsWorth (Binary o a b) n → IsWorth b n
    keeps_first o p k n a b lits same h w =
        let q = first_known o p k n a b h w in
        subst (IsWorth b) (sym (q.2 ∙ same q.0 (word_of b q.0 lits q.1))) q.1

    gives_second : (o p : Operation) (k m n : ℕ) (a b : Expression) → ((x : ℕ) → operate_words p x k ≡ m) → (same_operation o p && is_number k b) ≡ true → IsWorth (Binary o a b) n → IsWorth (Literal m) n
    gives_second o p k m n a b same h w = let q = second_known o p k n a b h w in ap Some (sym (q.2 ∙ same q.0))

    gives_first : (o p : Operation) (k m n : ℕ) (a b : Expression) → ((y : ℕ) → operate_words p k y ≡ m) → (same_operation o p && is_number k a) ≡ true → IsWorth (Binary o a b) n → IsWorth (Literal m) n
    gives_first o p k m n a b same h w = let q = first_known o p k n a b h w in ap Some (sym (q.2 ∙ same q.0))

    computed_worth : (o : Operation) (a b : Expression) (n : ℕ) → HasWordLiterals a → is_some (computed o a b) ≡ true → IsWorth (Binary o a b) n → IsWorth (Literal (unwrap_or (computed o a b) 0)) n
    computed_worth o a b n lits h w =
        let l = are_literals o a b h in
        let q = parts o (index_formula a) (index_formula b) n w in
        let first : l.first ≡ q.first = same_Some _ _ (sym (ap (λ e. value ids loops variables (index_formula e)) l.first_is) ∙ q.first_is) in
        let second : l.second ≡ q.second = same_Some _ _ (sym (ap (λ e. value ids loops variables (index_formula e)) l.second_is) ∙ q.second_is) in
        let both_are : computed o a b ≡ computed_from o l.first l.second = ap (λ e. computed o e b) l.first_is ∙ ap (computed o (Literal l.first)) l.second_is in
        let is = from_computed o l.first l.second (subst HasWordLiterals l.first_is lits) (subst (λ z. is_some z ≡ true) both_are h) in
        ap Some (ap (λ z. unwrap_or z 0) both_are ∙ is ∙ ap (λ z. operate_words o z l.second) first ∙ ap (operate_words o q.first) second ∙ sym q.is_result.result)

    minus_worth : (o : Operation) (a b : Expression) (n : ℕ) → HasWordLiterals a → (same_operation o Difference && same a b) ≡ true → IsWorth (Binary o a b) n → IsWorth (Literal 0) n
    minus_worth o a b n lits h w =
        let tests = and_parts (same_operation o Difference) (same a b) h in
        let q = parts o (index_formula a) (index_formula b) n w in
        let alike : q.first ≡ q.second = same_Some _ _ (sym q.first_is ∙ ap (value ids loops variables) (same_formula facts.operations a b tests.1) ∙ q.second_is) in
        ap Some (sym (q.is_result.result ∙ ap (λ x. operate_words x q.first q.second) (facts.operations o Difference tests.0) ∙ ap (operate_words Difference q.first) (sym alike) ∙ minus_same q.first (word_of a q.first lits q.first_is)))

    -- ---- a literal times a size over its divisor
    times_over : (c s d : ℕ) → c % d ≡ 0 → s % d ≡ 0 → (c / d) * s ≡ c * (s / d)
    times_over c s d e f =
        ap (λ x. (c / d) * x) (sym (whole s d f)) ∙ sym (mul_assoc (c / d) d (s / d)) ∙ ap (λ x. x * (s / d)) (mul_comm (c / d) d ∙ whole c d e)
      where
        whole : (s d : ℕ) → s % d ≡ 0 → d * (s / d) ≡ s
        whole s d e = let same = div-add-mod s d in omega arith

    -- what a literal times a size over its divisor is worth
    scaled_worth : (o : Operation) (a b : Expression) (n : ℕ) → same_operation o Product ≡ true → (p : IsScaled Sizes a b) → IsWorth (Binary o a b) n
        → (n ≡ (p.times * (slice_index ids.sizes p.number / p.divisor)) % 2 ^ 32) × (p.divisor ≢ 0)
    scaled_worth o a b n h p w =
        let q = parts o (index_formula a) (index_formula b) n w in
        let over : HasParts Quotient (formula.Size p.number) (formula.Number p.divisor) q.second = parts Quotient (formula.Size p.number) (formula.Number p.divisor) q.second (ap (λ e. value ids loops variables (index_formula e)) (sym p.second_is) ∙ q.second_is) in
        let times : q.first ≡ p.times = same_Some _ _ (sym q.first_is ∙ ap (λ e. value ids loops variables (index_formula e)) p.first_is) in
        let size : over.first ≡ slice_index ids.sizes p.number = same_Some _ _ (sym over.first_is) in
        let divisor : over.second ≡ p.divisor = same_Some _ _ (sym over.second_is) in
        let quotient : q.second ≡ slice_index ids.sizes p.number / p.divisor = over.is_result.result ∙ ap (λ z. z / over.second) size ∙ ap (λ z. slice_index ids.sizes p.number / z) divisor in (
          q.is_result.result ∙ ap (λ x. operate_words x q.first q.second) (facts.operations o Product h) ∙ ap (λ z. operate_words Product z q.second) times ∙ ap (operate_words Product p.times) quotient,
          λ z. over.is_result.divisor tt (divisor ∙ z),
        )

    whole_worth : (o : Operation) (a b : Expression) (n : ℕ) → (same_operation o Product && is_whole_size Sizes a b) ≡ true → IsWorth (Binary o a b) n → IsWorth (first_part b) n
    whole_worth o a b n h w =
        let tests = and_parts (same_operation o Product) (is_whole_size Sizes a b) h in
        let p = whole_is Sizes a b tests.1 in
        let worth = scaled_worth o a b n tests.0 p.0 w in
        let rest = all p.0.number p.0.divisor p.0.known in
        let size : ℕ = slice_index ids.sizes p.0.number in
        let fits : p.0.divisor * (size / p.0.divisor) ≡ size = (let same = div-add-mod size p.0.divisor in omega arith) in
        let is : n ≡ size = worth.0 ∙ ap (λ z. (z * (size / p.0.divisor)) % 2 ^ 32) (sym p.1) ∙ ap (λ z. z % 2 ^ 32) fits ∙ mod-eq_of_lt (sizes_fit p.0.number) in
        ap (λ e. value ids loops variables (index_formula (first_part e))) p.0.second_is ∙ ap Some (sym is)

    part_worth : (o : Operation) (a b : Expression) (n : ℕ) → (same_operation o Product && is_scaled_size Sizes a b) ≡ true → IsWorth (Binary o a b) n → IsWorth (scaled a b) n
    part_worth o a b n h w =
        let tests = and_parts (same_operation o Product) (is_scaled_size Sizes a b) h in
        let p = scaled_is Sizes a b tests.1 in
        let worth = scaled_worth o a b n tests.0 p.0 w in
        let rest = all p.0.number p.0.divisor p.0.known in
        let size : ℕ = slice_index ids.sizes p.0.number in
        let is : ((p.0.times / p.0.divisor) * size) % 2 ^ 32 ≡ n = ap (λ z. z % 2 ^ 32) (times_over p.0.times size p.0.divisor p.1 rest) ∙ sym worth.0 in
        ap (λ e. value ids loops variables (index_formula (scaled e b))) p.0.first_is
        ∙ ap (λ e. value ids loops variables (index_formula (scaled (Literal p.0.times) e))) p.0.second_is ∙ ap Some is

    -- the two parts of a number are that number
    parts_worth : (o : Operation) (a b : Expression) (n : ℕ) → HasWordLiterals a → (same_operation o Sum && are_parts a b) ≡ true → IsWorth (Binary o a b) n → IsWorth (first_part (first_part a)) n
    parts_worth o a b n lits h w =
        let tests = and_parts (same_operation o Sum) (are_parts a b) h in
        let p = parts_are facts.operations a b tests.1 in
        let q = parts o (index_formula a) (index_formula b) n w in
        let begin = parts Product (formula.Binary (operator_of Quotient) (index_formula p.number) p.divisor) p.divisor q.first (ap (value ids loops variables) (sym p.first_is) ∙ q.first_is) in
        let row = parts Quotient (index_formula p.number) p.divisor begin.first begin.first_is in
        let column = parts Remainder (index_formula p.number) p.divisor q.second (ap (value ids loops variables) (sym p.second_is) ∙ q.second_is) in
        let divisor : begin.second ≡ row.second = same_Some _ _ (sym begin.second_is ∙ row.second_is) in
        let other : column.second ≡ row.second = same_Some _ _ (sym column.second_is ∙ row.second_is) in
        let number : column.first ≡ row.first = same_Some _ _ (sym column.first_is ∙ row.first_is) in
        let lt : row.first < 2 ^ 32 = word_of p.number row.first (subst HasWordLiterals p.number_is (first_words (first_part a) (first_words a lits))) row.first_is in
        let sum : n ≡ operate_words Sum q.first q.second = q.is_result.result ∙ ap (λ x. operate_words x q.first q.second) (facts.operations o Sum tests.0) in
        let is : n ≡ row.first = whole_from n q.first q.second begin.first begin.second row.first row.second column.first column.second sum begin.is_result.result row.is_result.result column.is_result.result divisor other number lt in
        ap (λ e. value ids loops variables (index_formula e)) p.number_is ∙ row.first_is ∙ ap Some (sym is)
      where
        first_words : (e : Expression) → HasWordLiterals e → HasWordLiterals (first_part e)
        first_words (Variable k l g) h = h
        first_words (Literal n) h = h
        first_words (Size k) h = h
        first_words (Binary o a b) h = h.0

        whole : (x m : ℕ) → x < 2 ^ 32 → (((x / m) * m) % 2 ^ 32 + x % m) % 2 ^ 32 ≡ x
        whole x m lt =
            let same : (x / m) * m + x % m ≡ x = (ap (λ z. z + x % m) (mul_comm (x / m) m) ∙ div-add-mod x m) in
            let fits : ((x / m) * m) % 2 ^ 32 ≡ (x / m) * m = mod-eq_of_lt (omega arith) in
            ap (λ z. (z + x % m) % 2 ^ 32) fits ∙ ap (λ z. z % 2 ^ 32) same ∙ mod-eq_of_lt lt

        whole_from : (n first second begin length x m y k : ℕ) → n ≡ (first + second) % 2 ^ 32 → first ≡ (begin * length) % 2 ^ 32 → begin ≡ x / m → second ≡ y % k → length ≡ m → k ≡ m → y ≡ x → x < 2 ^ 32 → n ≡ x
        whole_from n first second begin length x m y k sum left row right e f g lt = rw (sum, left, right, row, e, f, g) (whole x m lt)

    law_worth : (l : Law) (o : Operation) (a b : Expression) (n : ℕ) → HasWordLiterals a → HasWordLiterals b → AreWide a → applies Sizes l o a b ≡ true → IsWorth (Binary o a b) n → IsWorth (applied l o a b) n
    law_worth law.Computed o a b n x y wide h w = computed_worth o a b n x h w
    law_worth law.PlusZero o a b n x y wide h w = keeps_second o Sum 0 n a b x (λ z lt. omega arith) h w
    law_worth law.ZeroPlus o a b n x y wide h w = keeps_first o Sum 0 n a b y (λ z lt. omega arith) h w
    law_worth law.MinusZero o a b n x y wide h w = keeps_second o Difference 0 n a b x minus_nothing h w
    law_worth law.MinusItself o a b n x y wide h w = minus_worth o a b n x h w
    law_worth law.TimesOne o a b n x y wide h w = keeps_second o Product 1 n a b x (λ z lt. omega arith) h w
    law_worth law.OneTimes o a b n x y wide h w = keeps_first o Product 1 n a b y (λ z lt. omega arith) h w
    law_worth law.TimesZero o a b n x y wide h w = gives_second o Product 0 0 n a b (λ z. omega arith) h w
    law_worth law.ZeroTimes o a b n x y wide h w = gives_first o Product 0 0 n a b (λ z. omega arith) h w
    law_worth law.OverOne o a b n x y wide h w = keeps_second o Quotient 1 n a b x (λ z lt. div-one z) h w
    law_worth law.ModuloOne o a b n x y wide h w = gives_second o Remainder 1 0 n a b mod-one h w
    law_worth law.WholeSize o a b n x y wide h w = whole_worth o a b n h w
    law_worth law.ScaledSize o a b n x y wide h w = part_worth o a b n h w
    law_worth law.RowOfCell o a b n x y wide h w = absurd (not_cell a b wide y (and_parts (same_operation o Quotient) (is_cell Sizes a b) h).1)
    law_worth law.ColumnOfCell o a b n x y wide h w = absurd (not_cell a b wide y (and_parts (same_operation o Remainder) (is_cell Sizes a b) h).1)
    law_worth law.CellOfParts o a b n x y wide h w = parts_worth o a b n x h w
    law_worth law.GreatestZero o a b n x y wide h w = keeps_second o Greatest 0 n a b x (λ z lt. omega arith) (beside_zero o Greatest b a h) w
    law_worth law.ZeroGreatest o a b n x y wide h w = keeps_first o Greatest 0 n a b y (λ z lt. omega arith) (beside_zero o Greatest a b h) w
    law_worth law.LeastZero o a b n x y wide h w = gives_second o Least 0 0 n a b (λ z. omega arith) (beside_zero o Least b a h) w
    law_worth law.ZeroLeast o a b n x y wide h w = gives_first o Least 0 0 n a b (λ z. omega arith) (beside_zero o Least a b h) w

    tabled_wide : (e : Expression) → AreWide e → AreWide (tabled Sizes e)
    tabled_wide e wide turns fit = ((facts.tabled Sizes e).stands ids.sizes turns (record { loops = λ k n h. absurd (cc h); multiples = all; positive = some; own = wide turns fit })).own

    by_worth : (o : Operation) (a b : Expression) (n : ℕ) (found : Option Law) → first_law Sizes o a b LAWS ≡ found → HasWordLiterals a → HasWordLiterals b → AreWide a → IsWorth (Binary o a b) n → IsWorth (by_law found o a b) n
    by_worth o a b n None e x y wide w = w
    by_worth o a b n (Some l) e x y wide w = law_worth l o a b n x y wide (facts.found Sizes o a b LAWS l e) w

    -- on words what the table makes of an expression has its value
    tabled_worth : (e : Expression) (n : ℕ) → HasWordLiterals e → AreWide e → IsWorth e n → IsWorth (tabled Sizes e) n
    tabled_worth (Variable k l g) n h wide w = w
    tabled_worth (Literal m) n h wide w = w
    tabled_worth (Size k) n h wide w = w
    tabled_worth (Binary o a b) n h wide w =
        let left : AreWide a = λ turns fit. (wide turns fit).0 in
        let right : AreWide b = λ turns fit. (wide turns fit).1 in
        let q = parts o (index_formula a) (index_formula b) n w in
        let x = tabled_worth a q.first h.0 left q.first_is in
        let y = tabled_worth b q.second h.1 right q.second_is in
        let both_are = joined o (tabled Sizes a) (tabled Sizes b) q.first q.second x y q.is_result.divisor in
        by_worth o (tabled Sizes a) (tabled Sizes b) n (first_law Sizes o (tabled Sizes a) (tabled Sizes b) LAWS) refl
        ((facts.tabled Sizes a).literals h.0) ((facts.tabled Sizes b).literals h.1) (tabled_wide a left)
        (subst (IsWorth (Binary o (tabled Sizes a) (tabled Sizes b))) (sym q.is_result.result) both_are)

    -- cut into parts it is as it was
    recut_worth : (e : Expression) (n : ℕ) → HasWordLiterals e → AreWide e → IsWorth e n → IsWorth (recut Sizes e) n
    recut_worth e n h wide w = subst (λ z. IsWorth (tabled Sizes z) n) (sym (parted_same e wide h)) (tabled_worth e n h wide w)

    recut_literals : (e : Expression) → HasWordLiterals e → AreWide e → HasWordLiterals (recut Sizes e)
    recut_literals e h wide = subst (λ z. HasWordLiterals (tabled Sizes z)) (sym (parted_same e wide h)) ((facts.tabled Sizes e).literals h)

    recut_wide : (e : Expression) → HasWordLiterals e → AreWide e → AreWide (recut Sizes e)
    recut_wide e h wide = subst (λ z. AreWide (tabled Sizes z)) (sym (parted_same e wide h)) (tabled_wide e wide)

    -- on words a simplified expression has the expression's value
    pub simple_worth : (e : Expression) (n : ℕ) → HasWordLiterals e → AreWide e → IsWorth e n → IsWorth (simple Sizes e) n
    simple_worth e n h wide w =
        let first : Expression = tabled Sizes e in
        let first_literals : HasWordLiterals first = (facts.tabled Sizes e).literals h in
        let first_wide : AreWide first = tabled_wide e wide in
        let second : Expression = recut Sizes first in
        let second_literals : HasWordLiterals second = recut_literals first first_literals first_wide in
        let second_wide : AreWide second = recut_wide first first_literals first_wide in
        let third : Expression = recut Sizes second in
        recut_worth third n (recut_literals second second_literals second_wide) (recut_wide second second_literals second_wide)
        (recut_worth second n second_literals second_wide (recut_worth first n first_literals first_wide (tabled_worth e n h wide w)))
