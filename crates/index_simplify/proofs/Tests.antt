-- What the tests on expressions mean for their values.
use Rattle.std.proofs.Common.{◌≡◌, ℕ, zero, suc, ℤ, pos, negsuc, ◌+◌, ◌*◌, ◌/◌, ◌%◌, ◌<◌, ◌≤◌, ◌+ℤ◌, ◌*ℤ◌, min, max, true, false, Option, Some, None, List, refl, sym, ap, ◌∙◌, subst, arith}
use Rattle.std.specs.Prelude.{◌==◌, ◌&&◌, ◌<ℤ◌, nat_lt, is_some, slice_get, slice_index, unsigned_abs, int_div, int_rem}
use Rattle.std.proofs.Common.{inl, inr}
use Rattle.std.proofs.lemmas.Bool.{and_parts, or_cases, eqb-true, ltb-true, leb-true}
use Rattle.std.proofs.lemmas.Int.{ints, clamps, quot-rem}
use Rattle.std.proofs.lemmas.Nat.{div-mul-add, mod-mul-add}
use Rattle.std.proofs.Math.Nat.{div-add-mod, mul_assoc, mul_comm, mul-pos}
use Rattle.index_expr.specs.declared.operation.Operation.{Operation}
use Rattle.index_expr.specs.declared.operation.Operation.TheVariants.{Sum, Difference, Product, Quotient, Remainder, Least, Greatest}
use Rattle.index_expr.specs.Expression.{Expression, Variable, Literal, Size, Binary}
use Rattle.index_expr.specs.Values.{operate, exact}
use Rattle.index_simplify.specs.PlainRanges.{PlainRanges}
use Rattle.index_simplify.specs.Tests.{same_operation, same_variable, is_number, same_size, same, is_above, is_at_least, is_no_longer, is_known_within, is_loop_within, is_below, is_count, is_zero_beside, is_cell, is_quotient, is_rounded, are_parts, is_known_multiple, is_multiple, is_positive, is_part_of, is_base, is_part_base, is_whole_size, is_scaled_size}
use Rattle.index_simplify.specs.Laws.{first_part, second_part, scaled}
use Rattle.index_simplify.specs.Ranges.{AreBelowLengths, AreMultiples, ArePositive, AreWithin}

pub is_operation : (o p : Operation) → same_operation o p ≡ true → o ≡ p
is_operation Sum Sum e = refl
is_operation Difference Difference e = refl
is_operation Product Product e = refl
is_operation Quotient Quotient e = refl
is_operation Remainder Remainder e = refl
is_operation Least Least e = refl
is_operation Greatest Greatest e = refl
is_operation _ _ e = absurd (cc e)

module _ (sizes variables : List ℕ) where
  variable_value : (k : ℕ) (e : Expression) → same_variable k e ≡ true → pos (slice_index variables k) ≡ exact sizes variables e
  variable_value k (Variable j l g) h = ap (λ x. pos (slice_index variables x)) (eqb-true k j h)
  variable_value k _ h = absurd (cc h)

  pub number_value : (n : ℕ) (e : Expression) → is_number n e ≡ true → pos n ≡ exact sizes variables e
  number_value n (Literal m) h = ap pos (eqb-true n m h)
  number_value n _ h = absurd (cc h)

  size_value : (k : ℕ) (e : Expression) → same_size k e ≡ true → pos (slice_index sizes k) ≡ exact sizes variables e
  size_value k (Size j) h = ap (λ x. pos (slice_index sizes x)) (eqb-true k j h)
  size_value k _ h = absurd (cc h)

  pub same_value : (a b : Expression) → same a b ≡ true → exact sizes variables a ≡ exact sizes variables b
  same_value (Variable k l g) b h = variable_value k b h
  same_value (Literal n) b h = number_value n b h
  same_value (Size k) b h = size_value k b h
  same_value (Binary o a b) (Binary p c d) h =
      let parts = and_parts (same_operation o p && same a c) (same b d) h in
      let front = and_parts (same_operation o p) (same a c) parts.0 in
      let e = is_operation o p front.0 in
      let x = same_value a c front.1 in
      let y = same_value b d parts.1 in
      ap (λ q. operate q (exact sizes variables a) (exact sizes variables b)) e
      ∙ ap (λ z. operate p z (exact sizes variables b)) x ∙ ap (operate p (exact sizes variables c)) y
  same_value (Binary o a b) _ h = absurd (cc h)

  -- its value is a natural number
  abbrev pub IsNatural : Expression → Type 0
  IsNatural e = (v : ℕ) × (exact sizes variables e ≡ pos v)

  natural_result : (o : Operation) (x y : ℕ) → (same_operation o Difference ≡ false) → (v : ℕ) × (operate o (pos x) (pos y) ≡ pos v)
  natural_result Sum x y h = (x + y, refl)
  natural_result Difference x y h = absurd (cc h)
  natural_result Product x y h = (x * y, refl)
  natural_result Quotient x y h = (x / y, refl)
  natural_result Remainder x y h = (x % y, refl)
  natural_result Least x y h = (min x y, omega (arith, ints, clamps))
  natural_result Greatest x y h = (max x y, omega (arith, ints, clamps))

  natural_of : (o : Operation) (a b : Expression) → (same_operation o Difference ≡ false) → IsNatural a → IsNatural b → IsNatural (Binary o a b)
  natural_of o a b h x y =
      let z = natural_result o x.0 y.0 h in
      (z.0, ap (λ v. operate o v (exact sizes variables b)) x.1 ∙ ap (operate o (pos x.0)) y.1 ∙ z.1)

  pub count_value : (depth : ℕ) (e : Expression) → is_count depth e ≡ true → IsNatural e
  count_value depth (Variable k l g) h = (slice_index variables k, refl)
  count_value depth (Literal n) h = (n, refl)
  count_value depth (Size k) h = (slice_index sizes k, refl)
  count_value zero (Binary o a b) h = none o h
    where
      none : (o : Operation) → is_count zero (Binary o a b) ≡ true → IsNatural (Binary o a b)
      none Sum h = absurd (cc h)
      none Difference h = absurd (cc h)
      none Product h = absurd (cc h)
      none Quotient h = absurd (cc h)
      none Remainder h = absurd (cc h)
      none Least h = absurd (cc h)
      none Greatest h = absurd (cc h)
  count_value (suc depth) (Binary Difference a b) h = absurd (cc h)
  count_value (suc depth) (Binary Sum a b) h = let parts = and_parts (is_count depth a) (is_count depth b) h in natural_of Sum a b refl (count_value depth a parts.0) (count_value depth b parts.1)
  count_value (suc depth) (Binary Product a b) h = let parts = and_parts (is_count depth a) (is_count depth b) h in natural_of Product a b refl (count_value depth a parts.0) (count_value depth b parts.1)
  count_value (suc depth) (Binary Quotient a b) h = let parts = and_parts (is_count depth a) (is_count depth b) h in natural_of Quotient a b refl (count_value depth a parts.0) (count_value depth b parts.1)
  count_value (suc depth) (Binary Remainder a b) h = let parts = and_parts (is_count depth a) (is_count depth b) h in natural_of Remainder a b refl (count_value depth a parts.0) (count_value depth b parts.1)
  count_value (suc depth) (Binary Least a b) h = let parts = and_parts (is_count depth a) (is_count depth b) h in natural_of Least a b refl (count_value depth a parts.0) (count_value depth b parts.1)
  count_value (suc depth) (Binary Greatest a b) h = let parts = and_parts (is_count depth a) (is_count depth b) h in natural_of Greatest a b refl (count_value depth a parts.0) (count_value depth b parts.1)

  -- 0, and a natural number beside it
  pub record IsZeroBeside (nothing other : Expression) : Type 0 where
    pub at : ℕ
    pub zero_is : exact sizes variables nothing ≡ pos 0
    pub other_is : exact sizes variables other ≡ pos at

  pub zero_beside : (nothing other : Expression) → is_zero_beside nothing other ≡ true → IsZeroBeside nothing other
  zero_beside nothing other h =
      let parts = and_parts (is_number 0 nothing) (is_count 3 other) h in
      let v = count_value 3 other parts.1 in
      record { at = v.0; zero_is = sym (number_value 0 nothing parts.0); other_is = v.1 }

  -- the values of a column and of a length above it
  pub record IsColumn (column length : Expression) : Type 0 where
    pub at : ℕ
    pub count : ℕ
    pub column_is : exact sizes variables column ≡ pos at
    pub length_is : exact sizes variables length ≡ pos count
    pub below : at < count

  above_number : (k l g : ℕ) (n : Expression) → slice_index variables k ≤ g → is_above n g ≡ true → IsColumn (Variable k l g) n
  above_number k l g (Literal n) le h = let lt = ltb-true g n h in record { at = slice_index variables k; count = n; column_is = refl; length_is = refl; below = omega arith }
  above_number k l g _ le h = absurd (cc h)

  -- a natural number below the value
  abbrev pub IsAbove : ℕ → ℤ → Type 0
  IsAbove v z = (n : ℕ) × (z ≡ pos n) × (v < n)

  counted : (v : ℕ) (z : ℤ) → pos v <ℤ z → IsAbove v z
  counted v (pos n) lt = (n, refl, omega (arith, ints))
  counted v (negsuc n) lt = absurd (omega (arith, ints))

  counted_same : (v : ℕ) (known n : Expression) → pos v <ℤ exact sizes variables known → same known n ≡ true → IsAbove v (exact sizes variables n)
  counted_same v known n lt h = subst (IsAbove v) (same_value known n h) (counted v (exact sizes variables known) lt)

  pub counted_least : (v m : ℕ) (n : Expression) → pos v <ℤ pos m → is_at_least n m ≡ true → IsAbove v (exact sizes variables n)
  counted_least v m (Literal n) lt h = let le = leb-true m n h in (n, refl, omega (arith, ints))
  counted_least v m _ lt h = absurd (cc h)

  pub counted_longer : (v : ℕ) (known n : Expression) → pos v <ℤ exact sizes variables known → is_no_longer known n ≡ true → IsAbove v (exact sizes variables n)
  counted_longer v (Literal m) n lt h = counted_least v m n lt h
  counted_longer v (Variable k l g) n lt h = counted_same v (Variable k l g) n lt h
  counted_longer v (Size k) n lt h = counted_same v (Size k) n lt h
  counted_longer v (Binary o a b) n lt h = counted_same v (Binary o a b) n lt h

  module _ (r : PlainRanges) (loops : AreBelowLengths r sizes variables) where
    below_known : (k l g : ℕ) (n : Expression) (known : Option Expression) → slice_get r.lengths k ≡ known → is_known_within known n ≡ true → IsColumn (Variable k l g) n
    below_known k l g n None at h = absurd (cc h)
    below_known k l g n (Some known) at h =
        let count = counted_longer (slice_index variables k) known n (loops k known at) h in
        record { at = slice_index variables k; count = count.0; column_is = refl; length_is = count.1; below = count.2 }

    pub column_of : (e n : Expression) → AreWithin variables e → is_below r e n ≡ true → IsColumn e n
    column_of (Variable k l g) n own h =
        elim (or_cases (is_above n g) (is_loop_within r k n) h) [
          | inl a ↦ above_number k l g n own.1 a
          | inr b ↦ below_known k l g n (slice_get r.lengths k) refl b
        ]
    column_of _ n own h = absurd (cc h)

    -- the values of a cell, of its row and column, and of the row's length
    record IsCellOf (e m row column : Expression) : Type 0 where
      row_at : ℕ
      row_is : exact sizes variables row ≡ pos row_at
      cell_is : exact sizes variables e ≡ (exact sizes variables row *ℤ exact sizes variables m) +ℤ exact sizes variables column
      within : IsColumn column m

    cell_of : (e m : Expression) → AreWithin variables e → is_cell r e m ≡ true → IsCellOf e m (first_part (first_part e)) (second_part e)
    cell_of (Binary Sum (Binary Product row n) column) m own h =
        let parts = and_parts (same n m && is_count 3 row) (is_below r column m) h in
        let front = and_parts (same n m) (is_count 3 row) parts.0 in
        let number = count_value 3 row front.1 in
        record {
          row_at = number.0;
          row_is = number.1;
          cell_is = ap (λ z. (exact sizes variables row *ℤ z) +ℤ exact sizes variables column) (same_value n m front.0);
          within = column_of column m own.1 parts.1;
        }
    cell_of _ m own h = absurd (cc h)

    row_from : (X M Y E : ℤ) (x y n : ℕ) → X ≡ pos x → M ≡ pos n → Y ≡ pos y → E ≡ (X *ℤ M) +ℤ Y → y < n → int_div E M ≡ X
    row_from X M Y E x y n a b c e lt = rw (e, a, b, c) (ap pos (div-mul-add x n y lt))

    column_from : (X M Y E : ℤ) (x y n : ℕ) → X ≡ pos x → M ≡ pos n → Y ≡ pos y → E ≡ (X *ℤ M) +ℤ Y → y < n → int_rem E M ≡ Y
    column_from X M Y E x y n a b c e lt = rw (e, a, b, c) (ap pos (mod-mul-add x n y lt))

    pub row_value : (e m : Expression) → AreWithin variables e → is_cell r e m ≡ true → exact sizes variables (first_part (first_part e)) ≡ int_div (exact sizes variables e) (exact sizes variables m)
    row_value e m own h =
        let c = cell_of e m own h in
        sym (row_from _ _ _ _ c.row_at c.within.at c.within.count c.row_is c.within.length_is c.within.column_is c.cell_is c.within.below)

    pub column_value : (e m : Expression) → AreWithin variables e → is_cell r e m ≡ true → exact sizes variables (second_part e) ≡ int_rem (exact sizes variables e) (exact sizes variables m)
    column_value e m own h =
        let c = cell_of e m own h in
        sym (column_from _ _ _ _ c.row_at c.within.at c.within.count c.row_is c.within.length_is c.within.column_is c.cell_is c.within.below)

  multiple_value : (r : PlainRanges) (k : ℕ) (d : Expression) (known : Option ℕ) → AreMultiples r sizes → slice_get r.multiples k ≡ known → is_known_multiple known d ≡ true → (m : ℕ) × (exact sizes variables d ≡ pos m) × (slice_index sizes k % m ≡ 0)
  multiple_value r k d None all at h = absurd (cc h)
  multiple_value r k d (Some m) all at h = (m, sym (number_value m d h), all k m at)

  -- the values of a size and of a divisor that it is a multiple of
  record IsMultipleOf (size divisor : Expression) : Type 0 where
    size_at : ℕ
    divisor_at : ℕ
    size_is : exact sizes variables size ≡ pos size_at
    divisor_is : exact sizes variables divisor ≡ pos divisor_at
    rest : size_at % divisor_at ≡ 0

  multiple_of : (r : PlainRanges) (size d : Expression) → AreMultiples r sizes → is_multiple r size d ≡ true → IsMultipleOf size d
  multiple_of r (Size k) d all h =
      let found = multiple_value r k d (slice_get r.multiples k) all refl h in
      record { size_at = slice_index sizes k; divisor_at = found.0; size_is = refl; divisor_is = found.1; rest = found.2 }
  multiple_of r _ d all h = absurd (cc h)

  -- a multiple is its divisor times what it is over it
  whole : (s d : ℕ) → s % d ≡ 0 → d * (s / d) ≡ s
  whole s d e = let same = div-add-mod s d in omega arith

  -- its value is a number above 0
  abbrev pub IsPositive : Expression → Type 0
  IsPositive e = (v : ℕ) × (exact sizes variables e ≡ pos v) × (0 < v)

  module _ (r : PlainRanges) (all : AreMultiples r sizes) (some : ArePositive r sizes) where
    known_positive : (k : ℕ) (known : Option ℕ) → slice_get r.multiples k ≡ known → is_some known ≡ true → 0 < slice_index sizes k
    known_positive k (Some m) at h = some k m at
    known_positive k None at h = absurd (cc h)

    part_positive : (s d : ℕ) → s % d ≡ 0 → 0 < s → 0 < s / d
    part_positive s d e lt = go (s / d) (whole s d e)
      where
        go : (q : ℕ) → d * q ≡ s → 0 < q
        go zero f = absurd (omega arith)
        go (suc q) f = omega arith

    quotient_from : (S D : ℤ) (s d : ℕ) → S ≡ pos s → D ≡ pos d → int_div S D ≡ pos (s / d)
    quotient_from S D s d e f = rw (e, f) refl

    multiple_positive : (size d : Expression) → is_multiple r size d ≡ true → IsPositive (Binary Quotient size d)
    multiple_positive (Size k) d h =
        let found = multiple_value r k d (slice_get r.multiples k) all refl h in
        let lt = multiple_known k (slice_get r.multiples k) d refl h in
        (slice_index sizes k / found.0, quotient_from (pos (slice_index sizes k)) (exact sizes variables d) (slice_index sizes k) found.0 refl found.1, part_positive (slice_index sizes k) found.0 found.2 lt)
      where
        multiple_known : (k : ℕ) (known : Option ℕ) (d : Expression) → slice_get r.multiples k ≡ known → is_known_multiple known d ≡ true → 0 < slice_index sizes k
        multiple_known k (Some m) d at h = some k m at
        multiple_known k None d at h = absurd (cc h)
    multiple_positive (Variable k l g) d h = absurd (cc h)
    multiple_positive (Literal n) d h = absurd (cc h)
    multiple_positive (Binary o a b) d h = absurd (cc h)

    sum_from : (A B : ℤ) (a b : ℕ) → A ≡ pos a → B ≡ pos b → A +ℤ B ≡ pos (a + b)
    sum_from A B a b e f = rw (e, f) refl

    product_from : (A B : ℤ) (a b : ℕ) → A ≡ pos a → B ≡ pos b → A *ℤ B ≡ pos (a * b)
    product_from A B a b e f = rw (e, f) refl

    pub positive_value : (e : Expression) → is_positive r e ≡ true → IsPositive e
    positive_value (Literal n) h = (n, refl, ltb-true 0 n h)
    positive_value (Size k) h = (slice_index sizes k, refl, known_positive k (slice_get r.multiples k) refl h)
    positive_value (Binary Quotient size d) h = multiple_positive size d h
    positive_value (Binary Sum a b) h =
        let parts = and_parts (is_positive r a) (is_positive r b) h in
        let x = positive_value a parts.0 in
        let y = positive_value b parts.1 in
        (x.0 + y.0, sum_from (exact sizes variables a) (exact sizes variables b) x.0 y.0 x.1 y.1, (let lt = x.2 in omega arith))
    positive_value (Binary Product a b) h =
        let parts = and_parts (is_positive r a) (is_positive r b) h in
        let x = positive_value a parts.0 in
        let y = positive_value b parts.1 in
        (x.0 * y.0, product_from (exact sizes variables a) (exact sizes variables b) x.0 y.0 x.1 y.1, mul-pos x.2 y.2)
    positive_value _ h = absurd (cc h)

  whole_from : (S D C : ℤ) (s d : ℕ) → S ≡ pos s → D ≡ pos d → C ≡ D → s % d ≡ 0 → S ≡ C *ℤ int_div S D
  whole_from S D C s d a b c e = rw (c, a, b) (ap pos (sym (whole s d e)))

  base_value : (r : PlainRanges) (c : ℕ) (b : Expression) → AreMultiples r sizes → is_base r c b ≡ true → exact sizes variables (first_part b) ≡ pos c *ℤ exact sizes variables b
  base_value r c (Binary Quotient size d) all h =
      let parts = and_parts (is_number c d) (is_multiple r size d) h in
      let m = multiple_of r size d all parts.1 in
      whole_from (exact sizes variables size) (exact sizes variables d) (pos c) m.size_at m.divisor_at m.size_is m.divisor_is (number_value c d parts.0) m.rest
  base_value r c _ all h = absurd (cc h)

  pub whole_size_value : (r : PlainRanges) (a b : Expression) → AreMultiples r sizes → is_whole_size r a b ≡ true → exact sizes variables (first_part b) ≡ exact sizes variables a *ℤ exact sizes variables b
  whole_size_value r (Literal c) b all h = base_value r c b all h
  whole_size_value r _ b all h = absurd (cc h)

  -- a number of which a lesser one is a divisor
  pub record IsPartOf (c : ℕ) (e : Expression) : Type 0 where
    pub part : ℕ
    pub literal : e ≡ Literal part
    pub below : part < c
    pub rest : c % part ≡ 0

  pub part_of : (c : ℕ) (e : Expression) → is_part_of c e ≡ true → IsPartOf c e
  part_of c (Literal d) h =
      let parts = and_parts (nat_lt 0 d && nat_lt d c) (c % d == 0) h in
      let front = and_parts (nat_lt 0 d) (nat_lt d c) parts.0 in
      record { part = d; literal = refl; below = ltb-true d c front.1; rest = eqb-true (c % d) 0 parts.1 }
  part_of c _ h = absurd (cc h)

  scaled_number : (c s d : ℕ) → c % d ≡ 0 → s % d ≡ 0 → (c / d) * s ≡ c * (s / d)
  scaled_number c s d e f =
      ap (λ x. (c / d) * x) (sym (whole s d f)) ∙ sym (mul_assoc (c / d) d (s / d)) ∙ ap (λ x. x * (s / d)) (mul_comm (c / d) d ∙ whole c d e)

  scaled_from : (S D : ℤ) (c s d : ℕ) → S ≡ pos s → D ≡ pos d → c % d ≡ 0 → s % d ≡ 0 → pos (c / d) *ℤ S ≡ pos c *ℤ int_div S D
  scaled_from S D c s d a b e f = rw (a, b) (ap pos (scaled_number c s d e f))

  part_base_value : (r : PlainRanges) (c : ℕ) (b : Expression) → AreMultiples r sizes → is_part_base r c b ≡ true → exact sizes variables (scaled (Literal c) b) ≡ pos c *ℤ exact sizes variables b
  part_base_value r c (Binary Quotient size (Literal d)) all h =
      let parts = and_parts (is_part_of c (Literal d)) (is_multiple r size (Literal d)) h in
      let m = multiple_of r size (Literal d) all parts.1 in
      let front = and_parts (nat_lt 0 d && nat_lt d c) (c % d == 0) parts.0 in
      let same : d ≡ m.divisor_at = ap unsigned_abs m.divisor_is in
      scaled_from (exact sizes variables size) (pos d) c m.size_at d m.size_is refl (eqb-true (c % d) 0 front.1) (subst (λ x. m.size_at % x ≡ 0) (sym same) m.rest)
  part_base_value r c _ all h = absurd (cc h)

  pub scaled_size_value : (r : PlainRanges) (a b : Expression) → AreMultiples r sizes → is_scaled_size r a b ≡ true → exact sizes variables (scaled a b) ≡ exact sizes variables a *ℤ exact sizes variables b
  scaled_size_value r (Literal c) b all h = part_base_value r c b all h
  scaled_size_value r _ b all h = absurd (cc h)

  quotient_value : (q d m : Expression) → is_quotient q d m ≡ true → (exact sizes variables q ≡ int_div (exact sizes variables d) (exact sizes variables m)) × (exact sizes variables (first_part q) ≡ exact sizes variables d)
  quotient_value (Binary Quotient e n) d m h =
      let parts = and_parts (same n m) (same e d) h in
      let x = same_value e d parts.1 in
      (ap (int_div (exact sizes variables e)) (same_value n m parts.0) ∙ ap (λ z. int_div z (exact sizes variables m)) x, x)
  quotient_value _ d m h = absurd (cc h)

  rounded_value : (a d m : Expression) → is_rounded a d m ≡ true → (exact sizes variables a ≡ int_div (exact sizes variables d) (exact sizes variables m) *ℤ exact sizes variables m) × (exact sizes variables (first_part (first_part a)) ≡ exact sizes variables d)
  rounded_value (Binary Product q n) d m h =
      let parts = and_parts (same n m) (is_quotient q d m) h in
      let x = quotient_value q d m parts.1 in
      (ap (λ z. exact sizes variables q *ℤ z) (same_value n m parts.0) ∙ ap (λ z. z *ℤ exact sizes variables m) x.0, x.1)
  rounded_value _ d m h = absurd (cc h)

  pub parts_value : (a b : Expression) → are_parts a b ≡ true → exact sizes variables (first_part (first_part a)) ≡ exact sizes variables a +ℤ exact sizes variables b
  parts_value a (Binary Remainder d m) h =
      let x = rounded_value a d m h in
      x.1 ∙ sym (quot-rem (exact sizes variables d) (exact sizes variables m)) ∙ ap (λ z. z +ℤ int_rem (exact sizes variables d) (exact sizes variables m)) (sym x.0)
  parts_value a _ h = absurd (cc h)
