-- Each law of cells keeps the value at every point of the ranges, and makes nothing larger.
use Rattle.std.proofs.Common.{◌≡◌, ◌≢◌, ℕ, zero, suc, ℤ, pos, ◌+◌, ◌*◌, ◌/◌, ◌%◌, ◌<◌, ◌≤◌, ◌+ℤ◌, ◌*ℤ◌, max, Bool, true, false, Option, Some, None, List, refl, sym, ap, ◌∙◌, subst, arith}
use Rattle.std.proofs.lemmas.Bool.{and_from, and_parts, or_cases}
use Rattle.std.specs.Prelude.{◌&&◌, ◌||◌, ◌-ℤ◌, if◌then◌else◌, int_div, int_rem, unwrap_or, option_and_then, option_map}
use Rattle.std.specs.Int.{int_min}
use Rattle.std.proofs.lemmas.Int.{ints, clamps}
use Rattle.std.proofs.lemmas.Nat.{div-mul-add, mod-mul-add}
use Rattle.std.proofs.Math.IntN.{zero-*ℤ, *ℤ-zero}
use Rattle.std.proofs.Common.{inl, inr}
use Rattle.std.proofs.Math.Nat.{div-eq_of_lt, mod-eq_of_lt, mul-add-div_right, mul-add-mod_self_right, div-div-eq-div-mul, div-add-mod, div-le_self, mul_assoc, mul_comm, mod-lt, mod-zero, zero-mul, mul-le-mul_right}
use Rattle.index_expr.specs.declared.operation.Operation.{Operation}
use Rattle.index_expr.specs.declared.operation.Operation.TheVariants.{Sum, Difference, Product, Quotient, Remainder, Least}
use Rattle.index_expr.specs.Expression.{Expression, Variable, Literal, Size, Binary}
use Rattle.index_expr.specs.Values.{exact, EachOperation, Divides, WantsWords, IsWord}
use Rattle.index_simplify.specs.PlainRanges.{PlainRanges}
use Rattle.index_simplify.specs.Tests.{is_number, same}
use Rattle.index_simplify.specs.Factors.{over}
use Rattle.index_simplify.specs.Below.{is_natural, is_passed, literal_sum, stays_below, is_at_most}
use Rattle.index_simplify.specs.Cells.{is_no_higher, is_cell, natural_over, cell_by, cell_over, sum_over, column_modulo, row_modulo, modulo_by, cell_modulo, sum_modulo, remainder_over, remainder_modulo, quotient_of, remainder_of, part_of, parted_operation, parted}
use Rattle.index_simplify.specs.Ranges.{AreWithin, IsPoint}
use Rattle.index_simplify.specs.Simplified.{height, names_are, HasWordLiterals, StandsFor, IsNoLarger}
use Rattle.index_simplify.proofs.Tests.{count_value, number_value, same_value, IsColumn}
use Rattle.index_simplify.proofs.Parts.{some_height, same_small, then_small, joined_small, left_small, right_small, literal_small}
use Rattle.index_simplify.proofs.Divided.{over_value, over_has, over_less}
use Rattle.index_simplify.proofs.Bounds.{both_of, sum_is, below_is, length_from, cell_from}
use Rattle.index_simplify.proofs.Standing.{stands_by, stands_joined, stands_then, stands_itself}

-- ---- over the natural numbers
split_row_number : (x y k n : ℕ) → y < k * n → x * k + y / n ≡ (x * (k * n) + y) / n
split_row_number x y k zero lt = absurd (omega arith)
split_row_number x y k (suc n) lt = sym (ap (λ z. (z + y) / suc n) (sym (mul_assoc x k (suc n))) ∙ mul-add-div_right (omega arith) (x * k) y)

split_column_number : (x y k n : ℕ) → y % n ≡ (x * (k * n) + y) % n
split_column_number x y k n = sym (ap (λ z. (z + y) % n) (sym (mul_assoc x k n)) ∙ mul-add-mod_self_right (x * k) n y)

row_number : (x y k w : ℕ) → y < w → x / k ≡ (x * w + y) / (k * w)
row_number x y k w lt = sym (ap (λ z. (x * w + y) / z) (mul_comm k w) ∙ sym (div-div-eq-div-mul (x * w + y) w k) ∙ ap (λ z. z / k) (div-mul-add x w y lt))

-- of a cell modulo so many rows, its row modulo the count of rows, and its column
around_number : (x y k w : ℕ) → y < w → (x * w + y) % (k * w) ≡ (x % k) * w + y
around_number x y zero w lt = ap (λ z. (x * w + y) % z) (zero-mul w) ∙ mod-zero (x * w + y) ∙ ap (λ z. z * w + y) (sym (mod-zero x))
around_number x y (suc k) w lt =
    let parts = div-add-mod x (suc k) in
    let under : x % suc k < suc k = mod-lt x (omega arith) in
    let most : suc (x % suc k) * w ≤ suc k * w = mul-le-mul_right w under in
    let fits : (x % suc k) * w + y < suc k * w = omega arith in
    let rows : (suc k * (x / suc k)) * w ≡ (x / suc k) * (suc k * w) = ap (λ z. z * w) (mul_comm (suc k) (x / suc k)) ∙ mul_assoc (x / suc k) (suc k) w in
    let whole : x * w + y ≡ (x / suc k) * (suc k * w) + ((x % suc k) * w + y) = ap (λ z. z * w + y) (sym parts) ∙ (let apart : (suc k * (x / suc k) + x % suc k) * w ≡ (suc k * (x / suc k)) * w + (x % suc k) * w = grind arith in omega arith) in
    ap (λ z. z % (suc k * w)) whole ∙ mod-mul-add (x / suc k) (suc k * w) ((x % suc k) * w + y) fits

around_row : (x y k w : ℕ) → y < w → x % k ≡ ((x * w + y) % (k * w)) / w
around_row x y k w lt = sym (ap (λ z. z / w) (around_number x y k w lt) ∙ div-mul-add (x % k) w y lt)

around_column : (x y k w : ℕ) → y < w → y ≡ ((x * w + y) % (k * w)) % w
around_column x y k w lt = sym (ap (λ z. z % w) (around_number x y k w lt) ∙ mod-mul-add (x % k) w y lt)

-- ---- over the whole numbers
module _ (X W Y K N : ℤ) (x w y k n : ℕ) (X_is : X ≡ pos x) (W_is : W ≡ pos w) (Y_is : Y ≡ pos y) (K_is : K ≡ pos k) (N_is : N ≡ pos n) where
  split_row_from : W ≡ K *ℤ N → y < w → (X *ℤ K) +ℤ int_div Y N ≡ int_div ((X *ℤ W) +ℤ Y) N
  split_row_from e lt =
      let same : w ≡ k * n = (let both_are : pos w ≡ pos (k * n) = sym W_is ∙ length_from W K N k n e K_is N_is in cc both_are) in
      rw (e, X_is, Y_is, K_is, N_is) (ap pos (split_row_number x y k n (subst (λ z. y < z) same lt)))

  split_column_from : W ≡ K *ℤ N → int_rem Y N ≡ int_rem ((X *ℤ W) +ℤ Y) N
  split_column_from e = rw (e, X_is, Y_is, K_is, N_is) (ap pos (split_column_number x y k n))

  row_from : N ≡ K *ℤ W → y < w → int_div X K ≡ int_div ((X *ℤ W) +ℤ Y) N
  row_from e lt = rw (e, X_is, Y_is, K_is, W_is) (ap pos (row_number x y k w lt))

  around_from : N ≡ K *ℤ W → y < w → (int_rem X K *ℤ W) +ℤ Y ≡ int_rem ((X *ℤ W) +ℤ Y) N
  around_from e lt =
      let row : int_rem X K ≡ pos (x % k) = rw (X_is, K_is) refl in
      ap (λ z. (z *ℤ W) +ℤ Y) row ∙ rw (e, X_is, Y_is, K_is, W_is) (ap pos (sym (around_number x y k w lt)))

  around_row_from : (M : ℤ) → M ≡ K *ℤ W → W ≡ N → y < w → int_rem X K ≡ int_div (int_rem ((X *ℤ W) +ℤ Y) M) N
  around_row_from M e f lt = rw (e, sym f, X_is, Y_is, K_is, W_is) (ap pos (around_row x y k w lt))

  around_column_from : (M : ℤ) → M ≡ K *ℤ W → W ≡ N → y < w → Y ≡ int_rem (int_rem ((X *ℤ W) +ℤ Y) M) N
  around_column_from M e f lt = rw (e, sym f, X_is, Y_is, K_is, W_is) (ap pos (around_column x y k w lt))

-- ---- heights
under : (a c d : Expression) → (is_no_higher a c ≡ true → height a ≤ height c) → (is_no_higher a d ≡ true → height a ≤ height d) → (is_no_higher a c || is_no_higher a d) ≡ true → height a ≤ max (height c) (height d)
under a c d x y h =
    elim (or_cases (is_no_higher a c) (is_no_higher a d) h) [
      | inl e ↦ let le = x e in omega arith
      | inr e ↦ let le = y e in omega arith
    ]

no_higher : (a b : Expression) → is_no_higher a b ≡ true → height a ≤ height b
no_higher (Variable k l g) b h = some_height b
no_higher (Literal n) b h = some_height b
no_higher (Size k) b h = some_height b
no_higher (Binary o a b) (Binary p c d) h =
    let parts = and_parts (is_no_higher a c || is_no_higher a d) (is_no_higher b c || is_no_higher b d) h in
    let x = under a c d (no_higher a c) (no_higher a d) parts.0 in
    let y = under b c d (no_higher b c) (no_higher b d) parts.1 in
    omega arith
no_higher (Binary o a b) (Variable k l g) h = absurd (cc h)
no_higher (Binary o a b) (Literal n) h = absurd (cc h)
no_higher (Binary o a b) (Size k) h = absurd (cc h)

-- ---- what is left of a length over another
natural_of : (p : Option Expression) (q : Expression) → option_and_then (λ z. if is_natural z then Some z else None) p ≡ Some q → (p ≡ Some q) × (is_natural q ≡ true)
natural_of None q h = absurd (cc h)
natural_of (Some p) q h = go (is_natural p) refl h
  where
    go : (b : Bool) → is_natural p ≡ b → (if b then Some p else None) ≡ Some q → (Some p ≡ Some q) × (is_natural q ≡ true)
    go true e f = (f, let same : p ≡ q = cc f in subst (λ z. is_natural z ≡ true) same e)
    go false e f = absurd (cc f)

-- one length is so many times another
record IsTimes (m n q : Expression) : Type 0 where
  is_over : over m n ≡ Some q
  natural : is_natural q ≡ true

times_of : (m n q : Expression) → natural_over m n ≡ Some q → IsTimes m n q
times_of m n q h = let x = natural_of (over m n) q h in record { is_over = x.0; natural = x.1 }

times_operations : (P : Operation → Expression → Expression → Type 0) → ((a b : Expression) → P Product a b) → (m n q : Expression) → IsTimes m n q → EachOperation P m → EachOperation P q
times_operations P products m n q e h = over_has (EachOperation P) tt (λ c d x. tt) (λ a b x. (x.1, x.2)) (λ a b x y. (products a b, x, y)) m n q h e.is_over

times_within : (variables : List ℕ) (m n q : Expression) → IsTimes m n q → AreWithin variables m → AreWithin variables q
times_within variables m n q e h = over_has (AreWithin variables) tt (λ c d x. tt) (λ a b x. x) (λ a b x y. (x, y)) m n q h e.is_over

times_names : (v s : ℕ → Bool) (m n q : Expression) → IsTimes m n q → names_are v s m ≡ true → names_are v s q ≡ true
times_names v s m n q e h = over_has (λ z. names_are v s z ≡ true) refl (λ c d x. refl) (λ a b x. and_parts (names_are v s a) (names_are v s b) x) (λ a b x y. and_from (names_are v s a) (names_are v s b) x y) m n q h e.is_over

times_literals : (m n q : Expression) → IsTimes m n q → HasWordLiterals m → HasWordLiterals q
times_literals m n q e h = over_has HasWordLiterals (omega arith) (λ c d x. let le = div-le_self c d in omega arith) (λ a b x. x) (λ a b x y. (x, y)) m n q h e.is_over

-- ---- words
at_least : (x w : ℕ) → 0 < w → x ≤ x * w
at_least x zero lt = absurd (omega arith)
at_least x (suc w) lt = let e : x * suc w ≡ x * w + x = omega arith in omega arith

word_from : (Z : ℤ) (z m : ℕ) → Z ≡ pos z → IsWord (pos m) → z ≤ m → IsWord Z
word_from Z z m e w le = subst IsWord (sym e) (omega (arith, ints), let most = w.1 in omega (arith, ints))

-- ---- what a law leaves
pub record IsMoved (r : PlainRanges) (e s : Expression) : Type 0 where
  pub stands : (sizes variables : List ℕ) → IsPoint r sizes variables e → StandsFor sizes variables e s
  pub small : IsNoLarger e s
  pub literals : HasWordLiterals e → HasWordLiterals s

abbrev IfMoved : PlainRanges → Expression → Option Expression → Type 0
IfMoved r e None = Unit {0}
IfMoved r e (Some s) = IsMoved r e s

abbrev Cell : (row width column : Expression) → Expression
Cell row width column = Binary Sum (Binary Product row width) column

-- the values of a cell
record IsCellAt (sizes variables : List ℕ) (row width column : Expression) : Type 0 where
  row_at : ℕ
  row_is : exact sizes variables row ≡ pos row_at
  within : IsColumn sizes variables column width

module _ (r : PlainRanges) (row width column : Expression) (cell : is_cell r row width column ≡ true) where
  cell_at : (sizes variables : List ℕ) (e : Expression) → IsPoint r sizes variables e → AreWithin variables column → IsCellAt sizes variables row width column
  cell_at sizes variables e p own =
      let parts = both_of (is_natural row) (stays_below r column width) cell in
      let x = count_value sizes variables 3 row parts.0 in
      record { row_at = x.0; row_is = x.1; within = below_is sizes variables r p.loops p.multiples p.positive column width own parts.1 }

  -- the words of a cell's parts
  cell_word : (sizes variables : List ℕ) (c : IsCellAt sizes variables row width column) → IsWord (exact sizes variables (Cell row width column)) → IsWord (pos (c.row_at * c.within.count + c.within.at))
  cell_word sizes variables c w = subst IsWord (cell_from (exact sizes variables row) (exact sizes variables width) (exact sizes variables column) c.row_at c.within.count c.within.at c.row_is c.within.length_is c.within.column_is) w

  column_word : (sizes variables : List ℕ) (c : IsCellAt sizes variables row width column) → IsWord (exact sizes variables (Cell row width column)) → IsWord (exact sizes variables column)
  column_word sizes variables c w = word_from (exact sizes variables column) c.within.at (c.row_at * c.within.count + c.within.at) c.within.column_is (cell_word sizes variables c w) (omega arith)

  row_word : (sizes variables : List ℕ) (c : IsCellAt sizes variables row width column) → IsWord (exact sizes variables (Cell row width column)) → IsWord (exact sizes variables row)
  row_word sizes variables c w =
      let lt = c.within.below in
      let le = at_least c.row_at c.within.count (omega arith) in
      word_from (exact sizes variables row) c.row_at (c.row_at * c.within.count + c.within.at) c.row_is (cell_word sizes variables c w) (omega arith)

  -- ---- (row * width + column) / n is row * k + column / n
  abbrev Split : (k n : Expression) → Expression
  Split k n = Binary Sum (Binary Product row k) (Binary Quotient column n)

  split_row_stands : (k n : Expression) → IsTimes width n k → is_natural n ≡ true → (sizes variables : List ℕ) → IsPoint r sizes variables (Binary Quotient (Cell row width column) n) → StandsFor sizes variables (Binary Quotient (Cell row width column) n) (Split k n)
  split_row_stands k n e natural sizes variables p =
      let c = cell_at sizes variables (Binary Quotient (Cell row width column) n) p p.own.0.1 in
      let kn = count_value sizes variables 3 k e.natural in
      let nn = count_value sizes variables 3 n natural in
      stands_by sizes variables (Binary Quotient (Cell row width column) n) (Split k n)
      (split_row_from (exact sizes variables row) (exact sizes variables width) (exact sizes variables column) (exact sizes variables k) (exact sizes variables n) c.row_at c.within.count c.within.at kn.0 nn.0 c.row_is c.within.length_is c.within.column_is kn.1 nn.1 (over_value sizes variables width n k e.is_over) c.within.below)
      (λ h. (
        λ w. absurd w,
        (λ w. absurd w, h.1.1.1, times_operations (λ o a b. WantsWords o → IsWord (exact sizes variables a) × IsWord (exact sizes variables b)) (λ a b w. absurd w) width n k e h.1.1.2),
        (λ w. (column_word sizes variables c (h.0 tt).0, (h.0 tt).1), h.1.2, h.2),
      ))
      (λ h. (
        λ w. absurd w,
        (λ w. absurd w, h.1.1.1, times_operations (λ o a b. Divides o → exact sizes variables b ≢ pos 0) (λ a b w. absurd w) width n k e h.1.1.2),
        (h.0, h.1.2, h.2),
      ))
      ((p.own.0.0.0, times_within variables width n k e p.own.0.0.1), (p.own.0.1, p.own.1))

  split_row_small : (k n : Expression) → IsTimes width n k → is_no_higher n width ≡ true → IsNoLarger (Binary Quotient (Cell row width column) n) (Split k n)
  split_row_small k n e low =
      let less = over_less width n k e.is_over in
      let few = less.nodes in
      let short = less.height in
      let low_is = no_higher n width low in
      record {
        nodes = omega arith;
        height = omega arith;
        names = λ v s h.
            let whole = and_parts (names_are v s (Cell row width column)) (names_are v s n) h in
            let sum = and_parts (names_are v s row && names_are v s width) (names_are v s column) whole.0 in
            let begin = and_parts (names_are v s row) (names_are v s width) sum.0 in
            and_from (names_are v s row && names_are v s k) (names_are v s column && names_are v s n)
            (and_from (names_are v s row) (names_are v s k) begin.0 (times_names v s width n k e begin.1))
            (and_from (names_are v s column) (names_are v s n) sum.1 whole.1);
      }

  split_row_moved : (k n : Expression) → IsTimes width n k → is_natural n ≡ true → is_no_higher n width ≡ true → IsMoved r (Binary Quotient (Cell row width column) n) (Split k n)
  split_row_moved k n e natural low = record {
    stands = split_row_stands k n e natural;
    small = split_row_small k n e low;
    literals = λ h. ((h.0.0.0, times_literals width n k e h.0.0.1), (h.0.1, h.1));
  }

  -- ---- and row / k where n is k * width
  row_stands : (k n : Expression) → IsTimes n width k → (sizes variables : List ℕ) → IsPoint r sizes variables (Binary Quotient (Cell row width column) n) → StandsFor sizes variables (Binary Quotient (Cell row width column) n) (Binary Quotient row k)
  row_stands k n e sizes variables p =
      let c = cell_at sizes variables (Binary Quotient (Cell row width column) n) p p.own.0.1 in
      let kn = count_value sizes variables 3 k e.natural in
      let left = over_value sizes variables n width k e.is_over in
      let n_is = length_from (exact sizes variables n) (exact sizes variables k) (exact sizes variables width) kn.0 c.within.count left kn.1 c.within.length_is in
      let lt = c.within.below in
      stands_by sizes variables (Binary Quotient (Cell row width column) n) (Binary Quotient row k)
      (row_from (exact sizes variables row) (exact sizes variables width) (exact sizes variables column) (exact sizes variables k) (exact sizes variables n) c.row_at c.within.count c.within.at kn.0 (kn.0 * c.within.count) c.row_is c.within.length_is c.within.column_is kn.1 n_is left lt)
      (λ h. (
        λ w. (row_word sizes variables c (h.0 tt).0, word_from (exact sizes variables k) kn.0 (kn.0 * c.within.count) kn.1 (subst IsWord n_is (h.0 tt).1) (at_least kn.0 c.within.count (omega arith))),
        h.1.1.1,
        times_operations (λ o a b. WantsWords o → IsWord (exact sizes variables a) × IsWord (exact sizes variables b)) (λ a b w. absurd w) n width k e h.2,
      ))
      (λ h. (
        λ w none. h.0 tt (left ∙ ap (λ z. z *ℤ exact sizes variables width) none ∙ zero-*ℤ (exact sizes variables width)),
        h.1.1.1,
        times_operations (λ o a b. Divides o → exact sizes variables b ≢ pos 0) (λ a b w. absurd w) n width k e h.2,
      ))
      (p.own.0.0.0, times_within variables n width k e p.own.1)

  row_moved : (k n : Expression) → IsTimes n width k → IsMoved r (Binary Quotient (Cell row width column) n) (Binary Quotient row k)
  row_moved k n e =
      let less = over_less n width k e.is_over in
      let few = less.nodes in
      let short = less.height in
      record {
        stands = row_stands k n e;
        small = record {
          nodes = omega arith;
          height = omega arith;
          names = λ v s h.
              let whole = and_parts (names_are v s (Cell row width column)) (names_are v s n) h in
              let sum = and_parts (names_are v s row && names_are v s width) (names_are v s column) whole.0 in
              and_from (names_are v s row) (names_are v s k) (and_parts (names_are v s row) (names_are v s width) sum.0).0 (times_names v s n width k e whole.1);
        };
        literals = λ h. (h.0.0.0, times_literals n width k e h.1);
      }

  -- ---- (row * width + column) mod n is column mod n
  column_stands : (k n : Expression) → IsTimes width n k → is_natural n ≡ true → (sizes variables : List ℕ) → IsPoint r sizes variables (Binary Remainder (Cell row width column) n) → StandsFor sizes variables (Binary Remainder (Cell row width column) n) (Binary Remainder column n)
  column_stands k n e natural sizes variables p =
      let c = cell_at sizes variables (Binary Remainder (Cell row width column) n) p p.own.0.1 in
      let kn = count_value sizes variables 3 k e.natural in
      let nn = count_value sizes variables 3 n natural in
      stands_by sizes variables (Binary Remainder (Cell row width column) n) (Binary Remainder column n)
      (split_column_from (exact sizes variables row) (exact sizes variables width) (exact sizes variables column) (exact sizes variables k) (exact sizes variables n) c.row_at c.within.count c.within.at kn.0 nn.0 c.row_is c.within.length_is c.within.column_is kn.1 nn.1 (over_value sizes variables width n k e.is_over))
      (λ h. (λ w. (column_word sizes variables c (h.0 tt).0, (h.0 tt).1), h.1.2, h.2))
      (λ h. (h.0, h.1.2, h.2))
      (p.own.0.1, p.own.1)

  column_moved : (k n : Expression) → IsTimes width n k → is_natural n ≡ true → IsMoved r (Binary Remainder (Cell row width column) n) (Binary Remainder column n)
  column_moved k n e natural = record {
    stands = column_stands k n e natural;
    small = record {
      nodes = omega arith;
      height = omega arith;
      names = λ v s h.
          let whole = and_parts (names_are v s (Cell row width column)) (names_are v s n) h in
          and_from (names_are v s column) (names_are v s n) (and_parts (names_are v s row && names_are v s width) (names_are v s column) whole.0).1 whole.1;
    };
    literals = λ h. (h.0.1, h.1);
  }

  -- ---- and (row mod k) * width + column where n is k * width
  abbrev Around : (k : Expression) → Expression
  Around k = Binary Sum (Binary Product (Binary Remainder row k) width) column

  around_stands : (k n : Expression) → IsTimes n width k → (sizes variables : List ℕ) → IsPoint r sizes variables (Binary Remainder (Cell row width column) n) → StandsFor sizes variables (Binary Remainder (Cell row width column) n) (Around k)
  around_stands k n e sizes variables p =
      let c = cell_at sizes variables (Binary Remainder (Cell row width column) n) p p.own.0.1 in
      let kn = count_value sizes variables 3 k e.natural in
      let left = over_value sizes variables n width k e.is_over in
      let n_is = length_from (exact sizes variables n) (exact sizes variables k) (exact sizes variables width) kn.0 c.within.count left kn.1 c.within.length_is in
      let lt = c.within.below in
      stands_by sizes variables (Binary Remainder (Cell row width column) n) (Around k)
      (around_from (exact sizes variables row) (exact sizes variables width) (exact sizes variables column) (exact sizes variables k) (exact sizes variables n) c.row_at c.within.count c.within.at kn.0 (kn.0 * c.within.count) c.row_is c.within.length_is c.within.column_is kn.1 n_is left lt)
      (λ h. (
        λ w. absurd w,
        (
          λ w. absurd w,
          (
            λ w. (row_word sizes variables c (h.0 tt).0, word_from (exact sizes variables k) kn.0 (kn.0 * c.within.count) kn.1 (subst IsWord n_is (h.0 tt).1) (at_least kn.0 c.within.count (omega arith))),
            h.1.1.1,
            times_operations (λ o a b. WantsWords o → IsWord (exact sizes variables a) × IsWord (exact sizes variables b)) (λ a b w. absurd w) n width k e h.2,
          ),
          h.1.1.2,
        ),
        h.1.2,
      ))
      (λ h. (
        λ w. absurd w,
        (
          λ w. absurd w,
          (
            λ w none. h.0 tt (left ∙ ap (λ z. z *ℤ exact sizes variables width) none ∙ zero-*ℤ (exact sizes variables width)),
            h.1.1.1,
            times_operations (λ o a b. Divides o → exact sizes variables b ≢ pos 0) (λ a b w. absurd w) n width k e h.2,
          ),
          h.1.1.2,
        ),
        h.1.2,
      ))
      (((p.own.0.0.0, times_within variables n width k e p.own.1), p.own.0.0.1), p.own.0.1)

  around_moved : (k n : Expression) → IsTimes n width k → (is_no_higher k row || is_no_higher k width) ≡ true → IsMoved r (Binary Remainder (Cell row width column) n) (Around k)
  around_moved k n e low =
      let less = over_less n width k e.is_over in
      let few = less.nodes in
      let low_is = under k row width (no_higher k row) (no_higher k width) low in
      record {
        stands = around_stands k n e;
        small = record {
          nodes = omega arith;
          height = omega arith;
          names = λ v s h.
              let whole = and_parts (names_are v s (Cell row width column)) (names_are v s n) h in
              let sum = and_parts (names_are v s row && names_are v s width) (names_are v s column) whole.0 in
              let begin = and_parts (names_are v s row) (names_are v s width) sum.0 in
              and_from ((names_are v s row && names_are v s k) && names_are v s width) (names_are v s column)
              (and_from (names_are v s row && names_are v s k) (names_are v s width) (and_from (names_are v s row) (names_are v s k) begin.0 (times_names v s n width k e whole.1)) begin.1)
              sum.1;
        };
        literals = λ h. (((h.0.0.0, times_literals n width k e h.1), h.0.0.1), h.0.1);
      }

  -- ---- ((row * n + column) mod m) / n is row mod k, where m is k * n
  module _ (m n k : Expression) (around : same width n ≡ true) (e : IsTimes m width k) where
    around_row_stands : (sizes variables : List ℕ) → IsPoint r sizes variables (Binary Quotient (Binary Remainder (Cell row width column) m) n) → StandsFor sizes variables (Binary Quotient (Binary Remainder (Cell row width column) m) n) (Binary Remainder row k)
    around_row_stands sizes variables p =
        let c = cell_at sizes variables (Binary Quotient (Binary Remainder (Cell row width column) m) n) p p.own.0.0.1 in
        let kn = count_value sizes variables 3 k e.natural in
        let left = over_value sizes variables m width k e.is_over in
        let m_is = length_from (exact sizes variables m) (exact sizes variables k) (exact sizes variables width) kn.0 c.within.count left kn.1 c.within.length_is in
        let n_is = same_value sizes variables width n around in
        let lt = c.within.below in
        stands_by sizes variables (Binary Quotient (Binary Remainder (Cell row width column) m) n) (Binary Remainder row k)
        (around_row_from (exact sizes variables row) (exact sizes variables width) (exact sizes variables column) (exact sizes variables k) (exact sizes variables n) c.row_at c.within.count c.within.at kn.0 c.within.count c.row_is c.within.length_is c.within.column_is kn.1 (sym n_is ∙ c.within.length_is) (exact sizes variables m) left n_is lt)
        (λ h. (
          λ w. (row_word sizes variables c (h.1.0 tt).0, word_from (exact sizes variables k) kn.0 (kn.0 * c.within.count) kn.1 (subst IsWord m_is (h.1.0 tt).1) (at_least kn.0 c.within.count (omega arith))),
          h.1.1.1.1,
          times_operations (λ o a b. WantsWords o → IsWord (exact sizes variables a) × IsWord (exact sizes variables b)) (λ a b w. absurd w) m width k e h.1.2,
        ))
        (λ h. (
          λ w none. h.1.0 tt (left ∙ ap (λ z. z *ℤ exact sizes variables width) none ∙ zero-*ℤ (exact sizes variables width)),
          h.1.1.1.1,
          times_operations (λ o a b. Divides o → exact sizes variables b ≢ pos 0) (λ a b w. absurd w) m width k e h.1.2,
        ))
        (p.own.0.0.0.0, times_within variables m width k e p.own.0.1)

    around_row_moved : IsMoved r (Binary Quotient (Binary Remainder (Cell row width column) m) n) (Binary Remainder row k)
    around_row_moved =
        let less = over_less m width k e.is_over in
        let few = less.nodes in
        let short = less.height in
        record {
          stands = around_row_stands;
          small = record {
            nodes = omega arith;
            height = omega arith;
            names = λ v s h.
                let whole = and_parts (names_are v s (Binary Remainder (Cell row width column) m)) (names_are v s n) h in
                let rest = and_parts (names_are v s (Cell row width column)) (names_are v s m) whole.0 in
                let sum = and_parts (names_are v s row && names_are v s width) (names_are v s column) rest.0 in
                and_from (names_are v s row) (names_are v s k) (and_parts (names_are v s row) (names_are v s width) sum.0).0 (times_names v s m width k e rest.1);
          };
          literals = λ h. (h.0.0.0.0, times_literals m width k e h.0.1);
        }

    -- and modulo n it is column
    around_column_stands : (sizes variables : List ℕ) → IsPoint r sizes variables (Binary Remainder (Binary Remainder (Cell row width column) m) n) → StandsFor sizes variables (Binary Remainder (Binary Remainder (Cell row width column) m) n) column
    around_column_stands sizes variables p =
        let c = cell_at sizes variables (Binary Remainder (Binary Remainder (Cell row width column) m) n) p p.own.0.0.1 in
        let kn = count_value sizes variables 3 k e.natural in
        let n_is = same_value sizes variables width n around in
        stands_by sizes variables (Binary Remainder (Binary Remainder (Cell row width column) m) n) column
        (around_column_from (exact sizes variables row) (exact sizes variables width) (exact sizes variables column) (exact sizes variables k) (exact sizes variables n) c.row_at c.within.count c.within.at kn.0 c.within.count c.row_is c.within.length_is c.within.column_is kn.1 (sym n_is ∙ c.within.length_is) (exact sizes variables m) (over_value sizes variables m width k e.is_over) n_is c.within.below)
        (λ h. h.1.1.2)
        (λ h. h.1.1.2)
        p.own.0.0.1

    around_column_moved : IsMoved r (Binary Remainder (Binary Remainder (Cell row width column) m) n) column
    around_column_moved = record {
      stands = around_column_stands;
      small = record {
        nodes = omega arith;
        height = omega arith;
        names = λ v s h.
            let whole = and_parts (names_are v s (Binary Remainder (Cell row width column) m)) (names_are v s n) h in
            let rest = and_parts (names_are v s (Cell row width column)) (names_are v s m) whole.0 in
            (and_parts (names_are v s row && names_are v s width) (names_are v s column) rest.0).1;
      };
      literals = λ h. h.0.0.1;
    }

-- ---- what stays below a length
below_over : (A N : ℤ) (a n : ℕ) → A ≡ pos a → N ≡ pos n → a < n → pos 0 ≡ int_div A N
below_over A N a n e f lt = rw (e, f) (ap pos (sym (div-eq_of_lt lt)))

below_modulo : (A N : ℤ) (a n : ℕ) → A ≡ pos a → N ≡ pos n → a < n → A ≡ int_rem A N
below_modulo A N a n e f lt = rw (e, f) (ap pos (sym (mod-eq_of_lt lt)))

module _ (r : PlainRanges) (a n : Expression) (below : stays_below r a n ≡ true) where
  zero_moved : IsMoved r (Binary Quotient a n) (Literal 0)
  zero_moved = record {
    stands = λ sizes variables p.
        let c = below_is sizes variables r p.loops p.multiples p.positive a n p.own.0 below in
        stands_by sizes variables (Binary Quotient a n) (Literal 0)
        (below_over (exact sizes variables a) (exact sizes variables n) c.at c.count c.column_is c.length_is c.below) (λ h. tt) (λ h. tt) tt;
    small = literal_small (Binary Quotient a n) 0;
    literals = λ h. omega arith;
  }

  itself_moved : IsMoved r (Binary Remainder a n) a
  itself_moved = record {
    stands = λ sizes variables p.
        let c = below_is sizes variables r p.loops p.multiples p.positive a n p.own.0 below in
        stands_by sizes variables (Binary Remainder a n) a
        (below_modulo (exact sizes variables a) (exact sizes variables n) c.at c.count c.column_is c.length_is c.below) (λ h. h.1) (λ h. h.1) p.own.0;
    small = left_small Remainder a n;
    literals = λ h. h.0;
  }

nothing_added : (A B : ℤ) (b n : ℕ) → B ≡ pos b → pos 1 ≡ pos n → b < n → A ≡ A +ℤ B
nothing_added A B b n e f lt = let one : 1 ≡ n = cc f in omega (arith, ints)

-- ---- a product with what stays below 1
nothing_times : (A B : ℤ) (a n : ℕ) → A ≡ pos a → pos 1 ≡ pos n → a < n → pos 0 ≡ A *ℤ B
nothing_times A B a n e f lt = let one : 1 ≡ n = cc f in let none : a ≡ 0 = omega arith in sym (ap (λ z. z *ℤ B) (e ∙ ap pos none) ∙ zero-*ℤ B)

times_nothing : (A B : ℤ) (b n : ℕ) → B ≡ pos b → pos 1 ≡ pos n → b < n → pos 0 ≡ A *ℤ B
times_nothing A B b n e f lt = let one : 1 ≡ n = cc f in let none : b ≡ 0 = omega arith in sym (ap (λ z. A *ℤ z) (e ∙ ap pos none) ∙ *ℤ-zero A)

first_nothing : (r : PlainRanges) (a b : Expression) → stays_below r a (Literal 1) ≡ true → IsMoved r (Binary Product a b) (Literal 0)
first_nothing r a b below = record {
  stands = λ sizes variables p.
      let c = below_is sizes variables r p.loops p.multiples p.positive a (Literal 1) p.own.0 below in
      stands_by sizes variables (Binary Product a b) (Literal 0)
      (nothing_times (exact sizes variables a) (exact sizes variables b) c.at c.count c.column_is c.length_is c.below) (λ h. tt) (λ h. tt) tt;
  small = literal_small (Binary Product a b) 0;
  literals = λ h. omega arith;
}

second_nothing : (r : PlainRanges) (a b : Expression) → stays_below r b (Literal 1) ≡ true → IsMoved r (Binary Product a b) (Literal 0)
second_nothing r a b below = record {
  stands = λ sizes variables p.
      let c = below_is sizes variables r p.loops p.multiples p.positive b (Literal 1) p.own.1 below in
      stands_by sizes variables (Binary Product a b) (Literal 0)
      (times_nothing (exact sizes variables a) (exact sizes variables b) c.at c.count c.column_is c.length_is c.below) (λ h. tt) (λ h. tt) tt;
  small = literal_small (Binary Product a b) 0;
  literals = λ h. omega arith;
}

first_moved : (r : PlainRanges) (a b : Expression) → stays_below r b (Literal 1) ≡ true → IsMoved r (Binary Sum a b) a
first_moved r a b below = record {
  stands = λ sizes variables p.
      let c = below_is sizes variables r p.loops p.multiples p.positive b (Literal 1) p.own.1 below in
      stands_by sizes variables (Binary Sum a b) a
      (nothing_added (exact sizes variables a) (exact sizes variables b) c.at c.count c.column_is c.length_is c.below) (λ h. h.1) (λ h. h.1) p.own.0;
  small = left_small Sum a b;
  literals = λ h. h.0;
}

-- ---- the lesser of what stays below a length and of its last number
not_past : (A L N : ℤ) (a n : ℕ) → A ≡ pos a → N ≡ pos n → a < n → L ≡ N -ℤ pos 1 → A ≡ int_min A L
not_past A L N a n e f lt g = rw (g, e, f) (omega (arith, ints, clamps))

past_not : (A L N : ℤ) (a n : ℕ) → A ≡ pos a → N ≡ pos n → a < n → L ≡ N -ℤ pos 1 → A ≡ int_min L A
past_not A L N a n e f lt g = rw (g, e, f) (omega (arith, ints, clamps))

-- the length that ends with the last number
record IsEndOf (r : PlainRanges) (e last : Expression) : Type 0 where
  length : Expression
  below : stays_below r e length ≡ true
  last_is : (sizes variables : List ℕ) → exact sizes variables last ≡ exact sizes variables length -ℤ pos 1

end_of : (r : PlainRanges) (e last : Expression) → is_at_most r e last ≡ true → IsEndOf r e last
end_of r e (Literal m) h = go (literal_sum m 1) refl h
  where
    go : (n : Option Expression) → literal_sum m 1 ≡ n → is_passed (λ n. stays_below r e n) n ≡ true → IsEndOf r e (Literal m)
    go (Some n) is passed = record { length = n; below = passed; last_is = λ sizes variables. let value = sum_is sizes variables m 1 n is in omega (arith, ints) }
    go None is passed = absurd (cc passed)
end_of r e (Binary Difference n one) h =
    let parts = and_parts (is_number 1 one) (stays_below r e n) h in
    record { length = n; below = parts.1; last_is = λ sizes variables. ap (λ z. exact sizes variables n -ℤ z) (sym (number_value sizes variables 1 one parts.0)) }
end_of r e _ h = absurd (cc h)

at_most_moved : (r : PlainRanges) (a b : Expression) → is_at_most r a b ≡ true → IsMoved r (Binary Least a b) a
at_most_moved r a b h = record {
  stands = λ sizes variables p.
      let f = end_of r a b h in
      let c = below_is sizes variables r p.loops p.multiples p.positive a f.length p.own.0 f.below in
      stands_by sizes variables (Binary Least a b) a
      (not_past (exact sizes variables a) (exact sizes variables b) (exact sizes variables f.length) c.at c.count c.column_is c.length_is c.below (f.last_is sizes variables))
      (λ h. h.1) (λ h. h.1) p.own.0;
  small = left_small Least a b;
  literals = λ h. h.0;
}

most_at_moved : (r : PlainRanges) (a b : Expression) → is_at_most r b a ≡ true → IsMoved r (Binary Least a b) b
most_at_moved r a b h = record {
  stands = λ sizes variables p.
      let f = end_of r b a h in
      let c = below_is sizes variables r p.loops p.multiples p.positive b f.length p.own.1 f.below in
      stands_by sizes variables (Binary Least a b) b
      (past_not (exact sizes variables b) (exact sizes variables a) (exact sizes variables f.length) c.at c.count c.column_is c.length_is c.below (f.last_is sizes variables))
      (λ h. h.2) (λ h. h.2) p.own.1;
  small = right_small Least a b;
  literals = λ h. h.1;
}

-- ---- the laws as they are found
module _ (r : PlainRanges) where
  split_found : (row width column n : Expression) → is_cell r row width column ≡ true → (part : Option Expression) → natural_over width n ≡ part → (b : Bool) → (is_natural n && is_no_higher n width) ≡ b → IfMoved r (Binary Quotient (Cell row width column) n) (if b then option_map (λ k. Binary Sum (Binary Product row k) (Binary Quotient column n)) part else None)
  split_found row width column n cell (Some k) e true h =
      let parts = and_parts (is_natural n) (is_no_higher n width) h in
      split_row_moved r row width column cell k n (times_of width n k e) parts.0 parts.1
  split_found row width column n cell None e true h = tt
  split_found row width column n cell part e false h = tt

  cell_found : (row width column n : Expression) → is_cell r row width column ≡ true → (rows : Option Expression) → natural_over n width ≡ rows → IfMoved r (Binary Quotient (Cell row width column) n) (cell_by rows row width column n)
  cell_found row width column n cell (Some k) e = row_moved r row width column cell k n (times_of n width k e)
  cell_found row width column n cell None e = split_found row width column n cell (natural_over width n) refl (is_natural n && is_no_higher n width) refl

  sum_over_found : (begin column n : Expression) → IfMoved r (Binary Quotient (Binary Sum begin column) n) (sum_over r begin column n)
  sum_over_found (Binary Product row width) column n = go (is_cell r row width column) refl
    where
      go : (b : Bool) → is_cell r row width column ≡ b → IfMoved r (Binary Quotient (Cell row width column) n) (if b then cell_over row width column n else None)
      go true cell = cell_found row width column n cell (natural_over n width) refl
      go false cell = tt
  sum_over_found _ column n = tt

  -- by the column, where the width of rows is so many times the length
  column_found : (row width column n : Expression) → is_cell r row width column ≡ true → (b : Bool) → is_natural n ≡ b → (part : Option Expression) → natural_over width n ≡ part → IfMoved r (Binary Remainder (Cell row width column) n) (if b then option_map (λ k. Binary Remainder column n) part else None)
  column_found row width column n cell true h (Some k) e = column_moved r row width column cell k n (times_of width n k e) h
  column_found row width column n cell true h None e = tt
  column_found row width column n cell false h part e = tt

  row_found : (rows row width column n : Expression) → is_cell r row width column ≡ true → natural_over n width ≡ Some rows → (b : Bool) → (is_no_higher rows row || is_no_higher rows width) ≡ b → IfMoved r (Binary Remainder (Cell row width column) n) (if b then Some (Binary Sum (Binary Product (Binary Remainder row rows) width) column) else None)
  row_found rows row width column n cell e true low = around_moved r row width column cell rows n (times_of n width rows e) low
  row_found rows row width column n cell e false low = tt

  rows_found : (row width column n : Expression) → is_cell r row width column ≡ true → (rows : Option Expression) → natural_over n width ≡ rows → IfMoved r (Binary Remainder (Cell row width column) n) (option_and_then (λ k. row_modulo k row width column) rows)
  rows_found row width column n cell (Some k) e = row_found k row width column n cell e (is_no_higher k row || is_no_higher k width) refl
  rows_found row width column n cell None e = tt

  modulo_found : (row width column n : Expression) → is_cell r row width column ≡ true → (by_column : Option Expression) → IfMoved r (Binary Remainder (Cell row width column) n) by_column → IfMoved r (Binary Remainder (Cell row width column) n) (modulo_by by_column row width column n)
  modulo_found row width column n cell (Some e) h = h
  modulo_found row width column n cell None h = rows_found row width column n cell (natural_over n width) refl

  sum_modulo_found : (begin column n : Expression) → IfMoved r (Binary Remainder (Binary Sum begin column) n) (sum_modulo r begin column n)
  sum_modulo_found (Binary Product row width) column n = go (is_cell r row width column) refl
    where
      go : (b : Bool) → is_cell r row width column ≡ b → IfMoved r (Binary Remainder (Cell row width column) n) (if b then cell_modulo row width column n else None)
      go true h = modulo_found row width column n h (column_modulo width column n) (column_found row width column n h (is_natural n) refl (natural_over width n) refl)
      go false h = tt
  sum_modulo_found _ column n = tt

  remainder_over_found : (cell m n : Expression) → IfMoved r (Binary Quotient (Binary Remainder cell m) n) (remainder_over r cell m n)
  remainder_over_found (Binary Sum (Binary Product row width) column) m n = go (same width n && is_cell r row width column) refl (natural_over m width) refl
    where
      go : (b : Bool) → (same width n && is_cell r row width column) ≡ b → (rows : Option Expression) → natural_over m width ≡ rows → IfMoved r (Binary Quotient (Binary Remainder (Cell row width column) m) n) (option_map (λ k. Binary Remainder row k) (if b then rows else None))
      go true h (Some k) e = let parts = and_parts (same width n) (is_cell r row width column) h in around_row_moved r row width column parts.1 m n k parts.0 (times_of m width k e)
      go true h None e = tt
      go false h rows e = tt
  remainder_over_found (Binary Sum _ column) m n = tt
  remainder_over_found _ m n = tt

  remainder_modulo_found : (cell m n : Expression) → IfMoved r (Binary Remainder (Binary Remainder cell m) n) (remainder_modulo r cell m n)
  remainder_modulo_found (Binary Sum (Binary Product row width) column) m n = go (same width n && is_cell r row width column) refl (natural_over m width) refl
    where
      go : (b : Bool) → (same width n && is_cell r row width column) ≡ b → (rows : Option Expression) → natural_over m width ≡ rows → IfMoved r (Binary Remainder (Binary Remainder (Cell row width column) m) n) (option_map (λ k. column) (if b then rows else None))
      go true h (Some k) e = let parts = and_parts (same width n) (is_cell r row width column) h in around_column_moved r row width column parts.1 m n k parts.0 (times_of m width k e)
      go true h None e = tt
      go false h rows e = tt
  remainder_modulo_found (Binary Sum _ column) m n = tt
  remainder_modulo_found _ m n = tt

  quotient_of_found : (a n : Expression) → IfMoved r (Binary Quotient a n) (quotient_of r a n)
  quotient_of_found (Binary Sum begin column) n = sum_over_found begin column n
  quotient_of_found (Binary Remainder cell m) n = remainder_over_found cell m n
  quotient_of_found _ n = tt

  remainder_of_found : (a n : Expression) → IfMoved r (Binary Remainder a n) (remainder_of r a n)
  remainder_of_found (Binary Sum begin column) n = sum_modulo_found begin column n
  remainder_of_found (Binary Remainder cell m) n = remainder_modulo_found cell m n
  remainder_of_found _ n = tt

  quotient_found : (a n : Expression) (b : Bool) → stays_below r a n ≡ b → IfMoved r (Binary Quotient a n) (if b then Some (Literal 0) else quotient_of r a n)
  quotient_found a n true h = zero_moved r a n h
  quotient_found a n false h = quotient_of_found a n

  remainder_found : (a n : Expression) (b : Bool) → stays_below r a n ≡ b → IfMoved r (Binary Remainder a n) (if b then Some a else remainder_of r a n)
  remainder_found a n true h = itself_moved r a n h
  remainder_found a n false h = remainder_of_found a n

  sum_found : (a b : Expression) (t : Bool) → stays_below r b (Literal 1) ≡ t → IfMoved r (Binary Sum a b) (if t then Some a else None)
  sum_found a b true h = first_moved r a b h
  sum_found a b false h = tt

  product_found : (a b : Expression) (s t : Bool) → stays_below r a (Literal 1) ≡ s → stays_below r b (Literal 1) ≡ t → IfMoved r (Binary Product a b) (if s || t then Some (Literal 0) else None)
  product_found a b true t h e = first_nothing r a b h
  product_found a b false true h e = second_nothing r a b e
  product_found a b false false h e = tt

  least_found : (a b : Expression) (s t : Bool) → is_at_most r a b ≡ s → is_at_most r b a ≡ t → IfMoved r (Binary Least a b) (if s then Some a else (if t then Some b else None))
  least_found a b true t h e = at_most_moved r a b h
  least_found a b false true h e = most_at_moved r a b e
  least_found a b false false h e = tt

  part_found : (o : Operation) (a b : Expression) → IfMoved r (Binary o a b) (part_of r o a b)
  part_found Sum a b = sum_found a b (stays_below r b (Literal 1)) refl
  part_found Product a b = product_found a b (stays_below r a (Literal 1)) (stays_below r b (Literal 1)) refl refl
  part_found Quotient a b = quotient_found a b (stays_below r a b) refl
  part_found Remainder a b = remainder_found a b (stays_below r a b) refl
  part_found Least a b = least_found a b (is_at_most r a b) (is_at_most r b a) refl refl
  part_found _ a b = tt

  -- ---- each operation, from the leaves up
  itself_stays : (e : Expression) → IsMoved r e e
  itself_stays e = record { stands = λ sizes variables p. stands_itself sizes variables e p.own; small = same_small e; literals = λ h. h }

  then_moved : (e f g : Expression) → ((sizes variables : List ℕ) → IsPoint r sizes variables e → StandsFor sizes variables e f) → IsNoLarger e f → (HasWordLiterals e → HasWordLiterals f) → IsMoved r f g → IsMoved r e g
  then_moved e f g stands small literals x = record {
    stands = λ sizes variables p. let s = stands sizes variables p in stands_then sizes variables e f g s (x.stands sizes variables (record { loops = p.loops; multiples = p.multiples; positive = p.positive; own = s.own }));
    small = then_small e f g small x.small;
    literals = λ h. x.literals (literals h);
  }

  found_or_itself : (e : Expression) (found : Option Expression) → IfMoved r e found → IsMoved r e (unwrap_or found e)
  found_or_itself e (Some s) h = h
  found_or_itself e None h = itself_stays e

  operation_moved : (o : Operation) (a b c d : Expression) → IsMoved r a c → IsMoved r b d → IsMoved r (Binary o a b) (parted_operation r o c d)
  operation_moved o a b c d x y =
      then_moved (Binary o a b) (Binary o c d) (parted_operation r o c d)
      (λ sizes variables p. stands_joined sizes variables o a b c d (x.stands sizes variables (record { loops = p.loops; multiples = p.multiples; positive = p.positive; own = p.own.0 })) (y.stands sizes variables (record { loops = p.loops; multiples = p.multiples; positive = p.positive; own = p.own.1 })))
      (joined_small o a b c d x.small y.small)
      (λ h. (x.literals h.0, y.literals h.1))
      (found_or_itself (Binary o c d) (part_of r o c d) (part_found o c d))

  pub parted_moved : (e : Expression) → IsMoved r e (parted r e)
  parted_moved (Variable k l g) = itself_stays (Variable k l g)
  parted_moved (Literal n) = itself_stays (Literal n)
  parted_moved (Size k) = itself_stays (Size k)
  parted_moved (Binary o a b) = operation_moved o a b (parted r a) (parted r b) (parted_moved a) (parted_moved b)
