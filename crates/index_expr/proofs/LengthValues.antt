-- The expression of a length has its value, is ranged, and divides by no 0.
use Rattle.std.proofs.Common.{◌≡◌, ◌≢◌, ℕ, zero, suc, ℤ, pos, negsuc, ◌+◌, ◌*◌, ◌/◌, ◌^◌, ◌<◌, ◌≤◌, ◌+ℤ◌, ◌-ℤ◌, ◌*ℤ◌, Bool, true, false, Option, Some, None, List, [], ◌∷◌, length, refl, sym, ap, ◌∙◌, subst, ⊎_elim, zero-add, arith}
use Rattle.std.specs.Prelude.{unsigned_abs, slice_index, unwrap_or, ◌==◌, if◌then◌else◌}
use Rattle.std.proofs.Math.Nat.{pow-zero, pow-succ', mul-div_cancel_left}
use Rattle.std.proofs.lemmas.Bool.{cases_Bool, eqb-true}
use Rattle.std.proofs.lemmas.Int.{ints}
use Rattle.size_arith.specs.declared.names.Name.{Name}
use Rattle.size_arith.specs.declared.poly.Monomial.{Monomial}
use Rattle.size_arith.specs.Ranges.{AreNames, Admissible, sizes_at}
use Rattle.size_arith.specs.Polynomial.{product, value_at, IsPoly, AllSmall, greatest}
use Rattle.size_arith.specs.Shown.{positive_part, positives_at}
use Rattle.index_expr.specs.declared.operation.Operation.{Operation}
use Rattle.index_expr.specs.declared.operation.Operation.TheVariants.{Sum, Difference, Product, Quotient}
use Rattle.index_expr.specs.Expression.{Expression, Literal, Size, Binary}
use Rattle.index_expr.specs.Values.{exact, EachOperation, Divides, WantsWords, IsWord, IsRangedAt, HasNoZeroDivisorAt}
use Rattle.index_expr.specs.Lengths.{base_expression, joined, repeated, product_expression, number_expression, with_coefficient, monomial_expression, is_negative, positive_sum, negative_sum, difference_of, length_expression}

-- ---- coefficients
small_from : (b : ℕ) (p : List Monomial) → greatest p ≤ b → AllSmall b p
small_from b [] h = tt
small_from b (m ∷ p) h = (omega arith, small_from b p (omega arith))

pub coefficients_are_small : (p : List Monomial) → IsPoly p → AllSmall (2 ^ 32) p
coefficients_are_small p poly = small_from (2 ^ 32) p poly.coefficients

-- ---- values
same_number : (m n : ℕ) → pos m ≡ pos n → m ≡ n
same_number m n e = ap unsigned_abs e

module _ (sizes variables : List ℕ) where
  -- the value of what there is, else this
  abbrev value_or : ℕ → Option Expression → ℤ
  value_or n None = pos n
  value_or n (Some e) = exact sizes variables e

  joined_product : (e : Expression) (rest : Option Expression) (m n : ℕ) → exact sizes variables e ≡ pos m → value_or 1 rest ≡ pos n → exact sizes variables (joined Product e rest) ≡ pos (m * n)
  joined_product e None m n a b =
      let one : m * 1 ≡ m * n = ap (λ x. m * x) (same_number 1 n b) in
      let same : m ≡ m * n = omega arith in
      a ∙ ap pos same
  joined_product e (Some f) m n a b = ap (λ z. z *ℤ exact sizes variables f) a ∙ ap (λ z. pos m *ℤ z) b

  joined_sum : (e : Expression) (rest : Option Expression) (m n : ℕ) → exact sizes variables e ≡ pos m → value_or 0 rest ≡ pos n → exact sizes variables (joined Sum e rest) ≡ pos (m + n)
  joined_sum e None m n a b =
      let none = same_number 0 n b in
      let same : m ≡ m + n = omega arith in
      a ∙ ap pos same
  joined_sum e (Some f) m n a b = ap (λ z. z +ℤ exact sizes variables f) a ∙ ap (λ z. pos m +ℤ z) b

  power_after : (y m n : ℕ) → y * (y ^ m * n) ≡ y ^ suc m * n
  power_after y m n = let e = pow-succ' y m in let f = ap (λ x. x * n) e in let g : y * (y ^ m * n) ≡ y * y ^ m * n = grind arith in g ∙ sym f

  repeated_value : (e : Expression) (y m : ℕ) (rest : Option Expression) (n : ℕ) → exact sizes variables e ≡ pos y → value_or 1 rest ≡ pos n → value_or 1 (repeated e m rest) ≡ pos (y ^ m * n)
  repeated_value e y zero rest n a b = let one = ap (λ x. x * n) (pow-zero y) in let same : n ≡ y ^ 0 * n = omega arith in b ∙ ap pos same
  repeated_value e y (suc m) rest n a b = joined_product e (repeated e m rest) y (y ^ m * n) a (repeated_value e y m rest n a b) ∙ ap pos (power_after y m n)

  base_value : (k d y : ℕ) → 1 ≤ d → slice_index sizes k ≡ d * y → exact sizes variables (base_expression k d) ≡ pos y
  base_value k d y positive at =
      ⊎_elim
      (λ one.
      let e : d ≡ 1 = eqb-true d 1 one in
      let f = ap (λ x. x * y) e in
      let same : slice_index sizes k ≡ y = omega arith in
      ap (λ (b : Bool). exact sizes variables (if b then Size k else Binary Quotient (Size k) (Literal d))) one ∙ ap pos same)
      (λ more.
      ap (λ (b : Bool). exact sizes variables (if b then Size k else Binary Quotient (Size k) (Literal d))) more
      ∙ ap (λ x. pos (x / d)) at ∙ ap pos (mul-div_cancel_left y (omega arith)))
      (cases_Bool (d == 1))

  -- the sizes from this number on are those of these names
  abbrev SizesFrom : ℕ → List Name → List ℕ → Type 0
  SizesFrom k names bases = (j : ℕ) → j < length names → slice_index sizes (k + j) ≡ slice_index (sizes_at names bases) j

  next_sizes : (k : ℕ) (n : Name) (names : List Name) (y : ℕ) (bases : List ℕ) → SizesFrom k (n ∷ names) (y ∷ bases) → SizesFrom (suc k) names bases
  next_sizes k n names y bases at j lt =
      let e : k + suc j ≡ suc k + j = omega arith in
      subst (λ x. slice_index sizes x ≡ slice_index (sizes_at names bases) j) e (at (suc j) (omega arith))

  first_size : (k : ℕ) (n : Name) (names : List Name) (y : ℕ) (bases : List ℕ) → SizesFrom k (n ∷ names) (y ∷ bases) → slice_index sizes k ≡ n.multiple * y
  first_size k n names y bases at =
      let e : k + 0 ≡ k = omega arith in
      subst (λ x. slice_index sizes x ≡ n.multiple * y) e (at 0 (omega arith))

  product_value : (k : ℕ) (names : List Name) (bases ms : List ℕ) → AreNames names → Admissible names bases → SizesFrom k names bases → value_or 1 (product_expression k names ms) ≡ pos (product bases ms)
  product_value k [] [] ms are ok at = refl
  product_value k [] (y ∷ bases) ms are ok at = absurd ok
  product_value k (n ∷ names) [] ms are ok at = absurd ok
  product_value k (n ∷ names) (y ∷ bases) [] are ok at = refl
  product_value k (n ∷ names) (y ∷ bases) (m ∷ ms) are ok at =
      repeated_value (base_expression k n.multiple) y m (product_expression (suc k) names ms) (product bases ms)
      (base_value k n.multiple y are.0.positive (first_size k n names y bases at))
      (product_value (suc k) names bases ms are.1 ok.1 (next_sizes k n names y bases at))

  number_value : (c : ℕ) → exact sizes variables (number_expression c) ≡ pos c
  number_value c =
      ⊎_elim
      (λ most. ap (λ (b : Bool). exact sizes variables (if b then Binary Product (Literal 65536) (Literal 65536) else Literal c)) most ∙ ap pos (sym (eqb-true c 4294967296 most)))
      (λ less. ap (λ (b : Bool). exact sizes variables (if b then Binary Product (Literal 65536) (Literal 65536) else Literal c)) less)
      (cases_Bool (c == 4294967296))

  with_value : (c : ℕ) (o : Option Expression) (n : ℕ) → value_or 1 o ≡ pos n → exact sizes variables (with_coefficient c o) ≡ pos (c * n)
  with_value c None n a =
      let one : c * 1 ≡ c * n = ap (λ x. c * x) (same_number 1 n a) in
      let same : c ≡ c * n = omega arith in
      number_value c ∙ ap pos same
  with_value c (Some e) n a =
      ⊎_elim
      (λ one.
      let f = ap (λ x. x * n) (eqb-true c 1 one) in
      let same : n ≡ c * n = omega arith in
      ap (λ (b : Bool). exact sizes variables (if b then e else Binary Product (number_expression c) e)) one ∙ a ∙ ap pos same)
      (λ more.
      ap (λ (b : Bool). exact sizes variables (if b then e else Binary Product (number_expression c) e)) more
      ∙ ap (λ z. z *ℤ exact sizes variables e) (number_value c) ∙ ap (λ z. pos c *ℤ z) a)
      (cases_Bool (c == 1))

  abbrev negative_part : ℤ → ℕ
  negative_part (pos n) = 0
  negative_part (negsuc n) = suc n

  abbrev negatives_at : List ℕ → List Monomial → ℕ
  negatives_at bases [] = 0
  negatives_at bases (m ∷ p) = negative_part m.coefficient * product bases m.powers + negatives_at bases p

  one_more : (c : ℤ) (e : Expression) (rest : Option Expression) (k n : ℕ) → exact sizes variables e ≡ pos (unsigned_abs c * k) → value_or 0 rest ≡ pos n → value_or 0 (if is_negative c then rest else Some (joined Sum e rest)) ≡ pos (positive_part c * k + n)
  one_more (pos x) e rest k n a b = joined_sum e rest (x * k) n a b
  one_more (negsuc x) e rest k n a b = let same : n ≡ 0 * k + n = omega arith in b ∙ ap pos same

  one_less : (c : ℤ) (e : Expression) (rest : Option Expression) (k n : ℕ) → exact sizes variables e ≡ pos (unsigned_abs c * k) → value_or 0 rest ≡ pos n → value_or 0 (if is_negative c then Some (joined Sum e rest) else rest) ≡ pos (negative_part c * k + n)
  one_less (negsuc x) e rest k n a b = joined_sum e rest (suc x * k) n a b
  one_less (pos x) e rest k n a b = let same : n ≡ 0 * k + n = omega arith in b ∙ ap pos same

  both_parts : (c : ℤ) (k a b : ℕ) (z : ℤ) → z ≡ pos a -ℤ pos b → (c *ℤ pos k) +ℤ z ≡ pos (positive_part c * k + a) -ℤ pos (negative_part c * k + b)
  both_parts (pos x) k a b z e = omega (arith, ints)
  both_parts (negsuc x) k a b z e = omega (arith, ints)

  value_parts : (bases : List ℕ) (p : List Monomial) → value_at bases p ≡ pos (positives_at bases p) -ℤ pos (negatives_at bases p)
  value_parts bases [] = refl
  value_parts bases (m ∷ p) = both_parts m.coefficient (product bases m.powers) (positives_at bases p) (negatives_at bases p) (value_at bases p) (value_parts bases p)

  difference_value : (gained lost : Option Expression) → exact sizes variables (difference_of (unwrap_or gained (Literal 0)) lost) ≡ value_or 0 gained -ℤ value_or 0 lost
  difference_value None None = refl
  difference_value None (Some b) = refl
  difference_value (Some a) None = omega (arith, ints)
  difference_value (Some a) (Some b) = refl

  module _ (names : List Name) (bases : List ℕ) (are : AreNames names) (ok : Admissible names bases) (at : SizesFrom 0 names bases) where
    monomial_value : (m : Monomial) → exact sizes variables (monomial_expression names m) ≡ pos (unsigned_abs m.coefficient * product bases m.powers)
    monomial_value m = with_value (unsigned_abs m.coefficient) (product_expression 0 names m.powers) (product bases m.powers) (product_value 0 names bases m.powers are ok at)

    positives_value : (p : List Monomial) → value_or 0 (positive_sum names p) ≡ pos (positives_at bases p)
    positives_value [] = refl
    positives_value (m ∷ p) = one_more m.coefficient (monomial_expression names m) (positive_sum names p) (product bases m.powers) (positives_at bases p) (monomial_value m) (positives_value p)

    negatives_value : (p : List Monomial) → value_or 0 (negative_sum names p) ≡ pos (negatives_at bases p)
    negatives_value [] = refl
    negatives_value (m ∷ p) = one_less m.coefficient (monomial_expression names m) (negative_sum names p) (product bases m.powers) (negatives_at bases p) (monomial_value m) (negatives_value p)

    length_value_from : (p : List Monomial) → exact sizes variables (length_expression names p) ≡ value_at bases p
    length_value_from p =
        difference_value (positive_sum names p) (negative_sum names p)
        ∙ ap (λ z. z -ℤ value_or 0 (negative_sum names p)) (positives_value p)
        ∙ ap (λ z. pos (positives_at bases p) -ℤ z) (negatives_value p)
        ∙ sym (value_parts bases p)

-- ---- what holds of each operation of a length: it is asked of the quotients alone
module _ (P : Operation → Expression → Expression → Type 0) (of_sums : (a b : Expression) → P Sum a b) (of_differences : (a b : Expression) → P Difference a b) (of_products : (a b : Expression) → P Product a b) where
  abbrev OfBases : ℕ → List Name → Type 0
  OfBases k [] = Unit {0}
  OfBases k (n ∷ names) = P Quotient (Size k) (Literal n.multiple) × OfBases (suc k) names

  abbrev OfSome : Option Expression → Type 0
  OfSome None = Unit {0}
  OfSome (Some e) = EachOperation P e

  of_joined_product : (e : Expression) (rest : Option Expression) → EachOperation P e → OfSome rest → EachOperation P (joined Product e rest)
  of_joined_product e None a b = a
  of_joined_product e (Some f) a b = (of_products e f, a, b)

  of_joined_sum : (e : Expression) (rest : Option Expression) → EachOperation P e → OfSome rest → EachOperation P (joined Sum e rest)
  of_joined_sum e None a b = a
  of_joined_sum e (Some f) a b = (of_sums e f, a, b)

  of_repeated : (e : Expression) (m : ℕ) (rest : Option Expression) → EachOperation P e → OfSome rest → OfSome (repeated e m rest)
  of_repeated e zero rest a b = b
  of_repeated e (suc m) rest a b = of_joined_product e (repeated e m rest) a (of_repeated e m rest a b)

  of_base : (k d : ℕ) → P Quotient (Size k) (Literal d) → EachOperation P (base_expression k d)
  of_base k d p = go (d == 1)
    where
      go : (b : Bool) → EachOperation P (if b then Size k else Binary Quotient (Size k) (Literal d))
      go true = tt
      go false = (p, tt, tt)

  of_product : (k : ℕ) (names : List Name) (ms : List ℕ) → OfBases k names → OfSome (product_expression k names ms)
  of_product k [] ms h = tt
  of_product k (n ∷ names) [] h = tt
  of_product k (n ∷ names) (m ∷ ms) h = of_repeated (base_expression k n.multiple) m (product_expression (suc k) names ms) (of_base k n.multiple h.0) (of_product (suc k) names ms h.1)

  of_number : (c : ℕ) → EachOperation P (number_expression c)
  of_number c = go (c == 4294967296)
    where
      go : (b : Bool) → EachOperation P (if b then Binary Product (Literal 65536) (Literal 65536) else Literal c)
      go true = (of_products (Literal 65536) (Literal 65536), tt, tt)
      go false = tt

  of_coefficient : (c : ℕ) (o : Option Expression) → OfSome o → EachOperation P (with_coefficient c o)
  of_coefficient c None h = of_number c
  of_coefficient c (Some e) h = go (c == 1)
    where
      go : (b : Bool) → EachOperation P (if b then e else Binary Product (number_expression c) e)
      go true = h
      go false = (of_products (number_expression c) e, of_number c, h)

  of_chosen : (b : Bool) (one other : Option Expression) → OfSome one → OfSome other → OfSome (if b then one else other)
  of_chosen true one other h k = h
  of_chosen false one other h k = k

  of_positives : (names : List Name) (p : List Monomial) → OfBases 0 names → OfSome (positive_sum names p)
  of_positives names [] h = tt
  of_positives names (m ∷ p) h =
      let rest = of_positives names p h in
      of_chosen (is_negative m.coefficient) (positive_sum names p) (Some (joined Sum (monomial_expression names m) (positive_sum names p))) rest (of_joined_sum (monomial_expression names m) (positive_sum names p) (of_coefficient (unsigned_abs m.coefficient) (product_expression 0 names m.powers) (of_product 0 names m.powers h)) rest)

  of_negatives : (names : List Name) (p : List Monomial) → OfBases 0 names → OfSome (negative_sum names p)
  of_negatives names [] h = tt
  of_negatives names (m ∷ p) h =
      let rest = of_negatives names p h in
      of_chosen (is_negative m.coefficient) (Some (joined Sum (monomial_expression names m) (negative_sum names p))) (negative_sum names p) (of_joined_sum (monomial_expression names m) (negative_sum names p) (of_coefficient (unsigned_abs m.coefficient) (product_expression 0 names m.powers) (of_product 0 names m.powers h)) rest) rest

  of_some : (o : Option Expression) → OfSome o → EachOperation P (unwrap_or o (Literal 0))
  of_some None h = tt
  of_some (Some e) h = h

  of_difference : (e : Expression) (o : Option Expression) → EachOperation P e → OfSome o → EachOperation P (difference_of e o)
  of_difference e None h k = h
  of_difference e (Some f) h k = (of_differences e f, h, k)

  of_length : (names : List Name) (p : List Monomial) → OfBases 0 names → EachOperation P (length_expression names p)
  of_length names p h = of_difference (unwrap_or (positive_sum names p) (Literal 0)) (negative_sum names p) (of_some (positive_sum names p) (of_positives names p h)) (of_negatives names p h)

-- ---- at admissible sizes
from_start : (names : List Name) (bases : List ℕ) (j : ℕ) → j < length names → slice_index (sizes_at names bases) (0 + j) ≡ slice_index (sizes_at names bases) j
from_start names bases j lt = ap (slice_index (sizes_at names bases)) (zero-add j)

pub length_value : (names : List Name) (bases variables : List ℕ) (p : List Monomial) → AreNames names → Admissible names bases → exact (sizes_at names bases) variables (length_expression names p) ≡ value_at bases p
length_value names bases variables p are ok = length_value_from (sizes_at names bases) variables names bases are ok (from_start names bases) p

abbrev AsksWords : (sizes variables : List ℕ) → Operation → Expression → Expression → Type 0
AsksWords sizes variables o a b = WantsWords o → IsWord (exact sizes variables a) × IsWord (exact sizes variables b)

small_word : (n : ℕ) → n ≤ 1048576 → IsWord (pos n)
small_word n le = (omega (arith, ints), omega (arith, ints))

bases_are_words : (sizes variables : List ℕ) (k : ℕ) (names : List Name) (bases : List ℕ) → AreNames names → Admissible names bases → SizesFrom sizes variables k names bases → OfBases (AsksWords sizes variables) (λ a b w. absurd w) (λ a b w. absurd w) (λ a b w. absurd w) k names
bases_are_words sizes variables k [] bases are ok at = tt
bases_are_words sizes variables k (n ∷ names) [] are ok at = absurd ok
bases_are_words sizes variables k (n ∷ names) (y ∷ bases) are ok at =
    let size = first_size sizes variables k n names y bases at in
    let most = ok.0.1 in
    let limit = are.0.limit in
    let divisor = are.0.multiple_limit in (
      λ w. (small_word (slice_index sizes k) (omega arith), small_word n.multiple divisor),
      bases_are_words sizes variables (suc k) names bases are.1 ok.1 (next_sizes sizes variables k n names y bases at),
    )

pub length_is_ranged : (names : List Name) (bases variables : List ℕ) (p : List Monomial) → AreNames names → Admissible names bases → IsWord (value_at bases p) → IsRangedAt (sizes_at names bases) variables (length_expression names p)
length_is_ranged names bases variables p are ok fits = (
  of_length (AsksWords (sizes_at names bases) variables) (λ a b w. absurd w) (λ a b w. absurd w) (λ a b w. absurd w) names p (bases_are_words (sizes_at names bases) variables 0 names bases are ok (from_start names bases)),
  subst IsWord (sym (length_value names bases variables p are ok)) fits,
)

abbrev NotByZero : (sizes variables : List ℕ) → Operation → Expression → Expression → Type 0
NotByZero sizes variables o a b = Divides o → exact sizes variables b ≢ pos 0

bases_divide : (sizes variables : List ℕ) (k : ℕ) (names : List Name) → AreNames names → OfBases (NotByZero sizes variables) (λ a b w. absurd w) (λ a b w. absurd w) (λ a b w. absurd w) k names
bases_divide sizes variables k [] are = tt
bases_divide sizes variables k (n ∷ names) are = (
  (λ w e. let none = same_number n.multiple 0 e in let some = are.0.positive in absurd (omega arith)),
  bases_divide sizes variables (suc k) names are.1,
)

pub length_divides : (names : List Name) (bases variables : List ℕ) (p : List Monomial) → AreNames names → HasNoZeroDivisorAt (sizes_at names bases) variables (length_expression names p)
length_divides names bases variables p are =
    of_length (NotByZero (sizes_at names bases) variables) (λ a b w. absurd w) (λ a b w. absurd w) (λ a b w. absurd w) names p (bases_divide (sizes_at names bases) variables 0 names are)
