-- What holds of sizes, literals and operations holds of lengths, with a height.
use Rattle.std.proofs.Common.{◌≡◌, ℕ, zero, suc, ◌+◌, ◌<◌, ◌≤◌, Bool, true, false, Option, Some, None, List, [], ◌∷◌, length, refl, arith}
use Rattle.std.specs.Prelude.{unsigned_abs, unwrap_or, ◌==◌, if◌then◌else◌}
use Rattle.size_arith.specs.declared.names.Name.{Name}
use Rattle.size_arith.specs.declared.poly.Monomial.{Monomial}
use Rattle.size_arith.specs.Polynomial.{degree, total}
use Rattle.index_expr.specs.declared.operation.Operation.{Operation}
use Rattle.index_expr.specs.declared.operation.Operation.TheVariants.{Sum, Difference, Product, Quotient}
use Rattle.index_expr.specs.Expression.{Expression, Literal, Size, Binary}
use Rattle.index_expr.specs.Lengths.{base_expression, joined, repeated, product_expression, number_expression, with_coefficient, monomial_expression, is_negative, positive_sum, negative_sum, difference_of, length_expression}

-- it holds of expressions of at most such a height, over so many sizes and these literals
pub record IsKept (count : ℕ) (L : ℕ → Type 0) (P : ℕ → Expression → Type 0) : Type 0 where
  pub size : (k : ℕ) → k < count → P 1 (Size k)
  pub literal : (n : ℕ) → L n → P 1 (Literal n)
  pub binary : (h : ℕ) (o : Operation) (a b : Expression) → P h a → P h b → P (suc h) (Binary o a b)
  pub higher : (h i : ℕ) (e : Expression) → h ≤ i → P h e → P i e

-- the literals of lengths over these names, and of these lengths
abbrev pub HasDivisors : (ℕ → Type 0) → List Name → Type 0
HasDivisors L [] = Unit {0}
HasDivisors L (n ∷ names) = L n.multiple × HasDivisors L names

abbrev pub HasCoefficients : (ℕ → Type 0) → List Monomial → Type 0
HasCoefficients L [] = Unit {0}
HasCoefficients L (m ∷ p) = ((unsigned_abs m.coefficient == 4294967296) ≡ false → L (unsigned_abs m.coefficient)) × HasCoefficients L p

module _ (count : ℕ) (L : ℕ → Type 0) (P : ℕ → Expression → Type 0) (none : L 0) (half : L 65536) (kept : IsKept count L P) where
  abbrev OfSome : ℕ → Option Expression → Type 0
  OfSome h None = Unit {0}
  OfSome h (Some e) = P h e

  some_higher : (h i : ℕ) (o : Option Expression) → h ≤ i → OfSome h o → OfSome i o
  some_higher h i None le p = tt
  some_higher h i (Some e) le p = kept.higher h i e le p

  of_joined : (h : ℕ) (o : Operation) (e : Expression) (rest : Option Expression) → P h e → OfSome h rest → P (suc h) (joined o e rest)
  of_joined h o e None p q = kept.higher h (suc h) e (omega arith) p
  of_joined h o e (Some f) p q = kept.binary h o e f p q

  of_base : (k d : ℕ) → k < count → L d → P 2 (base_expression k d)
  of_base k d lt fit = go (d == 1)
    where
      go : (b : Bool) → P 2 (if b then Size k else Binary Quotient (Size k) (Literal d))
      go true = kept.higher 1 2 (Size k) (omega arith) (kept.size k lt)
      go false = kept.binary 1 Quotient (Size k) (Literal d) (kept.size k lt) (kept.literal d fit)

  of_repeated : (e : Expression) (n s : ℕ) (rest : Option Expression) → P 2 e → OfSome (2 + s) rest → OfSome (2 + (n + s)) (repeated e n rest)
  of_repeated e zero s rest p q = some_higher (2 + s) (2 + (0 + s)) rest (omega arith) q
  of_repeated e (suc n) s rest p q =
      kept.higher (suc (2 + (n + s))) (2 + (suc n + s)) (joined Product e (repeated e n rest)) (omega arith)
      (of_joined (2 + (n + s)) Product e (repeated e n rest) (kept.higher 2 (2 + (n + s)) e (omega arith) p) (of_repeated e n s rest p q))

  of_product : (k : ℕ) (names : List Name) (ms : List ℕ) → k + length names ≤ count → HasDivisors L names → OfSome (2 + total ms) (product_expression k names ms)
  of_product k [] ms le fit = tt
  of_product k (n ∷ names) [] le fit = tt
  of_product k (n ∷ names) (m ∷ ms) le fit =
      of_repeated (base_expression k n.multiple) m (total ms) (product_expression (suc k) names ms) (of_base k n.multiple (omega arith) fit.0) (of_product (suc k) names ms (omega arith) fit.1)

  abbrev Fits : ℕ → Type 0
  Fits c = (c == 4294967296) ≡ false → L c

  of_number : (c : ℕ) → Fits c → P 2 (number_expression c)
  of_number c fit = go (c == 4294967296) fit
    where
      go : (b : Bool) → (b ≡ false → L c) → P 2 (if b then Binary Product (Literal 65536) (Literal 65536) else Literal c)
      go true fit = kept.binary 1 Product (Literal 65536) (Literal 65536) (kept.literal 65536 half) (kept.literal 65536 half)
      go false fit = kept.higher 1 2 (Literal c) (omega arith) (kept.literal c (fit refl))

  of_coefficient : (c s : ℕ) (o : Option Expression) → Fits c → OfSome (2 + s) o → P (3 + s) (with_coefficient c o)
  of_coefficient c s None fit p = kept.higher 2 (3 + s) (number_expression c) (omega arith) (of_number c fit)
  of_coefficient c s (Some e) fit p = go (c == 1)
    where
      go : (b : Bool) → P (3 + s) (if b then e else Binary Product (number_expression c) e)
      go true = kept.higher (2 + s) (3 + s) e (omega arith) p
      go false =
          kept.higher (suc (2 + s)) (3 + s) (Binary Product (number_expression c) e) (omega arith)
          (kept.binary (2 + s) Product (number_expression c) e (kept.higher 2 (2 + s) (number_expression c) (omega arith) (of_number c fit)) p)

  of_chosen : (h : ℕ) (b : Bool) (one other : Option Expression) → OfSome h one → OfSome h other → OfSome h (if b then one else other)
  of_chosen h true one other p q = p
  of_chosen h false one other p q = q

  module _ (names : List Name) (fit : length names ≤ count) (divisors : HasDivisors L names) where
    of_monomial : (m : Monomial) → Fits (unsigned_abs m.coefficient) → P (3 + total m.powers) (monomial_expression names m)
    of_monomial m coefficient = of_coefficient (unsigned_abs m.coefficient) (total m.powers) (product_expression 0 names m.powers) coefficient (of_product 0 names m.powers (omega arith) divisors)

    -- a monomial before the sum of the rest
    of_sum : (m : Monomial) (p : List Monomial) (rest : Option Expression) → Fits (unsigned_abs m.coefficient) → OfSome (3 + degree p + length p) rest → P (3 + degree (m ∷ p) + length (m ∷ p)) (joined Sum (monomial_expression names m) rest)
    of_sum m p rest coefficient q =
        let h = 3 + degree (m ∷ p) + length p in
        kept.higher (suc h) (3 + degree (m ∷ p) + length (m ∷ p)) (joined Sum (monomial_expression names m) rest) (omega arith)
        (of_joined h Sum (monomial_expression names m) rest
        (kept.higher (3 + total m.powers) h (monomial_expression names m) (omega arith) (of_monomial m coefficient))
        (some_higher (3 + degree p + length p) h rest (omega arith) q))

    of_rest : (m : Monomial) (p : List Monomial) (rest : Option Expression) → OfSome (3 + degree p + length p) rest → OfSome (3 + degree (m ∷ p) + length (m ∷ p)) rest
    of_rest m p rest q = some_higher (3 + degree p + length p) (3 + degree (m ∷ p) + length (m ∷ p)) rest (omega arith) q

    of_positives : (p : List Monomial) → HasCoefficients L p → OfSome (3 + degree p + length p) (positive_sum names p)
    of_positives [] h = tt
    of_positives (m ∷ p) h =
        let q = of_positives p h.1 in
        of_chosen (3 + degree (m ∷ p) + length (m ∷ p)) (is_negative m.coefficient) (positive_sum names p) (Some (joined Sum (monomial_expression names m) (positive_sum names p)))
        (of_rest m p (positive_sum names p) q) (of_sum m p (positive_sum names p) h.0 q)

    of_negatives : (p : List Monomial) → HasCoefficients L p → OfSome (3 + degree p + length p) (negative_sum names p)
    of_negatives [] h = tt
    of_negatives (m ∷ p) h =
        let q = of_negatives p h.1 in
        of_chosen (3 + degree (m ∷ p) + length (m ∷ p)) (is_negative m.coefficient) (Some (joined Sum (monomial_expression names m) (negative_sum names p))) (negative_sum names p)
        (of_sum m p (negative_sum names p) h.0 q) (of_rest m p (negative_sum names p) q)

    of_some : (h : ℕ) (o : Option Expression) → 1 ≤ h → OfSome h o → P h (unwrap_or o (Literal 0))
    of_some h None le p = kept.higher 1 h (Literal 0) le (kept.literal 0 none)
    of_some h (Some e) le p = p

    of_difference : (h : ℕ) (e : Expression) (o : Option Expression) → P h e → OfSome h o → P (suc h) (difference_of e o)
    of_difference h e None p q = kept.higher h (suc h) e (omega arith) p
    of_difference h e (Some f) p q = kept.binary h Difference e f p q

    pub of_length : (p : List Monomial) → HasCoefficients L p → P (suc (3 + degree p + length p)) (length_expression names p)
    of_length p coefficients =
        let h = 3 + degree p + length p in
        of_difference h (unwrap_or (positive_sum names p) (Literal 0)) (negative_sum names p) (of_some h (positive_sum names p) (omega arith) (of_positives p coefficients)) (of_negatives p coefficients)
