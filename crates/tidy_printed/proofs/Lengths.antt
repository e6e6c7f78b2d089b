-- A spelled length divides sizes by the numbers alone that they are declared multiples of.
use Rattle.std.proofs.Common.{◌≡◌, ℕ, zero, suc, ◌+◌, ◌%◌, ◌^◌, ◌<◌, Bool, true, false, List, [], ◌∷◌, Option, Some, None, refl, ap, ◌∙◌, arith}
use Rattle.std.specs.Prelude.{◌==◌, if◌then◌else◌, map, slice_get, unwrap_or, unsigned_abs}
use Rattle.std.proofs.lemmas.Bool.{eq-eqb}
use Rattle.size_arith.specs.declared.names.Name.{Name}
use Rattle.size_arith.specs.declared.poly.Monomial.{Monomial}
use Rattle.size_arith.specs.Ranges.{AreNames}
use Rattle.index_expr.specs.declared.operation.Operation.TheVariants.{Sum, Product, Quotient}
use Rattle.index_expr.specs.Expression.{Expression, Literal, Size, Binary, short_nodes}
use Rattle.index_expr.specs.Lengths.{base_expression, joined, repeated, product_expression, number_expression, with_coefficient, monomial_expression, is_negative, positive_sum, negative_sum, difference_of, length_expression}
use Rattle.length_spelling.specs.Formulas.{in_words, length_formula, spelled_length}
use Rattle.index_simplify.specs.Tests.{is_known_multiple}
use Rattle.index_simplify.specs.Simplified.{AreDeclared}
use Rattle.tidy_indices.specs.Places.{ranges_outside}
use Rattle.tidy_printed.proofs.Formulas.{Spelled}

module _ (names : List Name) where
  -- as it is spelled
  abbrev Declared : Expression → Type 0
  Declared e = AreDeclared (ranges_outside names) (in_words e)

  abbrev AllDeclared : Option Expression → Type 0
  AllDeclared None = Unit {0}
  AllDeclared (Some e) = Declared e

  either : (b : Bool) (x y : Expression) → Declared x → Declared y → Declared (if b then x else y)
  either true x y p q = p
  either false x y p q = q

  divided : (k d : ℕ) → slice_get (map (λ n. n.multiple) names) k ≡ Some d → d < 2 ^ 32 → Declared (Binary Quotient (Size k) (Literal d))
  divided k d known small =
      let same : d ≡ d % 2 ^ 32 = omega arith in
      (ap (λ x. is_known_multiple x (Literal (d % 2 ^ 32))) known ∙ eq-eqb d (d % 2 ^ 32) same, tt, tt)

  base_declared : (k d : ℕ) → slice_get (map (λ n. n.multiple) names) k ≡ Some d → d < 2 ^ 32 → Declared (base_expression k d)
  base_declared k d known small = either (d == 1) (Size k) (Binary Quotient (Size k) (Literal d)) tt (divided k d known small)

  times : (e : Expression) (rest : Option Expression) → Declared e → AllDeclared rest → Declared (joined Product e rest)
  times e None p q = p
  times e (Some f) p q = (refl, p, q)

  plus : (e : Expression) (rest : Option Expression) → Declared e → AllDeclared rest → Declared (joined Sum e rest)
  plus e None p q = p
  plus e (Some f) p q = (refl, p, q)

  powers : (e : Expression) (n : ℕ) (rest : Option Expression) → Declared e → AllDeclared rest → AllDeclared (repeated e n rest)
  powers e zero rest p q = q
  powers e (suc n) rest p q = times e (repeated e n rest) p (powers e n rest p q)

  -- the names from this number on
  abbrev Stand : ℕ → List Name → Type 0
  Stand k ns = (j : ℕ) → slice_get (map (λ n. n.multiple) names) (k + j) ≡ slice_get (map (λ n. n.multiple) ns) j

  next : (k : ℕ) (n : Name) (ns : List Name) → Stand k (n ∷ ns) → Stand (suc k) ns
  next k n ns stand j = let same : suc k + j ≡ k + suc j = omega arith in ap (λ x. slice_get (map (λ m. m.multiple) names) x) same ∙ stand (suc j)

  base_names : (k : ℕ) (ns : List Name) (ms : List ℕ) → Stand k ns → AreNames ns → AllDeclared (product_expression k ns ms)
  base_names k [] ms stand all = tt
  base_names k (n ∷ ns) [] stand all = tt
  base_names k (n ∷ ns) (m ∷ ms) stand all =
      let limit = all.0.multiple_limit in
      let here : k ≡ k + 0 = omega arith in
      let known = ap (λ x. slice_get (map (λ m. m.multiple) names) x) here ∙ stand 0 in
      powers (base_expression k n.multiple) m (product_expression (suc k) ns ms) (base_declared k n.multiple known (omega arith)) (base_names (suc k) ns ms (next k n ns stand) all.1)

  first : Stand 0 names
  first j = let same : 0 + j ≡ j = omega arith in ap (λ x. slice_get (map (λ n. n.multiple) names) x) same

  number_declared : (c : ℕ) → Declared (number_expression c)
  number_declared c = either (c == 4294967296) (Binary Product (Literal 65536) (Literal 65536)) (Literal c) (refl, tt, tt) tt

  coefficient_declared : (c : ℕ) (e : Option Expression) → AllDeclared e → Declared (with_coefficient c e)
  coefficient_declared c None h = number_declared c
  coefficient_declared c (Some e) h = either (c == 1) e (Binary Product (number_expression c) e) h (refl, number_declared c, h)

  module _ (are : AreNames names) where
    monomial_declared : (m : Monomial) → Declared (monomial_expression names m)
    monomial_declared m = coefficient_declared (unsigned_abs m.coefficient) (product_expression 0 names m.powers) (base_names 0 names m.powers first are)

    choose : (b : Bool) (x y : Option Expression) → AllDeclared x → AllDeclared y → AllDeclared (if b then x else y)
    choose true x y p q = p
    choose false x y p q = q

    positive_declared : (p : List Monomial) → AllDeclared (positive_sum names p)
    positive_declared [] = tt
    positive_declared (m ∷ p) =
        let rest = positive_declared p in
        choose (is_negative m.coefficient) (positive_sum names p) (Some (joined Sum (monomial_expression names m) (positive_sum names p))) rest (plus (monomial_expression names m) (positive_sum names p) (monomial_declared m) rest)

    negative_declared : (p : List Monomial) → AllDeclared (negative_sum names p)
    negative_declared [] = tt
    negative_declared (m ∷ p) =
        let rest = negative_declared p in
        choose (is_negative m.coefficient) (Some (joined Sum (monomial_expression names m) (negative_sum names p))) (negative_sum names p) (plus (monomial_expression names m) (negative_sum names p) (monomial_declared m) rest) rest

    or_zero : (e : Option Expression) → AllDeclared e → Declared (unwrap_or e (Literal 0))
    or_zero None h = tt
    or_zero (Some e) h = h

    without : (e : Expression) (taken : Option Expression) → Declared e → AllDeclared taken → Declared (difference_of e taken)
    without e None p q = p
    without e (Some f) p q = (refl, p, q)

    length_declared : (p : List Monomial) → Declared (length_expression names p)
    length_declared p = without (unwrap_or (positive_sum names p) (Literal 0)) (negative_sum names p) (or_zero (positive_sum names p) (positive_declared p)) (negative_declared p)

    pub lengths_are_spelled : (p : List Monomial) → Spelled names (short_nodes (spelled_length names p)) (length_formula names p)
    lengths_are_spelled p = record { expression = spelled_length names p; spelled = refl; declared = length_declared p; short = omega arith }
