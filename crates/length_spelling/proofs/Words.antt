-- The expression of a length within the limits has no literal that isn't a word.
use Rattle.std.proofs.Common.{◌≡◌, ◌≢◌, ◌∙◌, ℕ, ◌<◌, ◌≤◌, ◌^◌, true, false, List, [], ◌∷◌, length, refl, sym, ap, arith, eq-eqb}
use Rattle.std.specs.Prelude.{unsigned_abs, ◌==◌}
use Rattle.std.proofs.Math.Nat.{mod-eq_of_lt}
use Rattle.size_arith.specs.declared.names.Name.{Name}
use Rattle.size_arith.specs.declared.poly.Monomial.{Monomial}
use Rattle.size_arith.specs.Ranges.{AreNames}
use Rattle.size_arith.specs.Polynomial.{AllSmall, greatest, IsPoly}
use Rattle.index_expr.specs.Expression.{Binary, Expression, Literal}
use Rattle.index_expr.specs.Lengths.{length_expression}
use Rattle.length_spelling.specs.Formulas.{in_words, spelled_length}
use Rattle.length_spelling.specs.Laws.{LengthsAreOfWords}
use Rattle.length_spelling.proofs.Lengths.{HasCoefficients, HasDivisors, IsKept, of_length}

abbrev Word : ℕ → Type 0
Word n = n < 2 ^ 32

abbrev Same : ℕ → Expression → Type 0
Same h e = in_words e ≡ e

same_kept : (count : ℕ) → IsKept count Word Same
same_kept count = record {
  size = λ s lt. refl;
  literal = λ n lt. ap Literal (mod-eq_of_lt lt);
  binary = λ h o a b p q. ap (λ x. Binary o x (in_words b)) p ∙ ap (λ x. Binary o a x) q;
  higher = λ h i e le p. p;
}

divisors_are_words : (names : List Name) → AreNames names → HasDivisors Word names
divisors_are_words [] are = tt
divisors_are_words (n ∷ names) are = let most = are.0.multiple_limit in (omega (arith, most), divisors_are_words names are.1)

true_is_not_false : true ≢ false
true_is_not_false e = absurd (cc)

below : (c : ℕ) → c ≤ 2 ^ 32 → (c == 4294967296) ≡ false → c < 2 ^ 32
below c le other =
    let differs : c ≢ 4294967296 = λ e. true_is_not_false (sym (eq-eqb c 4294967296 e) ∙ other) in
    omega (arith, le, differs)

coefficients_are_words : (p : List Monomial) → AllSmall (2 ^ 32) p → HasCoefficients Word p
coefficients_are_words [] h = tt
coefficients_are_words (m ∷ p) h = (below (unsigned_abs m.coefficient) h.0, coefficients_are_words p h.1)

pub lengths_are_of_words : LengthsAreOfWords
lengths_are_of_words names p are small =
    of_length (length names) Word Same (omega arith) (omega arith) (same_kept (length names)) names (omega arith) (divisors_are_words names are) p (coefficients_are_words p small)

small_from : (b : ℕ) (p : List Monomial) → greatest p ≤ b → AllSmall b p
small_from b [] h = tt
small_from b (m ∷ p) h = (omega arith, small_from b p (omega arith))

pub polynomials_are_of_words : (names : List Name) (p : List Monomial) → AreNames names → IsPoly p → spelled_length names p ≡ length_expression names p
polynomials_are_of_words names p are poly = lengths_are_of_words names p are (small_from (2 ^ 32) p poly.coefficients)
