-- A spelled length is of the kernel grammar.
use Rattle.std.proofs.Common.{◌≡◌, ℕ, suc, ◌+◌, ◌^◌, true, List, [], ◌∷◌, length, refl, arith}
use Rattle.std.proofs.Math.Nat.{mod-lt}
use Rattle.std.proofs.lemmas.Bool.{and_from, lt-ltb}
use Rattle.size_arith.specs.declared.names.Name.{Name}
use Rattle.size_arith.specs.declared.poly.Monomial.{Monomial}
use Rattle.size_arith.specs.Polynomial.{degree}
use Rattle.index_expr.specs.declared.operation.Operation.{Operation}
use Rattle.index_expr.specs.declared.operation.Operation.TheVariants.{Sum, Difference, Product, Quotient, Remainder, Least, Greatest}
use Rattle.index_expr.specs.Expression.{Expression, Binary}
use Rattle.index_expr.specs.Lengths.{length_expression}
use Rattle.kernel_tree.specs.Code.{Kernel}
use Rattle.kernel_tree.specs.Grammar.{is_constant, is_operator, names_declared}
use Rattle.length_spelling.specs.Formulas.{in_words, index_formula, length_formula, operator_of}
use Rattle.length_spelling.specs.Laws.{IsBound, LengthsAreBounds, length_height}
use Rattle.length_spelling.proofs.Lengths.{HasCoefficients, HasDivisors, IsKept, of_length}

operators : (o : Operation) → is_operator (operator_of o) ≡ true
operators Sum = refl
operators Difference = refl
operators Product = refl
operators Quotient = refl
operators Remainder = refl
operators Least = refl
operators Greatest = refl

-- whatever the literals
abbrev Any : ℕ → Type 0
Any n = Unit {0}

any_divisors : (names : List Name) → HasDivisors Any names
any_divisors [] = tt
any_divisors (n ∷ names) = (tt, any_divisors names)

any_coefficients : (p : List Monomial) → HasCoefficients Any p
any_coefficients [] = tt
any_coefficients (m ∷ p) = (λ _. tt, any_coefficients p)

module _ (k : Kernel) where
  abbrev Bounds : ℕ → Expression → Type 0
  Bounds h e = IsBound k h (index_formula (in_words e))

  bounds_binary : (h : ℕ) (o : Operation) (a b : Expression) → Bounds h a → Bounds h b → Bounds (suc h) (Binary o a b)
  bounds_binary h o a b p q = record {
    constant = and_from (is_constant (index_formula (in_words a))) (is_constant (index_formula (in_words b))) p.constant q.constant;
    declared = λ loops. and_from (is_operator (operator_of o)) _ (operators o) (and_from (names_declared k loops (index_formula (in_words a))) (names_declared k loops (index_formula (in_words b))) (p.declared loops) (q.declared loops));
    low = (let x = p.low in let y = q.low in omega arith);
  }

  bounds_kept : IsKept k.sizes Any Bounds
  bounds_kept = record {
    size = λ s lt. record { constant = refl; declared = λ loops. lt-ltb s k.sizes lt; low = omega arith };
    literal = λ n _. record { constant = refl; declared = λ loops. lt-ltb _ (2 ^ 32) (mod-lt n (omega arith)); low = omega arith };
    binary = bounds_binary;
    higher = λ h i e le p. record { constant = p.constant; declared = p.declared; low = (let x = p.low in omega arith) };
  }

pub lengths_are_bounds : LengthsAreBounds
lengths_are_bounds names k p e few low =
    (bounds_kept k).higher (suc (3 + degree p + length p)) length_height (length_expression names p) (omega arith)
    (of_length k.sizes Any (Bounds k) tt tt (bounds_kept k) names (omega arith) (any_divisors names) p (any_coefficients p))

-- a length's spelling has no variables
abbrev Constant : ℕ → Expression → Type 0
Constant h e = is_constant (index_formula (in_words e)) ≡ true

constant_kept : (count : ℕ) → IsKept count Any Constant
constant_kept count = record {
  size = λ s lt. refl;
  literal = λ n _. refl;
  binary = λ h o a b p q. and_from (is_constant (index_formula (in_words a))) (is_constant (index_formula (in_words b))) p q;
  higher = λ h i e le p. p;
}

pub lengths_are_constant : (names : List Name) (p : List Monomial) → is_constant (length_formula names p) ≡ true
lengths_are_constant names p = of_length (length names) Any Constant tt tt (constant_kept (length names)) names (omega arith) (any_divisors names) p (any_coefficients p)
