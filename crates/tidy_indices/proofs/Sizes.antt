-- A simplified expression's spelling is of the kernel grammar where the expression's is, and no
-- larger.
use Rattle.std.proofs.Common.{◌≡◌, ℕ, ◌^◌, Bool, true, false, refl, sym, ◌∙◌, arith}
use Rattle.std.specs.Prelude.{nat_lt}
use Rattle.std.proofs.lemmas.Bool.{and_from, and_parts, ltb-true, lt-ltb}
use Rattle.index_expr.specs.declared.operation.Operation.{Operation}
use Rattle.index_expr.specs.declared.operation.Operation.TheVariants.{Sum, Difference, Product, Quotient, Remainder, Least, Greatest}
use Rattle.index_expr.specs.Expression.{Expression, Variable, Literal, Size, Binary, nodes}
use Rattle.kernel_tree.specs.Code.{Kernel}
use Rattle.kernel_tree.specs.Grammar as grammar
use Rattle.kernel_tree.specs.Grammar.{is_constant, is_operator, names_declared}
use Rattle.length_spelling.specs.Turns.{turn_formula}
use Rattle.length_spelling.specs.Formulas.{index_formula, operator_of}
use Rattle.index_simplify.specs.Operations.{simple}
use Rattle.index_simplify.specs.Simplified.{height, names_are, HasWordLiterals}
use Rattle.index_simplify.specs.Promises.{ExpressionsAreSimplified}
use Rattle.tidy_indices.specs.Formulas.{formula_nodes}
use Rattle.tidy_indices.specs.Spelling.{SimpleFormulasAreNoLarger}
use Rattle.tidy_indices.proofs.Spelled.{turn_nodes, turn_height, turn_varies}

pub same_nodes : (e : Expression) → formula_nodes (index_formula e) ≡ nodes e
same_nodes (Variable k l g) = turn_nodes k
same_nodes (Literal n) = refl
same_nodes (Size k) = refl
same_nodes (Binary o a b) = let x = same_nodes a in let y = same_nodes b in omega arith

same_height : (e : Expression) → grammar.height (index_formula e) ≡ height e
same_height (Variable k l g) = turn_height k
same_height (Literal n) = refl
same_height (Size k) = refl
same_height (Binary o a b) = let x = same_height a in let y = same_height b in omega arith

same_constant : (e : Expression) → is_constant (index_formula e) ≡ names_are (λ k. false) (λ k. true) e
same_constant (Variable k l g) = turn_varies k
same_constant (Literal n) = refl
same_constant (Size k) = refl
same_constant (Binary o a b) = let x = same_constant a in let y = same_constant b in cc

operators : (o : Operation) → is_operator (operator_of o) ≡ true
operators Sum = refl
operators Difference = refl
operators Product = refl
operators Quotient = refl
operators Remainder = refl
operators Least = refl
operators Greatest = refl

module _ (k : Kernel) (loops : ℕ) where
  abbrev AreNames : Expression → Bool
  AreNames e = names_are (λ i. names_declared k loops (turn_formula i)) (λ s. nat_lt s k.sizes) e

  names_of : (e : Expression) → names_declared k loops (index_formula e) ≡ true → (AreNames e ≡ true) × HasWordLiterals e
  names_of (Variable i l g) h = (h, tt)
  names_of (Literal n) h = (refl, ltb-true n (2 ^ 32) h)
  names_of (Size s) h = (h, tt)
  names_of (Binary o a b) h =
      let parts = and_parts (is_operator (operator_of o)) _ h in
      let args = and_parts (names_declared k loops (index_formula a)) (names_declared k loops (index_formula b)) parts.1 in
      let x = names_of a args.0 in
      let y = names_of b args.1 in
      (and_from (AreNames a) (AreNames b) x.0 y.0, (x.1, y.1))

  names_back : (e : Expression) → AreNames e ≡ true → HasWordLiterals e → names_declared k loops (index_formula e) ≡ true
  names_back (Variable i l g) h w = h
  names_back (Literal n) h w = lt-ltb n (2 ^ 32) w
  names_back (Size s) h w = h
  names_back (Binary o a b) h w =
      let parts = and_parts (AreNames a) (AreNames b) h in
      and_from (is_operator (operator_of o)) _ (operators o) (and_from (names_declared k loops (index_formula a)) (names_declared k loops (index_formula b)) (names_back a parts.0 w.0) (names_back b parts.1 w.1))

pub are_no_larger : ExpressionsAreSimplified → SimpleFormulasAreNoLarger
are_no_larger simplified r e =
    let made = simplified r e in
    record {
      declared = λ k loops h. let names = names_of k loops e h in names_back k loops (simple r e) (made.small.names (λ i. names_declared k loops (turn_formula i)) (λ s. nat_lt s k.sizes) names.0) (made.literals names.1);
      constant = λ h. same_constant (simple r e) ∙ made.small.names (λ i. false) (λ s. true) (sym (same_constant e) ∙ h);
      low = (let x = same_height e in let y = same_height (simple r e) in let z = made.small.height in omega arith);
      nodes = (let x = same_nodes e in let y = same_nodes (simple r e) in let z = made.small.nodes in omega arith);
    }
