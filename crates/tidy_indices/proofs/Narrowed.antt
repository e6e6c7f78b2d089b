-- An index expression whose variables' ranges end where the turns do is the same in all else.
use Rattle.std.proofs.Common.{◌≡◌, ℕ, ◌≤◌, Bool, true, false, Option, Some, None, List, refl, ap, ◌∙◌}
use Rattle.std.specs.Prelude.{◌+◌, nat_lt, if◌then◌else◌, unwrap_or, slice_get, slice_index}
use Rattle.size_arith.specs.declared.names.Name.{Name}
use Rattle.index_expr.specs.declared.operation.Operation.{Operation}
use Rattle.index_expr.specs.declared.operation.Operation.TheVariants.{Product, Quotient}
use Rattle.index_expr.specs.Expression.{Expression, Variable, Literal, Size, Binary, divisor_of, scaled_nodes, short_operation, short_nodes}
use Rattle.kernel_tree.specs.Formula as formula
use Rattle.length_spelling.specs.Formulas.{index_formula, operator_of}
use Rattle.index_simplify.specs.PlainRanges.{PlainRanges}
use Rattle.index_simplify.specs.Ranges.{AreWithin}
use Rattle.index_simplify.specs.Simplified.{HasWordLiterals, is_declared, AreDeclared}
use Rattle.tidy_indices.specs.Spans.{operated_on, span_of, narrowed}
use Rattle.tidy_indices.proofs.Intervals.{AreUpTo}

module _ (lasts : List ℕ) where
  pub same_spelled : (e : Expression) → index_formula (narrowed lasts e) ≡ index_formula e
  same_spelled (Variable k l g) = refl
  same_spelled (Literal n) = refl
  same_spelled (Size k) = refl
  same_spelled (Binary o a b) =
      ap (λ x. formula.Binary (operator_of o) x (index_formula (narrowed lasts b))) (same_spelled a)
      ∙ ap (formula.Binary (operator_of o) (index_formula a)) (same_spelled b)

  pub same_span : (names : List Name) (e : Expression) → span_of names lasts (narrowed lasts e) ≡ span_of names lasts e
  same_span names (Variable k l g) = refl
  same_span names (Literal n) = refl
  same_span names (Size k) = refl
  same_span names (Binary o a b) =
      ap (λ s. operated_on o s (span_of names lasts (narrowed lasts b))) (same_span names a)
      ∙ ap (operated_on o (span_of names lasts a)) (same_span names b)

  pub same_literals : (e : Expression) → HasWordLiterals e → HasWordLiterals (narrowed lasts e)
  same_literals (Variable k l g) h = h
  same_literals (Literal n) h = h
  same_literals (Size k) h = h
  same_literals (Binary o a b) h = (same_literals a h.0, same_literals b h.1)

  -- ---- the turns are in the narrower ranges
  ends : (k g : ℕ) (turns : List ℕ) → AreUpTo lasts turns → slice_index turns k ≤ g → (last : Option ℕ) → slice_get lasts k ≡ last → slice_index turns k ≤ unwrap_or last g
  ends k g turns up_to le (Some m) at = (up_to k m at).below
  ends k g turns up_to le None at = le

  id_ends : (k g : ℕ) (turns : List ℕ) → AreUpTo lasts turns → slice_index turns k ≤ g → (b : Bool) → slice_index turns k ≤ (if b then unwrap_or (slice_get lasts k) g else g)
  id_ends k g turns up_to le true = ends k g turns up_to le (slice_get lasts k) refl
  id_ends k g turns up_to le false = le

  pub are_within : (turns : List ℕ) → AreUpTo lasts turns → (e : Expression) → AreWithin turns e → AreWithin turns (narrowed lasts e)
  are_within turns up_to (Variable k l g) h = (h.0, id_ends k g turns up_to h.1 (nat_lt k 4))
  are_within turns up_to (Literal n) h = h
  are_within turns up_to (Size k) h = h
  are_within turns up_to (Binary o a b) h = (are_within turns up_to a h.0, are_within turns up_to b h.1)

  -- ---- sizes are divided by as much
  same_divisor : (e : Expression) → divisor_of (narrowed lasts e) ≡ divisor_of e
  same_divisor (Binary Quotient (Size k) (Literal d)) = refl
  same_divisor _ = refl

  same_operation : (o : Operation) (a b : Expression) (n : ℕ) → short_operation o (narrowed lasts a) (narrowed lasts b) n ≡ short_operation o a b n
  same_operation Product (Literal c) b n = ap (λ d. scaled_nodes c d n) (same_divisor b)
  same_operation Quotient (Size k) (Literal d) n = refl
  same_operation _ a b n = refl

  pub same_short : (e : Expression) → short_nodes (narrowed lasts e) ≡ short_nodes e
  same_short (Variable k l g) = refl
  same_short (Literal n) = refl
  same_short (Size k) = refl
  same_short (Binary o a b) =
      same_operation o a b (short_nodes (narrowed lasts a) + short_nodes (narrowed lasts b) + 1)
      ∙ ap (λ n. short_operation o a b (n + short_nodes (narrowed lasts b) + 1)) (same_short a)
      ∙ ap (λ n. short_operation o a b (short_nodes a + n + 1)) (same_short b)

  same_declared : (r : PlainRanges) (o : Operation) (a b : Expression) → is_declared r o a b ≡ true → is_declared r o (narrowed lasts a) (narrowed lasts b) ≡ true
  same_declared r Quotient (Size k) (Literal d) h = h
  same_declared r _ a b h = refl

  pub are_declared : (r : PlainRanges) (e : Expression) → AreDeclared r e → AreDeclared r (narrowed lasts e)
  are_declared r (Variable k l g) h = h
  are_declared r (Literal n) h = h
  are_declared r (Size k) h = h
  are_declared r (Binary o a b) h = (same_declared r o a b h.0, are_declared r a h.1, are_declared r b h.2)
