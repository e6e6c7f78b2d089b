-- A spelled index expression has its value on words.
use Rattle.std.proofs.Common.{◌≡◌, ◌≢◌, ◌∙◌, ℕ, zero, suc, ℤ, pos, ◌<◌, ◌^◌, Bool, true, Some, None, List, [], ◌∷◌, refl, sym, ap, subst, arith}
use Rattle.std.specs.Prelude.{unsigned_abs, if◌then◌else◌, slice_index}
use Rattle.std.proofs.Math.Nat.{mod-eq_of_lt}
use Rattle.std.proofs.lemmas.Bool.{and_parts, ne_eqb}
use Rattle.std.proofs.lemmas.Int.{ints}
use Rattle.scalar_ops.specs.Operators.{apply_op}
use Rattle.size_arith.specs.declared.names.Name.{Name}
use Rattle.size_arith.specs.declared.poly.Monomial.{Monomial}
use Rattle.size_arith.specs.Ranges.{AreNames, Admissible, sizes_at}
use Rattle.size_arith.specs.Polynomial.{value_at}
use Rattle.index_expr.specs.declared.operation.Operation.{Operation}
use Rattle.index_expr.specs.declared.operation.Operation.TheVariants.{Sum, Difference, Product, Quotient, Remainder, Least, Greatest}
use Rattle.index_expr.specs.Expression as index
use Rattle.index_expr.specs.Expression.{Expression}
use Rattle.index_expr.specs.Values.{exact, wrapped, operate_words, Divides, IsWord, IsRangedAt, HasNoZeroDivisorAt, HasNoZeroDivisorInWordsAt}
use Rattle.index_expr.specs.Lengths.{length_expression}
use Rattle.index_expr.specs.Laws.{RangedValuesAreExact, RangedDivisorsStay}
use Rattle.kernel_tree.specs.Formula.{Ids, Vars, no_vars, operate, with_both, value, bound_value, sizes_alone}
use Rattle.kernel_tree.specs.Grammar.{is_constant}
use Rattle.length_spelling.specs.Turns.{turns_of, turn_formula}
use Rattle.length_spelling.specs.Formulas.{in_words, index_formula, operator_of}
use Rattle.length_spelling.specs.Laws.{AreWords, IndicesAreSpelled, LengthsAreSpelled}
use Rattle.length_spelling.proofs.Bounds.{lengths_are_constant}

pub operates : (o : Operation) (x y : ℕ) → (Divides o → y ≢ 0) → operate (operator_of o) x y ≡ Some (operate_words o x y)
operates Sum x y h = refl
operates Difference x y h = refl
operates Product x y h = refl
operates Quotient x y h = ap (λ (b : Bool). if b then None else Some (apply_op (operator_of Quotient) x y)) (ne_eqb y 0 (h tt))
operates Remainder x y h = ap (λ (b : Bool). if b then None else Some (apply_op (operator_of Remainder) x y)) (ne_eqb y 0 (h tt))
operates Least x y h = refl
operates Greatest x y h = refl

-- a turn has its number's value
turn_value : (ids : Ids) (loops : List ℕ) (vars : Vars) (k : ℕ) → value ids loops vars (turn_formula k) ≡ Some (slice_index (turns_of ids loops) k)
turn_value ids loops vars zero = refl
turn_value ids loops vars (suc zero) = refl
turn_value ids loops vars (suc (suc zero)) = refl
turn_value ids loops vars (suc (suc (suc zero))) = refl
turn_value ids loops vars (suc (suc (suc (suc k)))) = refl

module _ (ids : Ids) (loops : List ℕ) (vars : Vars) (sizes_fit : AreWords ids.sizes) (turns_fit : AreWords (turns_of ids loops)) where
  abbrev Turns : List ℕ
  Turns = turns_of ids loops

  spelled : (e : Expression) → HasNoZeroDivisorInWordsAt ids.sizes Turns e → value ids loops vars (index_formula (in_words e)) ≡ Some (wrapped ids.sizes Turns e)
  spelled (index.Variable k l g) h = turn_value ids loops vars k ∙ ap Some (sym (mod-eq_of_lt (turns_fit k)))
  spelled (index.Literal n) h = refl
  spelled (index.Size k) h = ap Some (sym (mod-eq_of_lt (sizes_fit k)))
  spelled (index.Binary o a b) h =
      ap (λ z. with_both (operate (operator_of o)) z (value ids loops vars (index_formula (in_words b)))) (spelled a h.1)
      ∙ ap (λ z. with_both (operate (operator_of o)) (Some (wrapped ids.sizes Turns a)) z) (spelled b h.2)
      ∙ operates o (wrapped ids.sizes Turns a) (wrapped ids.sizes Turns b) h.0

pub indices_are_spelled : IndicesAreSpelled
indices_are_spelled ids loops vars e sizes_fit turns_fit h = spelled ids loops vars sizes_fit turns_fit e h

-- ---- lengths
sizes_fit : (names : List Name) (bases : List ℕ) → AreNames names → Admissible names bases → AreWords (sizes_at names bases)
sizes_fit [] bases are ok k = omega arith
sizes_fit (n ∷ names) [] are ok k = absurd ok
sizes_fit (n ∷ names) (y ∷ bases) are ok zero = let l = are.0.limit in let m = ok.0.1 in omega arith
sizes_fit (n ∷ names) (y ∷ bases) are ok (suc k) = sizes_fit names bases are.1 ok.1 k

-- outside of all loops, where ids are not looked at
abbrev no_turns : List ℕ → List ℕ
no_turns sizes = turns_of (sizes_alone sizes) []

no_turns_fit : (sizes : List ℕ) → AreWords (no_turns sizes)
no_turns_fit sizes zero = omega arith
no_turns_fit sizes (suc zero) = omega arith
no_turns_fit sizes (suc (suc zero)) = omega arith
no_turns_fit sizes (suc (suc (suc zero))) = omega arith
no_turns_fit sizes (suc (suc (suc (suc k)))) = omega arith

is_word : (z : ℤ) (n : ℕ) → z ≡ pos n → n < 2 ^ 32 → IsWord z
is_word z n e lt = (omega (arith, ints), omega (arith, ints))

turn_varies : (k : ℕ) → is_constant (turn_formula k) ≡ true → ⊥
turn_varies zero h = absurd (cc)
turn_varies (suc zero) h = absurd (cc)
turn_varies (suc (suc zero)) h = absurd (cc)
turn_varies (suc (suc (suc zero))) h = absurd (cc)
turn_varies (suc (suc (suc (suc k)))) h = absurd (cc)

-- what has no variables has its value at whatever turns
module _ (ids : Ids) (loops : List ℕ) (vars : Vars) where
  constant_value : (e : Expression) → is_constant (index_formula (in_words e)) ≡ true → value ids loops vars (index_formula (in_words e)) ≡ bound_value ids.sizes (index_formula (in_words e))
  constant_value (index.Variable k l g) h = absurd (turn_varies k h)
  constant_value (index.Literal n) h = refl
  constant_value (index.Size k) h = refl
  constant_value (index.Binary o a b) h =
      ap (λ z. with_both (operate (operator_of o)) z (value ids loops vars (index_formula (in_words b)))) (constant_value a (and_parts (is_constant (index_formula (in_words a))) (is_constant (index_formula (in_words b))) h).0)
      ∙ ap (λ z. with_both (operate (operator_of o)) (bound_value ids.sizes (index_formula (in_words a))) z) (constant_value b (and_parts (is_constant (index_formula (in_words a))) (is_constant (index_formula (in_words b))) h).1)

-- what is known of lengths as index expressions
pub record Exact : Type 0 where
  pub value : (names : List Name) (bases variables : List ℕ) (p : List Monomial) → AreNames names → Admissible names bases → exact (sizes_at names bases) variables (length_expression names p) ≡ value_at bases p
  pub ranged : (names : List Name) (bases variables : List ℕ) (p : List Monomial) → AreNames names → Admissible names bases → IsWord (value_at bases p) → IsRangedAt (sizes_at names bases) variables (length_expression names p)
  pub divisors : (names : List Name) (bases variables : List ℕ) (p : List Monomial) → AreNames names → HasNoZeroDivisorAt (sizes_at names bases) variables (length_expression names p)
  pub words : RangedValuesAreExact
  pub divisors_in_words : RangedDivisorsStay

same_number : (m n : ℕ) → pos m ≡ pos n → m ≡ n
same_number m n e = ap unsigned_abs e

pub lengths_are_spelled : Exact → LengthsAreSpelled
lengths_are_spelled known names bases ids loops vars p n are ok sizes is lt =
    let sized = sizes_at names bases in
    let e = length_expression names p in
    let turns : List ℕ = no_turns ids.sizes in
    let ranged = known.ranged names bases turns p are ok (is_word (value_at bases p) n is lt) in
    let at = known.words sized turns e ranged ∙ known.value names bases turns p are ok ∙ is in
    let divisors = known.divisors_in_words sized turns e ranged (known.divisors names bases turns p are) in
    constant_value ids loops vars e (lengths_are_constant names p)
    ∙ spelled (sizes_alone ids.sizes) [] no_vars (subst AreWords (sym sizes) (sizes_fit names bases are ok)) (no_turns_fit ids.sizes) e (subst (λ s. HasNoZeroDivisorInWordsAt s turns e) (sym sizes) divisors)
    ∙ ap (λ s. Some (wrapped s turns e)) sizes
    ∙ ap Some (same_number (wrapped sized turns e) n at)
