-- What spells an index expression of words can be read, as the same expression but for the ranges
-- of its variables.
use Rattle.std.proofs.Common.{◌≡◌, ℕ, zero, suc, ◌+◌, ◌<◌, ◌≤◌, ◌^◌, Bool, true, false, List, Option, Some, None, refl, ap, ◌∙◌, subst, arith}
use Rattle.std.specs.Prelude.{◌&&◌, nat_lt, if◌then◌else◌, option_map}
use Rattle.std.proofs.lemmas.Bool.{ltb-true, lt-ltb, and_parts}
use Rattle.size_arith.specs.declared.names.Name.{Name}
use Rattle.scalar_ops.specs.declared.op.Op.{Op}
use Rattle.scalar_ops.specs.declared.op.Op.TheVariants.{Add, Sub, Mul, Div, Rem, Min, Max}
use Rattle.index_expr.specs.declared.operation.Operation.{Operation}
use Rattle.index_expr.specs.declared.operation.Operation.TheVariants.{Sum, Difference, Product, Quotient, Remainder, Least, Greatest}
use Rattle.index_expr.specs.Expression.{Expression, Variable, Literal, Size, Binary, short_nodes, short_operation, divisor_of, scaled_nodes}
use Rattle.kernel_tree.specs.Code.{Kernel}
use Rattle.kernel_tree.specs.Grammar.{is_operator, names_declared}
use Rattle.kernel_tree.specs.Formula as formula
use Rattle.kernel_tree.specs.Formula.{Formula, Number, LoopVariable, Id, GroupId, LocalId}
use Rattle.length_spelling.specs.Formulas.{index_formula, operator_of}
use Rattle.length_spelling.specs.Turns.{loop_turn}
use Rattle.index_simplify.specs.PlainRanges.{PlainRanges}
use Rattle.index_simplify.specs.Simplified.{is_declared, AreDeclared}
use Rattle.tidy_indices.specs.Reading.{operation_of, on_both, any_turn, reading, IsIndexFormula, IsIndexOperator}
use Rattle.tidy_indices.specs.Places.{ranges_outside}
use Rattle.tidy_printed.specs.Indices.{IsDeclaredIndex}
use Rattle.tidy_printed.proofs.Formulas.{Spelled}

-- a variable may be any word
abbrev unranged : Expression → Expression
unranged (Variable k l g) = Variable k 0 4294967295
unranged (Literal n) = Literal n
unranged (Size k) = Size k
unranged (Binary o a b) = Binary o (unranged a) (unranged b)

chosen : (n : ℕ) (b : Bool) → b ≡ true → (if b then Some (Literal n) else None) ≡ Some (Literal n)
chosen n true e = refl
chosen n false e = absurd (cc e)

same_operation : (o : Operation) → operation_of (operator_of o) ≡ Some o
same_operation Sum = refl
same_operation Difference = refl
same_operation Product = refl
same_operation Quotient = refl
same_operation Remainder = refl
same_operation Least = refl
same_operation Greatest = refl

of_both : (o : Operation) (x y : Option Expression) (a b : Expression) → x ≡ Some a → y ≡ Some b → on_both (operation_of (operator_of o)) x y ≡ Some (Binary o a b)
of_both o x y a b p q = ap (λ z. on_both z x y) (same_operation o) ∙ ap (λ z. on_both (Some o) z y) p ∙ ap (λ z. on_both (Some o) (Some a) z) q

-- its numbers are words
abbrev AreWords : Expression → Type 0
AreWords (Variable v l g) = v < 2 ^ 32
AreWords (Literal n) = n < 2 ^ 32
AreWords (Size k) = Unit {0}
AreWords (Binary o a b) = AreWords a × AreWords b

numbered : (n : ℕ) (b : Bool) → b ≡ true → option_map any_turn (if b then Some n else None) ≡ Some (any_turn n)
numbered n true e = refl
numbered n false e = absurd (cc e)

read_again : (e : Expression) → AreWords e → reading (index_formula e) ≡ Some (unranged e)
read_again (Variable zero l g) h = refl
read_again (Variable (suc zero) l g) h = refl
read_again (Variable (suc (suc zero)) l g) h = refl
read_again (Variable (suc (suc (suc zero))) l g) h = refl
read_again (Variable (suc (suc (suc (suc k)))) l g) h = numbered (loop_turn k) (nat_lt (loop_turn k) (2 ^ 32)) (lt-ltb (loop_turn k) (2 ^ 32) h)
read_again (Literal n) h = chosen n (nat_lt n (2 ^ 32)) (lt-ltb n (2 ^ 32) h)
read_again (Size k) h = refl
read_again (Binary o a b) h = of_both o (reading (index_formula a)) (reading (index_formula b)) (unranged a) (unranged b) (read_again a h.0) (read_again b h.1)

module _ (r : PlainRanges) where
  same_declared : (o : Operation) (a b : Expression) → is_declared r o (unranged a) (unranged b) ≡ is_declared r o a b
  same_declared Quotient (Size k) (Literal d) = refl
  same_declared _ a b = refl

  still_declared : (e : Expression) → AreDeclared r e → AreDeclared r (unranged e)
  still_declared (Variable k l g) h = tt
  still_declared (Literal n) h = tt
  still_declared (Size k) h = tt
  still_declared (Binary o a b) h = (same_declared o a b ∙ h.0, still_declared a h.1, still_declared b h.2)

-- the grammar's numbers are words, in as many loops as nest
has_words : (k : Kernel) (loops : ℕ) → loops ≤ 1024 → (e : Expression) → names_declared k loops (index_formula e) ≡ true → AreWords e
has_words k loops few (Variable zero l g) h = omega arith
has_words k loops few (Variable (suc zero) l g) h = omega arith
has_words k loops few (Variable (suc (suc zero)) l g) h = omega arith
has_words k loops few (Variable (suc (suc (suc zero))) l g) h = omega arith
has_words k loops few (Variable (suc (suc (suc (suc i)))) l g) h = let lt = ltb-true i loops h in omega arith
has_words k loops few (Literal n) h = ltb-true n (2 ^ 32) h
has_words k loops few (Size s) h = tt
has_words k loops few (Binary o a b) h =
    let first = names_declared k loops (index_formula a) in
    let second = names_declared k loops (index_formula b) in
    let parts = and_parts first second (and_parts (is_operator (operator_of o)) (first && second) h).1 in
    (has_words k loops few a parts.0, has_words k loops few b parts.1)

-- it has as many nodes
same_divisor : (e : Expression) → divisor_of (unranged e) ≡ divisor_of e
same_divisor (Binary Quotient (Size k) (Literal d)) = refl
same_divisor (Binary Quotient (Size k) (Variable v l g)) = refl
same_divisor (Binary Quotient (Size k) (Size j)) = refl
same_divisor (Binary Quotient (Size k) (Binary o a b)) = refl
same_divisor _ = refl

same_operation_nodes : (o : Operation) (a b : Expression) (plain : ℕ) → short_operation o (unranged a) (unranged b) plain ≡ short_operation o a b plain
same_operation_nodes Product (Literal c) b plain = ap (λ d. scaled_nodes c d plain) (same_divisor b)
same_operation_nodes Quotient (Size k) (Literal d) plain = refl
same_operation_nodes _ a b plain = refl

same_nodes : (e : Expression) → short_nodes (unranged e) ≡ short_nodes e
same_nodes (Variable k l g) = refl
same_nodes (Literal n) = refl
same_nodes (Size k) = refl
same_nodes (Binary o a b) =
    same_operation_nodes o a b (short_nodes (unranged a) + short_nodes (unranged b) + 1)
    ∙ ap (λ n. short_operation o a b (n + short_nodes (unranged b) + 1)) (same_nodes a) ∙ ap (λ n. short_operation o a b (short_nodes a + n + 1)) (same_nodes b)

pub spelled_read : (names : List Name) (k : Kernel) (loops : ℕ) (most : ℕ) (f : Formula) → loops ≤ 1024 → names_declared k loops f ≡ true → Spelled names most f → IsDeclaredIndex names most f
spelled_read names k loops most f few h s =
    let words = has_words k loops few s.expression (subst (λ x. names_declared k loops x ≡ true) s.spelled h) in
    let same = same_nodes s.expression in
    let short = s.short in
    record { expression = unranged s.expression; spelled = ap reading s.spelled ∙ read_again s.expression words; declared = still_declared (ranges_outside names) s.expression s.declared; short = omega arith }

-- ---- what can be read spells an index expression
index_operator : (op : Op) (o : Operation) → operation_of op ≡ Some o → IsIndexOperator op
index_operator Add o h = tt
index_operator Sub o h = tt
index_operator Mul o h = tt
index_operator Div o h = tt
index_operator Rem o h = tt
index_operator Min o h = tt
index_operator Max o h = tt
index_operator _ o h = absurd (cc h)

index_number : (n : ℕ) (b : Bool) (e : Expression) → nat_lt n (2 ^ 32) ≡ b → (if b then Some (Literal n) else None) ≡ Some e → n < 2 ^ 32
index_number n true e lt h = ltb-true n (2 ^ 32) lt
index_number n false e lt h = absurd (cc h)

index_turn : (n : ℕ) (b : Bool) (e : Expression) → nat_lt n (2 ^ 32) ≡ b → option_map any_turn (if b then Some n else None) ≡ Some e → n < 2 ^ 32
index_turn n true e lt h = ltb-true n (2 ^ 32) lt
index_turn n false e lt h = absurd (cc h)

-- of each part there is something read
index_both : (op : Op) (o : Option Operation) (x y : Option Expression) (e : Expression) (P Q : Type 0) → operation_of op ≡ o → ((a : Expression) → x ≡ Some a → P) → ((b : Expression) → y ≡ Some b → Q) → on_both o x y ≡ Some e → IsIndexOperator op × P × Q
index_both op (Some o) (Some a) (Some b) e P Q same first second h = (index_operator op o same, first a refl, second b refl)
index_both op (Some o) (Some a) None e P Q same first second h = absurd (cc h)
index_both op (Some o) None y e P Q same first second h = absurd (cc h)
index_both op None x y e P Q same first second h = absurd (cc h)

pub read_index : (f : Formula) (e : Expression) → reading f ≡ Some e → IsIndexFormula f
read_index (Number n) e h = index_number n (nat_lt n (2 ^ 32)) e refl h
read_index (LoopVariable k) e h = index_turn (loop_turn k) (nat_lt (loop_turn k) (2 ^ 32)) e refl h
read_index (Id d GroupId) e h = tt
read_index (Id d LocalId) e h = tt
read_index (formula.Size k) e h = tt
read_index (formula.Binary o a b) e h = index_both o (operation_of o) (reading a) (reading b) e (IsIndexFormula a) (IsIndexFormula b) refl (read_index a) (read_index b) h
read_index _ e h = absurd (cc h)
