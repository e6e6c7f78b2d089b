-- What a view says is what the printed form's says.
use Rattle.std.proofs.Common.{◌≡◌, ℕ, zero, suc, ◌+◌, ◌<◌, Bool, true, false, List, [], ◌∷◌, Some, refl, ap, ap₂, ◌∙◌, arith, eq-eqb}
use Rattle.std.proofs.lemmas.Bool.{eqb-true, ne_eqb}
use Rattle.std.specs.Prelude.{◌&&◌, ◌==◌, if◌then◌else◌, map}
use Rattle.lift_ir.specs.Types.{Shape, Scalar, PairOf, ArrayOf, component}
use Rattle.lift_ir.specs.Layouts.{Layout, Split, Join, Transpose, Reverse, Slide, Pad}
use Rattle.kernel_tree.specs.Formula.{Formula}
use Rattle.kernel_tree.specs.Formula as formula
use Rattle.scalar_ops.specs.declared.op.Op.{Op}
use Rattle.scalar_ops.specs.declared.op.Op.TheVariants.{Add, Mul, Div}
use Rattle.printed_form.specs.Views as printed
use Rattle.printed_form.specs.Views.{Read, same_operator, same_formula, index_from, index_in, operand_indices, result_indices, row_sign, view_of_rows}
use Rattle.index_expr.specs.declared.operation.Operation.{Operation}
use Rattle.index_expr.specs.declared.operation.Operation.TheVariants.{Sum, Difference, Product, Quotient, Remainder, Least, Greatest}
use Rattle.index_expr.specs.Expression.{Expression, Variable, Literal, Size, Binary}
use Rattle.index_simplify.specs.Laws.{first_part}
use Rattle.index_simplify.specs.Tests.{same_operation, same}
use Rattle.length_spelling.specs.Turns.{turn_formula}
use Rattle.length_spelling.specs.Formulas.{operator_of, index_formula}
use Rattle.array_views.specs.Arrays.{array_with}
use Rattle.array_views.specs.Layouts.{are_parts, asked_row, cell_in_rows, expressions, gathered, row_number, to_operand, to_result}
use Rattle.array_views.proofs.Layouts.{AllBy, AreAlike, formulas, operand_alike, operand_printed, result_alike, result_printed}
use Rattle.array_views.specs.Views as view
use Rattle.array_views.specs.Views.{PlainView, view_of}
use Rattle.array_views.specs.Accesses as access
use Rattle.array_views.specs.Accesses.{PlainAccess, in_rows, sign_of, row_major, row_major_from, access_at}

from_formula : (i : Expression) (t : Shape Expression) (is : List Expression) → index_formula (row_major_from i t is) ≡ index_from index_formula (index_formula i) t (map index_formula is)
from_formula i Scalar is = refl
from_formula i (PairOf a b) is = refl
from_formula i (ArrayOf n t) [] = refl
from_formula i (ArrayOf n t) (j ∷ is) = from_formula (Binary Sum (Binary Product i n) j) t is

index_is : (t : Shape Expression) (is : List Expression) → index_formula (row_major t is) ≡ index_in index_formula t (map index_formula is)
index_is Scalar is = refl
index_is (PairOf a b) is = refl
index_is (ArrayOf n t) [] = refl
index_is (ArrayOf n t) (i ∷ is) = from_formula i t is

-- ---- expressions are the same where their formulas are
operation_is : (o p : Operation) → same_operation o p ≡ same_operator (operator_of o) (operator_of p)
operation_is Sum Sum = refl
operation_is Difference Difference = refl
operation_is Product Product = refl
operation_is Quotient Quotient = refl
operation_is Remainder Remainder = refl
operation_is Least Least = refl
operation_is Greatest Greatest = refl
operation_is _ _ = refl

all_three : (a b c x y z : Bool) → a ≡ x → b ≡ y → c ≡ z → (a && b && c) ≡ (x && y && z)
all_three a b c x y z p q r = ap (λ u. u && b && c) p ∙ ap (λ u. x && u && c) q ∙ ap (λ u. x && y && u) r

-- ---- what spells a turn
next_same : (k j : ℕ) → (suc (suc (suc (suc k))) == suc (suc (suc (suc j)))) ≡ (k == j)
next_same k j = go (k == j) refl
  where
    go : (b : Bool) → (k == j) ≡ b → (suc (suc (suc (suc k))) == suc (suc (suc (suc j)))) ≡ b
    go true e = eq-eqb (suc (suc (suc (suc k)))) (suc (suc (suc (suc j)))) (ap (λ x. suc (suc (suc (suc x)))) (eqb-true k j e))
    go false e = ne_eqb (suc (suc (suc (suc k)))) (suc (suc (suc (suc j)))) (λ h. let same : k ≡ j = omega arith in let t : (k == j) ≡ true = eq-eqb k j same in absurd (cc (t, e)))

-- an id's turn is no loop's
before_loops : (i k : ℕ) → i < 4 → ((i == suc (suc (suc (suc k)))) ≡ false) × ((suc (suc (suc (suc k))) == i) ≡ false)
before_loops i k lt = (ne_eqb i (suc (suc (suc (suc k)))) (λ h. absurd (omega arith)), ne_eqb (suc (suc (suc (suc k)))) i (λ h. absurd (omega arith)))

same_turns : (k j : ℕ) → (k == j) ≡ same_formula (turn_formula k) (turn_formula j)
same_turns zero zero = refl
same_turns zero (suc zero) = refl
same_turns zero (suc (suc zero)) = refl
same_turns zero (suc (suc (suc zero))) = refl
same_turns (suc zero) zero = refl
same_turns (suc zero) (suc zero) = refl
same_turns (suc zero) (suc (suc zero)) = refl
same_turns (suc zero) (suc (suc (suc zero))) = refl
same_turns (suc (suc zero)) zero = refl
same_turns (suc (suc zero)) (suc zero) = refl
same_turns (suc (suc zero)) (suc (suc zero)) = refl
same_turns (suc (suc zero)) (suc (suc (suc zero))) = refl
same_turns (suc (suc (suc zero))) zero = refl
same_turns (suc (suc (suc zero))) (suc zero) = refl
same_turns (suc (suc (suc zero))) (suc (suc zero)) = refl
same_turns (suc (suc (suc zero))) (suc (suc (suc zero))) = refl
same_turns zero (suc (suc (suc (suc j)))) = (before_loops 0 j (omega arith)).0
same_turns (suc zero) (suc (suc (suc (suc j)))) = (before_loops 1 j (omega arith)).0
same_turns (suc (suc zero)) (suc (suc (suc (suc j)))) = (before_loops 2 j (omega arith)).0
same_turns (suc (suc (suc zero))) (suc (suc (suc (suc j)))) = (before_loops 3 j (omega arith)).0
same_turns (suc (suc (suc (suc k)))) zero = (before_loops 0 k (omega arith)).1
same_turns (suc (suc (suc (suc k)))) (suc zero) = (before_loops 1 k (omega arith)).1
same_turns (suc (suc (suc (suc k)))) (suc (suc zero)) = (before_loops 2 k (omega arith)).1
same_turns (suc (suc (suc (suc k)))) (suc (suc (suc zero))) = (before_loops 3 k (omega arith)).1
same_turns (suc (suc (suc (suc k)))) (suc (suc (suc (suc j)))) = next_same k j

number_is_no_turn : (k n : ℕ) → (false ≡ same_formula (turn_formula k) (formula.Number n)) × (false ≡ same_formula (formula.Number n) (turn_formula k))
number_is_no_turn zero n = (refl, refl)
number_is_no_turn (suc zero) n = (refl, refl)
number_is_no_turn (suc (suc zero)) n = (refl, refl)
number_is_no_turn (suc (suc (suc zero))) n = (refl, refl)
number_is_no_turn (suc (suc (suc (suc k)))) n = (refl, refl)

size_is_no_turn : (k s : ℕ) → (false ≡ same_formula (turn_formula k) (formula.Size s)) × (false ≡ same_formula (formula.Size s) (turn_formula k))
size_is_no_turn zero s = (refl, refl)
size_is_no_turn (suc zero) s = (refl, refl)
size_is_no_turn (suc (suc zero)) s = (refl, refl)
size_is_no_turn (suc (suc (suc zero))) s = (refl, refl)
size_is_no_turn (suc (suc (suc (suc k)))) s = (refl, refl)

operation_is_no_turn : (k : ℕ) (o : Op) (f g : Formula) → (false ≡ same_formula (turn_formula k) (formula.Binary o f g)) × (false ≡ same_formula (formula.Binary o f g) (turn_formula k))
operation_is_no_turn zero o f g = (refl, refl)
operation_is_no_turn (suc zero) o f g = (refl, refl)
operation_is_no_turn (suc (suc zero)) o f g = (refl, refl)
operation_is_no_turn (suc (suc (suc zero))) o f g = (refl, refl)
operation_is_no_turn (suc (suc (suc (suc k)))) o f g = (refl, refl)

no_row : (k : ℕ) (m j : Formula) → false ≡ printed.are_parts (turn_formula k) m j
no_row zero m j = refl
no_row (suc zero) m j = refl
no_row (suc (suc zero)) m j = refl
no_row (suc (suc (suc zero))) m j = refl
no_row (suc (suc (suc (suc k)))) m j = refl

no_column : (e n m : Formula) (k : ℕ) → false ≡ printed.are_parts (formula.Binary Div e n) m (turn_formula k)
no_column e n m zero = refl
no_column e n m (suc zero) = refl
no_column e n m (suc (suc zero)) = refl
no_column e n m (suc (suc (suc zero))) = refl
no_column e n m (suc (suc (suc (suc k)))) = refl

turn_undivided : (k : ℕ) → turn_formula k ≡ printed.dividend (turn_formula k)
turn_undivided zero = refl
turn_undivided (suc zero) = refl
turn_undivided (suc (suc zero)) = refl
turn_undivided (suc (suc (suc zero))) = refl
turn_undivided (suc (suc (suc (suc k)))) = refl

same_is : (a b : Expression) → same a b ≡ same_formula (index_formula a) (index_formula b)
same_is (Variable k l g) (Variable j m h) = same_turns k j
same_is (Variable k l g) (Literal n) = (number_is_no_turn k n).0
same_is (Variable k l g) (Size s) = (size_is_no_turn k s).0
same_is (Variable k l g) (Binary o a b) = (operation_is_no_turn k (operator_of o) (index_formula a) (index_formula b)).0
same_is (Literal n) (Variable k l g) = (number_is_no_turn k n).1
same_is (Literal n) (Literal m) = refl
same_is (Size s) (Variable k l g) = (size_is_no_turn k s).1
same_is (Size k) (Size j) = refl
same_is (Binary o a b) (Variable k l g) = (operation_is_no_turn k (operator_of o) (index_formula a) (index_formula b)).1
same_is (Binary o a b) (Binary p c d) =
    all_three (same_operation o p) (same a c) (same b d) (same_operator (operator_of o) (operator_of p)) (same_formula (index_formula a) (index_formula c)) (same_formula (index_formula b) (index_formula d))
    (operation_is o p) (same_is a c) (same_is b d)
same_is _ _ = refl

parts_are : (i m j : Expression) → are_parts i m j ≡ printed.are_parts (index_formula i) (index_formula m) (index_formula j)
parts_are (Binary Quotient e n) m (Binary Remainder f k) =
    all_three (same e f) (same n m) (same k m) (same_formula (index_formula e) (index_formula f)) (same_formula (index_formula n) (index_formula m)) (same_formula (index_formula k) (index_formula m))
    (same_is e f) (same_is n m) (same_is k m)
parts_are (Variable k l g) m j = no_row k (index_formula m) (index_formula j)
parts_are (Binary Quotient e n) m (Variable k l g) = no_column (index_formula e) (index_formula n) (index_formula m) k
parts_are _ _ _ = refl

dividend_is : (e : Expression) → index_formula (first_part e) ≡ printed.dividend (index_formula e)
dividend_is (Variable k l g) = turn_undivided k
dividend_is (Literal n) = refl
dividend_is (Size k) = refl
dividend_is (Binary o a b) = refl

cell_is : (i m j : Expression) → index_formula (cell_in_rows i m j) ≡ printed.cell_in_rows (index_formula i) (index_formula m) (index_formula j)
cell_is i m j = chosen (are_parts i m j) ∙ ap (λ b. if b then printed.dividend (index_formula i) else plain) (parts_are i m j)
  where
    plain : Formula
    plain = formula.Binary Add (formula.Binary Mul (index_formula i) (index_formula m)) (index_formula j)

    chosen : (b : Bool) → index_formula (if b then first_part i else Binary Sum (Binary Product i m) j) ≡ (if b then printed.dividend (index_formula i) else plain)
    chosen true = dividend_is i
    chosen false = refl

-- ---- through layouts
abbrev IsFormulaOf : Expression → Formula → Type 0
IsFormulaOf e f = index_formula e ≡ f

as_formulas : AreAlike expressions formulas IsFormulaOf
as_formulas = record {
  number = λ n. refl;
  operation = λ o a b f g x y. ap₂ (formula.Binary (operator_of o)) x y;
  cell = λ i m j f l g x y z. cell_is i m j ∙ ap (λ k. printed.cell_in_rows k (index_formula m) (index_formula j)) x ∙ ap₂ (printed.cell_in_rows f) y z;
}

their_formulas : (is : List Expression) → AllBy IsFormulaOf is (map index_formula is)
their_formulas [] = tt
their_formulas (i ∷ is) = (refl, their_formulas is)

mapped : (is : List Expression) (fs : List Formula) → AllBy IsFormulaOf is fs → map index_formula is ≡ fs
mapped [] [] h = refl
mapped (i ∷ is) (f ∷ fs) h = ap₂ (λ x xs. x ∷ xs) h.0 (mapped is fs h.1)
mapped _ _ h = absurd (assumption)

operand_is : (y : Layout Expression) (is : List Expression) → map index_formula (to_operand y is) ≡ operand_indices index_formula y (map index_formula is)
operand_is y is = mapped _ _ (operand_alike expressions formulas IsFormulaOf as_formulas (λ m. m) index_formula (λ m. refl) y is (map index_formula is) (their_formulas is)) ∙ operand_printed index_formula y (map index_formula is)

result_is : (y : Layout Expression) (is : List Expression) → map index_formula (to_result y is) ≡ result_indices index_formula y (map index_formula is)
result_is y is = mapped _ _ (result_alike expressions formulas IsFormulaOf as_formulas (λ m. m) index_formula (λ m. refl) y is (map index_formula is) (their_formulas is)) ∙ result_printed index_formula y (map index_formula is)

-- ---- rows that are asked for whole
row_is : (i m f : Expression) → index_formula (row_number (record { index = i; length = m }) f) ≡ printed.row_number (index_formula i) (index_formula m) (index_formula f)
row_is i m f = chosen (same f begin) ∙ ap (λ b. if b then index_formula i else formula.Binary Div (index_formula f) (index_formula m)) (same_is f begin)
  where
    begin : Expression
    begin = Binary Sum (Binary Product i m) (Literal 0)

    chosen : (b : Bool) → index_formula (if b then i else Binary Quotient f m) ≡ (if b then index_formula i else formula.Binary Div (index_formula f) (index_formula m))
    chosen true = refl
    chosen false = refl

row_sign_is : (i m : Expression) (a : PlainAccess) → sign_of (in_rows (Some (record { index = i; length = m })) a) ≡ row_sign (index_formula i) (index_formula m) (sign_of a)
row_sign_is i m access.Nothing = refl
row_sign_is i m (access.Variable n) = refl
row_sign_is i m (access.Vector n) = refl
row_sign_is i m (access.InCell a f) = ap (Read a) (row_is i m f)

gathered_is : (m : Expression) (x : PlainView) (cs : List Bool) → ((is : List Expression) → sign_of (access_at x cs is) ≡ view_of x cs (map index_formula is)) → (is : List Expression) → sign_of (in_rows (asked_row m is) (access_at x cs (gathered m is))) ≡ view_of_rows (index_formula m) (view_of x) cs (map index_formula is)
gathered_is m x cs h [] = h []
gathered_is m x cs h (i ∷ []) =
    row_sign_is i m (access_at x cs (cell_in_rows i m (Literal 0) ∷ [])) ∙ ap (row_sign (index_formula i) (index_formula m)) (h (cell_in_rows i m (Literal 0) ∷ []) ∙ ap (λ f. view_of x cs (f ∷ [])) (cell_is i m (Literal 0)))
gathered_is m x cs h (i ∷ j ∷ is) = h (cell_in_rows i m j ∷ is) ∙ ap (λ f. view_of x cs (f ∷ map index_formula is)) (cell_is i m j)

pub sign_is : (v : PlainView) (cs : List Bool) (is : List Expression) → sign_of (access_at v cs is) ≡ view_of v cs (map index_formula is)
sign_is view.Nothing cs is = refl
sign_is (view.Variable n) cs is = refl
sign_is (view.Vector n) cs is = refl
sign_is (view.Placed k n t) cs is = ap (Read (array_with k (n + component t cs))) (index_is t is)
sign_is (view.Both x y) [] is = refl
sign_is (view.Both x y) (false ∷ cs) is = sign_is x cs is
sign_is (view.Both x y) (true ∷ cs) is = sign_is y cs is
sign_is (view.Component s x) cs is = sign_is x (s ∷ cs) is
sign_is (view.At i x) cs is = sign_is x cs (i ∷ is)
sign_is (view.Reading (Split m) x) cs is = gathered_is m x cs (sign_is x cs) is
sign_is (view.Reading (Join m) x) cs is = sign_is x cs (to_operand (Join m) is) ∙ ap (view_of x cs) (operand_is (Join m) is)
sign_is (view.Reading Transpose x) cs is = sign_is x cs (to_operand Transpose is) ∙ ap (view_of x cs) (operand_is Transpose is)
sign_is (view.Reading (Reverse n) x) cs is = sign_is x cs (to_operand (Reverse n) is) ∙ ap (view_of x cs) (operand_is (Reverse n) is)
sign_is (view.Reading (Slide s t) x) cs is = sign_is x cs (to_operand (Slide s t) is) ∙ ap (view_of x cs) (operand_is (Slide s t) is)
sign_is (view.Reading (Pad l r n) x) cs is = sign_is x cs (to_operand (Pad l r n) is) ∙ ap (view_of x cs) (operand_is (Pad l r n) is)
sign_is (view.Writing (Split m) x) cs is = sign_is x cs (to_result (Split m) is) ∙ ap (view_of x cs) (result_is (Split m) is)
sign_is (view.Writing (Join m) x) cs is = gathered_is m x cs (sign_is x cs) is
sign_is (view.Writing Transpose x) cs is = sign_is x cs (to_result Transpose is) ∙ ap (view_of x cs) (result_is Transpose is)
sign_is (view.Writing (Reverse n) x) cs is = sign_is x cs (to_result (Reverse n) is) ∙ ap (view_of x cs) (result_is (Reverse n) is)
sign_is (view.Writing (Slide s t) x) cs is = sign_is x cs (to_result (Slide s t) is) ∙ ap (view_of x cs) (result_is (Slide s t) is)
sign_is (view.Writing (Pad l r n) x) cs is = sign_is x cs (to_result (Pad l r n) is) ∙ ap (view_of x cs) (result_is (Pad l r n) is)
