-- Where an expression is spelled in a redundant shape, it has that shape itself.
use Rattle.std.proofs.Common.{◌≡◌, ℕ, refl, sym, ap, ◌∙◌, subst}
use Rattle.scalar_ops.specs.declared.op.Op.{Op}
use Rattle.scalar_ops.specs.declared.op.Op.TheVariants.{Add, Sub, Mul, Min, Max, Div, Rem}
use Rattle.index_expr.specs.declared.operation.Operation.{Operation}
use Rattle.index_expr.specs.declared.operation.Operation.TheVariants.{Sum, Difference, Product, Quotient, Remainder, Least, Greatest}
use Rattle.index_expr.specs.Expression.{Expression, Variable, Literal, Size, Binary}
use Rattle.kernel_tree.specs.Formula as formula
use Rattle.kernel_tree.specs.Formula.{Formula}
use Rattle.length_spelling.specs.Turns.{turn_formula}
use Rattle.length_spelling.specs.Formulas.{index_formula, operator_of}
use Rattle.index_simplify.specs.Operations.{simple}
use Rattle.index_simplify.specs.Shapes as shape
use Rattle.index_simplify.specs.Shapes.{EachNode, IsPlain}
use Rattle.index_simplify.specs.Promises.{ExpressionsAreSimplified}
use Rattle.tidy_indices.specs.Redundant.{IsRedundant, SumOfNumbers, ProductOfNumbers, LeastOfNumbers, GreatestOfNumbers, QuotientOfNumbers, RemainderOfNumbers, PlusZero, ZeroPlus, MinusZero, TimesOne, OneTimes, TimesZero, ZeroTimes, OverOne, ModuloOne, CellOfParts, IsIrredundant}
use Rattle.tidy_indices.specs.Spelling.{SimpleFormulasAreIrredundant}
use Rattle.tidy_indices.proofs.Spelled.{no_number, no_size, no_operation, turn_back, turn_irredundant}

-- ---- an operation is known by its operator
abbrev operation_in : Op → Operation
operation_in Add = Sum
operation_in Sub = Difference
operation_in Mul = Product
operation_in Div = Quotient
operation_in Rem = Remainder
operation_in Min = Least
operation_in _ = Greatest

known : (o : Operation) → operation_in (operator_of o) ≡ o
known Sum = refl
known Difference = refl
known Product = refl
known Quotient = refl
known Remainder = refl
known Least = refl
known Greatest = refl

-- ---- an expression is known by its spelling, but for the ranges of its variables
number_back : (e : Expression) (n : ℕ) → index_formula e ≡ formula.Number n → e ≡ Literal n
number_back (Variable k l g) n h = absurd (no_number k n h)
number_back (Literal m) n h = let same : m ≡ n = cc h in ap Literal same
number_back (Size k) n h = absurd (cc h)
number_back (Binary o a b) n h = absurd (cc h)

record IsTurn (i : ℕ) (e : Expression) : Type 0 where
  least : ℕ
  greatest : ℕ
  same : e ≡ Variable i least greatest

turn_in : (e : Expression) (i : ℕ) → index_formula e ≡ turn_formula i → IsTurn i e
turn_in (Variable k l g) i h = record { least = l; greatest = g; same = ap (λ x. Variable x l g) (turn_back k i h) }
turn_in (Literal m) i h = absurd (no_number i m (sym h))
turn_in (Size k) i h = absurd (no_size i k (sym h))
turn_in (Binary o a b) i h = absurd (no_operation i (operator_of o) (index_formula a) (index_formula b) (sym h))

record IsMade (o : Operation) (x y : Formula) (e : Expression) : Type 0 where
  first : Expression
  second : Expression
  same : e ≡ Binary o first second
  left : index_formula first ≡ x
  right : index_formula second ≡ y

made_back : (e : Expression) (op : Op) (x y : Formula) → index_formula e ≡ formula.Binary op x y → IsMade (operation_in op) x y e
made_back (Variable k l g) op x y h = absurd (no_operation k op x y h)
made_back (Literal m) op x y h = absurd (cc h)
made_back (Size k) op x y h = absurd (cc h)
made_back (Binary o a b) op x y h =
    let same : operator_of o ≡ op = cc h in
    let left : index_formula a ≡ x = cc h in
    let right : index_formula b ≡ y = cc h in
    record { first = a; second = b; same = ap (λ q. Binary q a b) (sym (known o) ∙ ap operation_in same); left = left; right = right }

numbers_back : (e : Expression) (op : Op) (m n : ℕ) → index_formula e ≡ formula.Binary op (formula.Number m) (formula.Number n) → e ≡ Binary (operation_in op) (Literal m) (Literal n)
numbers_back e op m n h =
    let made = made_back e op (formula.Number m) (formula.Number n) h in
    made.same ∙ ap (λ x. Binary (operation_in op) x made.second) (number_back made.first m made.left) ∙ ap (Binary (operation_in op) (Literal m)) (number_back made.second n made.right)

right_back : (e : Expression) (op : Op) (f : Formula) (n : ℕ) → index_formula e ≡ formula.Binary op f (formula.Number n) → (a : Expression) × (e ≡ Binary (operation_in op) a (Literal n))
right_back e op f n h =
    let made = made_back e op f (formula.Number n) h in
    (made.first, made.same ∙ ap (Binary (operation_in op) made.first) (number_back made.second n made.right))

left_back : (e : Expression) (op : Op) (n : ℕ) (f : Formula) → index_formula e ≡ formula.Binary op (formula.Number n) f → (b : Expression) × (e ≡ Binary (operation_in op) (Literal n) b)
left_back e op n f h =
    let made = made_back e op (formula.Number n) f h in
    (made.second, made.same ∙ ap (λ x. Binary (operation_in op) x made.second) (number_back made.first n made.left))

-- a turn under an operation with a number
part_back : (e : Expression) (op : Op) (i n : ℕ) → index_formula e ≡ formula.Binary op (turn_formula i) (formula.Number n) → (l g : ℕ) × (e ≡ Binary (operation_in op) (Variable i l g) (Literal n))
part_back e op i n h =
    let made = right_back e op (turn_formula i) n h in
    let parts = made_back e op (turn_formula i) (formula.Number n) h in
    let turn = turn_in parts.first i parts.left in (
      turn.least,
      turn.greatest,
      parts.same ∙ ap (λ x. Binary (operation_in op) x parts.second) turn.same ∙ ap (Binary (operation_in op) (Variable i turn.least turn.greatest)) (number_back parts.second n parts.right),
    )

cell_back : (e : Expression) (i n : ℕ) → index_formula e ≡ formula.Binary Add (formula.Binary Mul (formula.Binary Div (turn_formula i) (formula.Number n)) (formula.Number n)) (formula.Binary Rem (turn_formula i) (formula.Number n)) → shape.IsRedundant e
cell_back e i n h =
    let sum = made_back e Add (formula.Binary Mul (formula.Binary Div (turn_formula i) (formula.Number n)) (formula.Number n)) (formula.Binary Rem (turn_formula i) (formula.Number n)) h in
    let times = made_back sum.first Mul (formula.Binary Div (turn_formula i) (formula.Number n)) (formula.Number n) sum.left in
    let quotient = part_back times.first Div i n times.left in
    let remainder = part_back sum.second Rem i n sum.right in
    let number = number_back times.second n times.right in
    let begin : sum.first ≡ Binary Product (Binary Quotient (Variable i quotient.0 quotient.1) (Literal n)) (Literal n) = times.same ∙ ap (λ x. Binary Product x times.second) quotient.2 ∙ ap (Binary Product (Binary Quotient (Variable i quotient.0 quotient.1) (Literal n))) number in
    let whole : e ≡ Binary Sum (Binary Product (Binary Quotient (Variable i quotient.0 quotient.1) (Literal n)) (Literal n)) (Binary Remainder (Variable i remainder.0 remainder.1) (Literal n)) = sum.same ∙ ap (λ x. Binary Sum x sum.second) begin ∙ ap (Binary Sum (Binary Product (Binary Quotient (Variable i quotient.0 quotient.1) (Literal n)) (Literal n))) remainder.2 in
    subst shape.IsRedundant (sym whole) (shape.CellOfParts i quotient.0 quotient.1 remainder.0 remainder.1 n)

redundant_back : (e : Expression) (f : Formula) → IsRedundant f → index_formula e ≡ f → shape.IsRedundant e
redundant_back e _ (SumOfNumbers m n lt) h = subst shape.IsRedundant (sym (numbers_back e Add m n h)) (shape.SumOfLiterals m n lt)
redundant_back e _ (ProductOfNumbers m n lt) h = subst shape.IsRedundant (sym (numbers_back e Mul m n h)) (shape.ProductOfLiterals m n lt)
redundant_back e _ (LeastOfNumbers m n lt) h = subst shape.IsRedundant (sym (numbers_back e Min m n h)) (shape.LeastOfLiterals m n lt)
redundant_back e _ (GreatestOfNumbers m n lt) h = subst shape.IsRedundant (sym (numbers_back e Max m n h)) (shape.GreatestOfLiterals m n lt)
redundant_back e _ (QuotientOfNumbers m n) h = subst shape.IsRedundant (sym (numbers_back e Div m n h)) (shape.QuotientOfLiterals m n)
redundant_back e _ (RemainderOfNumbers m n) h = subst shape.IsRedundant (sym (numbers_back e Rem m n h)) (shape.RemainderOfLiterals m n)
redundant_back e _ (PlusZero f) h = let b = right_back e Add f 0 h in subst shape.IsRedundant (sym b.1) (shape.PlusZero b.0)
redundant_back e _ (ZeroPlus f) h = let b = left_back e Add 0 f h in subst shape.IsRedundant (sym b.1) (shape.ZeroPlus b.0)
redundant_back e _ (MinusZero f) h = let b = right_back e Sub f 0 h in subst shape.IsRedundant (sym b.1) (shape.MinusZero b.0)
redundant_back e _ (TimesOne f) h = let b = right_back e Mul f 1 h in subst shape.IsRedundant (sym b.1) (shape.TimesOne b.0)
redundant_back e _ (OneTimes f) h = let b = left_back e Mul 1 f h in subst shape.IsRedundant (sym b.1) (shape.OneTimes b.0)
redundant_back e _ (TimesZero f) h = let b = right_back e Mul f 0 h in subst shape.IsRedundant (sym b.1) (shape.TimesZero b.0)
redundant_back e _ (ZeroTimes f) h = let b = left_back e Mul 0 f h in subst shape.IsRedundant (sym b.1) (shape.ZeroTimes b.0)
redundant_back e _ (OverOne f) h = let b = right_back e Div f 1 h in subst shape.IsRedundant (sym b.1) (shape.OverOne b.0)
redundant_back e _ (ModuloOne f) h = let b = right_back e Rem f 1 h in subst shape.IsRedundant (sym b.1) (shape.ModuloOne b.0)
redundant_back e _ (CellOfParts i n) h = cell_back e i n h

irredundant : (e : Expression) → EachNode IsPlain e → IsIrredundant (index_formula e)
irredundant (Variable k l g) h = turn_irredundant k
irredundant (Literal n) h = tt
irredundant (Size k) h = tt
irredundant (Binary o a b) h = ((λ red. h.0.irredundant (redundant_back (Binary o a b) _ red refl)), irredundant a h.1, irredundant b h.2)

pub are_irredundant : ExpressionsAreSimplified → SimpleFormulasAreIrredundant
are_irredundant simplified r e = irredundant (simple r e) (simplified r e).simple
