-- What is read of an expression of a kernel.
use Rattle.std.proofs.Common.{◌≡◌, ℕ, ◌^◌, Bool, true, false, Option, Some, None, List, refl, ap, ◌∙◌, subst, arith}
use Rattle.std.specs.Prelude.{nat_lt, if◌then◌else◌, option_map}
use Rattle.std.proofs.lemmas.Bool.{ltb-true, lt-ltb}
use Rattle.scalar_ops.specs.declared.op.Op.{Op}
use Rattle.scalar_ops.specs.declared.op.Op.TheVariants.{Add, Sub, Mul, Div, Rem, Min, Max}
use Rattle.index_expr.specs.declared.operation.Operation.{Operation}
use Rattle.index_expr.specs.declared.operation.Operation.TheVariants.{Sum, Difference, Product, Quotient, Remainder, Least, Greatest}
use Rattle.index_expr.specs.Expression as index
use Rattle.index_expr.specs.Expression.{Expression}
use Rattle.kernel_tree.specs.declared.tree.Dimension.TheVariants.{X, Y}
use Rattle.kernel_tree.specs.Formula.{Formula, Number, Variable, LoopVariable, Size, Id, GroupId, LocalId, Binary, Choose}
use Rattle.length_spelling.specs.Turns.{group_turn, local_turn, loop_turn, turn_formula}
use Rattle.length_spelling.specs.Formulas.{index_formula, operator_of}
use Rattle.length_spelling.specs.Laws.{AreWords}
use Rattle.index_simplify.specs.Ranges.{AreWithin}
use Rattle.index_simplify.specs.Simplified.{HasWordLiterals}
use Rattle.tidy_indices.specs.Reading.{any_turn, operation_of, on_both, reading, IsIndexOperator, IsIndexFormula}

-- its variables may be any words
abbrev pub AreWide : Expression → Type 0
AreWide e = (turns : List ℕ) → AreWords turns → AreWithin turns e

pub record IsRead (f : Formula) (e : Expression) : Type 0 where
  pub same : index_formula e ≡ f
  pub literals : HasWordLiterals e
  pub wide : AreWide e

number_read : (n : ℕ) (b : Bool) (e : Expression) → nat_lt n (2 ^ 32) ≡ b → (if b then Some (index.Literal n) else None) ≡ Some e → IsRead (Number n) e
number_read n true e t h =
    let same : index.Literal n ≡ e = cc h in
    subst (IsRead (Number n)) same (record { same = refl; literals = ltb-true n (2 ^ 32) t; wide = λ turns w. tt })
number_read n false e t h = absurd (cc h)

turn_read : (k : ℕ) → IsRead (turn_formula k) (any_turn k)
turn_read k = record { same = refl; literals = tt; wide = λ turns w. (omega arith, let lt = w k in omega arith) }

-- a loop's turn whose number is a word
numbered : (k : ℕ) (b : Bool) (e : Expression) → option_map any_turn (if b then Some k else None) ≡ Some e → any_turn k ≡ e
numbered k true e h = cc h
numbered k false e h = absurd (cc h)

size_read : (k : ℕ) → IsRead (Size k) (index.Size k)
size_read k = record { same = refl; literals = tt; wide = λ turns w. tt }

operator_back : (op : Op) (o : Operation) → operation_of op ≡ Some o → operator_of o ≡ op
operator_back Add o h = ap operator_of (let same : o ≡ Sum = cc h in same)
operator_back Sub o h = ap operator_of (let same : o ≡ Difference = cc h in same)
operator_back Mul o h = ap operator_of (let same : o ≡ Product = cc h in same)
operator_back Div o h = ap operator_of (let same : o ≡ Quotient = cc h in same)
operator_back Rem o h = ap operator_of (let same : o ≡ Remainder = cc h in same)
operator_back Min o h = ap operator_of (let same : o ≡ Least = cc h in same)
operator_back Max o h = ap operator_of (let same : o ≡ Greatest = cc h in same)
operator_back _ o h = absurd (cc h)

both_read : (op : Op) (o : Operation) (f g : Formula) (a b e : Expression) → operator_of o ≡ op → IsRead f a → IsRead g b → Some (index.Binary o a b) ≡ Some e → IsRead (Binary op f g) e
both_read op o f g a b e is x y h =
    let same : index.Binary o a b ≡ e = cc h in
    subst (IsRead (Binary op f g)) same (record {
      same = ap (λ q. Binary q (index_formula a) (index_formula b)) is ∙ ap (λ z. Binary op z (index_formula b)) x.same ∙ ap (Binary op f) y.same;
      literals = (x.literals, y.literals);
      wide = λ turns w. (x.wide turns w, y.wide turns w);
    })

operation_read : (op : Op) (found : Option Operation) (f g : Formula) (a b : Option Expression) (e : Expression) → operation_of op ≡ found → ((x : Expression) → a ≡ Some x → IsRead f x) → ((y : Expression) → b ≡ Some y → IsRead g y) → on_both found a b ≡ Some e → IsRead (Binary op f g) e
operation_read op (Some o) f g (Some a) (Some b) e is x y h = both_read op o f g a b e (operator_back op o is) (x a refl) (y b refl) h
operation_read op (Some o) f g (Some a) None e is x y h = absurd (cc h)
operation_read op (Some o) f g None b e is x y h = absurd (cc h)
operation_read op None f g a b e is x y h = absurd (cc h)

pub is_read : (f : Formula) (e : Expression) → reading f ≡ Some e → IsRead f e
is_read (Number n) e h = number_read n (nat_lt n (2 ^ 32)) e refl h
is_read (Variable v) e h = absurd (cc h)
is_read (LoopVariable k) e h = subst (IsRead (LoopVariable k)) (numbered (loop_turn k) (nat_lt (loop_turn k) (2 ^ 32)) e h) (turn_read (loop_turn k))
is_read (Size k) e h = let same : index.Size k ≡ e = cc h in subst (IsRead (Size k)) same (size_read k)
is_read (Id X GroupId) e h = let same : any_turn 0 ≡ e = cc h in subst (IsRead (Id X GroupId)) same (turn_read 0)
is_read (Id X LocalId) e h = let same : any_turn 1 ≡ e = cc h in subst (IsRead (Id X LocalId)) same (turn_read 1)
is_read (Id Y GroupId) e h = let same : any_turn 2 ≡ e = cc h in subst (IsRead (Id Y GroupId)) same (turn_read 2)
is_read (Id Y LocalId) e h = let same : any_turn 3 ≡ e = cc h in subst (IsRead (Id Y LocalId)) same (turn_read 3)
is_read (Id d form) e h = absurd (cc h)
is_read (Binary o a b) e h = operation_read o (operation_of o) a b (reading a) (reading b) e refl (is_read a) (is_read b) h
is_read (Choose c a b x y) e h = absurd (cc h)

-- ---- what spells an index expression is read
abbrev pub Reads : Formula → Type 0
Reads f = (e : Expression) × (reading f ≡ Some e)

operator_read : (op : Op) → IsIndexOperator op → (o : Operation) × (operation_of op ≡ Some o)
operator_read Add h = (Sum, refl)
operator_read Sub h = (Difference, refl)
operator_read Mul h = (Product, refl)
operator_read Div h = (Quotient, refl)
operator_read Rem h = (Remainder, refl)
operator_read Min h = (Least, refl)
operator_read Max h = (Greatest, refl)
operator_read _ h = absurd h

pub index_reads : (f : Formula) → IsIndexFormula f → Reads f
index_reads (Number n) h = (index.Literal n, ap (λ (b : Bool). if b then Some (index.Literal n) else None) (lt-ltb n (2 ^ 32) h))
index_reads (Variable v) h = absurd h
index_reads (LoopVariable k) h = (any_turn (loop_turn k), ap (λ (b : Bool). option_map any_turn (if b then Some (loop_turn k) else None)) (lt-ltb (loop_turn k) (2 ^ 32) h))
index_reads (Size k) h = (index.Size k, refl)
index_reads (Id d GroupId) h = (any_turn (group_turn d), refl)
index_reads (Id d LocalId) h = (any_turn (local_turn d), refl)
index_reads (Id d form) h = absurd h
index_reads (Binary o a b) h =
    let p = operator_read o h.0 in
    let x = index_reads a h.1 in
    let y = index_reads b h.2 in
    (index.Binary p.0 x.0 y.0, ap (λ q. on_both q (reading a) (reading b)) p.1 ∙ ap (λ q. on_both (Some p.0) q (reading b)) x.1 ∙ ap (on_both (Some p.0) (Some x.0)) y.1)
index_reads (Choose c a b x y) h = absurd h
