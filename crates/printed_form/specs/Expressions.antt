-- The expressions of element terms.
use Rattle.std.specs.Prelude.{ℕ, Bool, true, false, List, [], ◌∷◌, Option, Some, None}
use Rattle.scalar_ops.specs.declared.op.Op.{Op}
use Rattle.scalar_ops.specs.declared.op.Op.TheVariants as op
use Rattle.kernel_tree.specs.Formula.{Formula, Number, Variable, Binary, Choose, Less, Equal, Lanes, Vector, Spread}
use Rattle.kernel_tree.specs.Formula as formula
use Rattle.lift_ir.specs.Terms.{Term, Literal, Bound, Apply, ApplyNumber, ApplyLanes, DivideLanes, Select, Both, Project, LetElement, push}
use Rattle.lift_ir.specs.Scalars.{by_side}
use Rattle.printed_form.specs.Counts.{Count, more, held_count, let_variables}
use Rattle.printed_form.specs.Marks.{Mark, Register, Marks, held_marks, lanes_of_one}

-- the expression of a component: of a word, or of four words
pub data Expr : Type 0 where
  OneWord : Formula → Expr
  FourWords : Lanes → Expr

-- of a variable of four
abbrev pub of_vector : Option ℕ → Option Expr
of_vector (Some v) = Some (FourWords (Vector v))
of_vector None = None

-- the expression of what a variable holds
abbrev pub held_by : Mark → Option ℕ → Option Expr
held_by (Register v) w = Some (OneWord (Variable v))
held_by _ w = of_vector w

-- the expression of a component in a variable, by its scalars' marks
abbrev pub held : (List ℕ → Mark) → Option Expr
held x =
    held_by (x []) (lanes_of_one (x (0 ∷ [])) (x (1 ∷ [])) (x (2 ∷ [])) (x (3 ∷ [])))

-- made of one expression of a word, where there is one
abbrev pub of_one : (Formula → Formula) → Option Expr → Option Expr
of_one f (Some (OneWord x)) = Some (OneWord (f x))
of_one f _ = None

-- and of two
abbrev pub of_both : (Formula → Formula → Formula) → Option Expr → Option Expr → Option Expr
of_both f (Some (OneWord x)) y = of_one (f x) y
of_both f _ y = None

-- and of three
abbrev pub of_three : (Formula → Formula → Formula → Formula) → Option Expr → Option Expr
    → Option Expr → Option Expr
of_three f (Some (OneWord x)) y z = of_both (f x) y z
of_three f _ y z = None

-- an operand of four words: a vector, or a word for all lanes
abbrev pub in_fours : (vector : Bool) → Option Expr → Option Lanes
in_fours true (Some (FourWords e)) = Some e
in_fours false (Some (OneWord x)) = Some (Spread x)
in_fours _ _ = None

-- made of two operands of four
abbrev pub of_lanes : (Lanes → Lanes → Lanes) → Option Lanes → Option Lanes → Option Expr
of_lanes f (Some x) (Some y) = Some (FourWords (f x y))
of_lanes f _ _ = None

-- an operator's expression; a comparison is 1 or 0
abbrev pub operation : Op → Formula → Formula → Formula
operation op.Lt x y = Choose Less x y (Number 1) (Number 0)
operation op.Eq x y = Choose Equal x y (Number 1) (Number 0)
operation o x y = Binary o x y

-- the second where the first isn't 0, else the third
abbrev pub selection : Formula → Formula → Formula → Formula
selection c x y = Choose Equal c (Number 0) y x

-- the expression of each component of an element term, whose first variables are these
abbrev pub exprs : {A : Type 0} → (ℕ → Marks) → Count → Term A → List Bool → Option Expr
exprs env n (Literal c) = λ cs. Some (OneWord (Number c))
exprs env n (Bound v) = λ cs. held (env v cs)
exprs env n (Apply o a b) =
    λ cs. of_both (operation o) (exprs env n a []) (exprs env (more n (let_variables a)) b [])
exprs env n (ApplyNumber o m a) = λ cs. of_one (λ x. Binary o x (Number m)) (exprs env n a [])
exprs env n (ApplyLanes o l r a b) =
    λ cs. of_lanes (formula.Each o) (in_fours l (exprs env n a []))
    (in_fours r (exprs env (more n (let_variables a)) b []))
exprs env n (DivideLanes o m a) =
    λ cs. of_lanes (formula.Each o) (in_fours true (exprs env n a [])) (Some (Spread (Number m)))
exprs env n (Select c a b) =
    λ cs. of_three selection (exprs env n c []) (exprs env (more n (let_variables c)) a [])
    (exprs env (more (more n (let_variables c)) (let_variables a)) b [])
exprs env n (Both zips a b) =
    by_side None (exprs env n a) (exprs env (more n (let_variables a)) b)
exprs env n (Project s a) = λ cs. exprs env n a (s ∷ cs)
exprs env n (LetElement ty v b) =
    exprs (push (held_marks ty (more n (let_variables v))) env)
    (more (more n (let_variables v)) (held_count ty)) b
exprs env n _ = λ cs. None
