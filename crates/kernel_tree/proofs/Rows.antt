-- Blocks as the program holds them.
use Rattle.std.proofs.Common.{◌≡◌, List, [], ◌∷◌, ◌++◌, refl, ap, ◌∙◌, rules}
use Rattle.std.specs.Prelude.{Vec}
use Rattle.std.specs.Global.{Global}
use Rattle.kernel_tree.specs.declared.tree.Expr.{Expr}
use Rattle.kernel_tree.specs.declared.tree.Start.{Start}
use Rattle.kernel_tree.specs.declared.tree.Stride.{Stride}
use Rattle.kernel_tree.specs.declared.tree.Stmt.{Stmt, Loop, If, the_lemmas, Row_of-Stmt, end_of-Stmt, more_of-Stmt, items-the_row-Stmt}
use Rattle.kernel_tree.specs.declared.tree.Stmt as stmt
use Rattle.kernel_tree.specs.Code.{Code, End, Performs, Loops, Guards, then_rest}
use Rattle.kernel_tree.specs.Tree.{before, code_of, code_then, formula_of, start_of, stride_of}

pub row_then : (n : _) (row : Row_of-Stmt n) → code_of row ≡ code_then (items-the_row-Stmt n row) End
row_then n end_of-Stmt = refl
row_then n (more_of-Stmt s more) = ap (before s) (row_then _ more)

-- a loop's body by its statements
pub before-Loop : (s : Start) (b : Expr) (c : Stride) (body : Vec Stmt Global) (rest : Code) → before (Loop s b c body) rest ≡ Loops (start_of s) (formula_of b) (stride_of c) (code_then body.items End) rest
before-Loop s b c body rest = search (rules, the_lemmas, row_then)

pub before-If : (s : Start) (b : Expr) (body : Vec Stmt Global) (rest : Code) → before (If s b body) rest ≡ Guards (start_of s) (formula_of b) (code_then body.items End) rest
before-If s b body rest = search (rules, the_lemmas, row_then)

pub then_rest-before : (s : Stmt) (more rest : Code) → then_rest (before s more) rest ≡ before s (then_rest more rest)
then_rest-before (stmt.Assign v e) more rest = refl
then_rest-before (stmt.Load v a i) more rest = refl
then_rest-before (stmt.Store a i e) more rest = refl
then_rest-before (stmt.AssignFour v e) more rest = refl
then_rest-before (stmt.LoadFour v a i) more rest = refl
then_rest-before (stmt.StoreFour a i e) more rest = refl
then_rest-before (stmt.Loop' s b c shape body) more rest = refl
then_rest-before (stmt.If' s b shape body) more rest = refl
then_rest-before (stmt.Barrier p q) more rest = refl

pub code_then-rest : (xs : List Stmt) (rest : Code) → then_rest (code_then xs End) rest ≡ code_then xs rest
code_then-rest [] rest = refl
code_then-rest (x ∷ xs) rest = then_rest-before x (code_then xs End) rest ∙ ap (before x) (code_then-rest xs rest)

pub code_then-append : (xs ys : List Stmt) (rest : Code) → code_then (xs ++ ys) rest ≡ code_then xs (code_then ys rest)
code_then-append [] ys rest = refl
code_then-append (x ∷ xs) ys rest = ap (before x) (code_then-append xs ys rest)

-- blocks joined

pub then-end : (c : Code) → then_rest c End ≡ c
then-end End = refl
then-end (Performs s after) = ap (Performs s) (then-end after)
then-end (Loops s b c body after) = ap (Loops s b c body) (then-end after)
then-end (Guards s b body after) = ap (Guards s b body) (then-end after)

pub then-then : (a b c : Code) → then_rest (then_rest a b) c ≡ then_rest a (then_rest b c)
then-then End b c = refl
then-then (Performs s after) b c = ap (Performs s) (then-then after b c)
then-then (Loops s p q body after) b c = ap (Loops s p q body) (then-then after b c)
then-then (Guards s p body after) b c = ap (Guards s p body) (then-then after b c)
