-- The body of a loop or an `if` as the program holds it.
use Rattle.std.proofs.Common.{◌≡◌, refl, ap, rules}
use Rattle.std.specs.Prelude.{Vec}
use Rattle.std.specs.Global.{Global}
use Rattle.kernel_tree.specs.declared.tree.Expr.{Expr}
use Rattle.kernel_tree.specs.declared.tree.Start.{Start}
use Rattle.kernel_tree.specs.declared.tree.Stride.{Stride}
use Rattle.kernel_tree.specs.declared.tree.Stmt.{Stmt, If, Loop, the_lemmas, Row_of-Stmt, end_of-Stmt, more_of-Stmt, items-the_row-Stmt}
use Rattle.kernel_tree.specs.Code.{Code, End, Guards, Loops}
use Rattle.kernel_tree.specs.Tree.{before, code_of, code_then, formula_of, start_of, stride_of}

row_then : (n : _) (row : Row_of-Stmt n) → code_of row ≡ code_then (items-the_row-Stmt n row) End
row_then n end_of-Stmt = refl
row_then n (more_of-Stmt s more) = ap (before s) (row_then _ more)

pub before-Loop : (s : Start) (b : Expr) (c : Stride) (body : Vec Stmt Global) (rest : Code) → before (Loop s b c body) rest ≡ Loops (start_of s) (formula_of b) (stride_of c) (code_then body.items End) rest
before-Loop s b c body rest = search (rules, the_lemmas, row_then)

pub before-If : (s : Start) (b : Expr) (body : Vec Stmt Global) (rest : Code) → before (If s b body) rest ≡ Guards (start_of s) (formula_of b) (code_then body.items End) rest
before-If s b body rest = search (rules, the_lemmas, row_then)
