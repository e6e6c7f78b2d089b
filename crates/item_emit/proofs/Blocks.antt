-- Statements that are held from the last to the first.
use Rattle.std.proofs.Common.{◌≡◌, List, [], ◌∷◌, ◌++◌, refl, ap, ◌∙◌}
use Rattle.std.specs.Prelude.{Vec, reverse}
use Rattle.std.proofs.lemmas.List.{reverse-append}
use Rattle.std.specs.Global.{Global}
use Rattle.kernel_tree.specs.declared.tree.Expr.{Expr}
use Rattle.kernel_tree.specs.declared.tree.Start.{Start}
use Rattle.kernel_tree.specs.declared.tree.Stride.{Stride}
use Rattle.kernel_tree.specs.declared.tree.Stmt.{Stmt, If, Loop}
use Rattle.kernel_tree.specs.Code.{Code, End, Guards, Loops}
use Rattle.kernel_tree.specs.Tree.{before, code_then, formula_of, start_of, stride_of}
use Rattle.item_emit.specs.Blocks.{code_from}
use Rattle.item_emit.proofs.Rows.{before-If, before-Loop}

pub put_before : (xs : List Stmt) (s : Stmt) (rest : Code) → code_from (xs ++ s ∷ []) rest ≡ before s (code_from xs rest)
put_before [] s rest = refl
put_before (x ∷ xs) s rest = put_before xs s (before x rest)

-- these statements, after those
over : (xs ys : List Stmt) (rest : Code) → code_then (xs ++ ys) rest ≡ code_then xs (code_then ys rest)
over [] ys rest = refl
over (x ∷ xs) ys rest = ap (before x) (over xs ys rest)

pub turned : (xs : List Stmt) (rest : Code) → code_then (reverse xs) rest ≡ code_from xs rest
turned [] rest = refl
turned (x ∷ xs) rest = ap (λ ys. code_then ys rest) (reverse-append (x ∷ []) xs) ∙ (over (reverse xs) (x ∷ []) rest ∙ turned xs (before x rest))

-- a loop over such statements
pub looped : (s : Start) (b : Expr) (c : Stride) (body : Vec Stmt Global) (rest code : Code) → code_then body.items End ≡ code → before (Loop s b c body) rest ≡ Loops (start_of s) (formula_of b) (stride_of c) code rest
looped s b c body rest code e = before-Loop s b c body rest ∙ ap (λ k. Loops (start_of s) (formula_of b) (stride_of c) k rest) e

-- and an `if` over such
pub guarded : (s : Start) (b : Expr) (body : Vec Stmt Global) (rest code : Code) → code_then body.items End ≡ code → before (If s b body) rest ≡ Guards (start_of s) (formula_of b) code rest
guarded s b body rest code e = before-If s b body rest ∙ ap (λ k. Guards (start_of s) (formula_of b) k rest) e
