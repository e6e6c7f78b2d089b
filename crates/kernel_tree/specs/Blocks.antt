-- Blocks as the program holds them, and their code.
use Rattle.std.specs.Prelude.{◌≡◌, List, ◌++◌, Vec}
use Rattle.std.specs.Global.{Global}
use Rattle.kernel_tree.specs.declared.tree.Expr.{Expr}
use Rattle.kernel_tree.specs.declared.tree.Start.{Start}
use Rattle.kernel_tree.specs.declared.tree.Stride.{Stride}
use Rattle.kernel_tree.specs.declared.tree.Stmt.{Stmt, Loop, If}
use Rattle.kernel_tree.specs.Code.{Code, End, Loops, Guards, then_rest}
use Rattle.kernel_tree.specs.Tree.{before, code_then, formula_of, start_of, stride_of}

-- a loop's code, by the statements of its body
abbrev pub LoopCode : Type 0
LoopCode = (s : Start) (b : Expr) (c : Stride) (body : Vec Stmt Global) (rest : Code)
    → before (Loop s b c body) rest
    ≡ Loops (start_of s) (formula_of b) (stride_of c) (code_then body.items End) rest

-- an if's code
abbrev pub IfCode : Type 0
IfCode = (s : Start) (b : Expr) (body : Vec Stmt Global) (rest : Code)
    → before (If s b body) rest ≡ Guards (start_of s) (formula_of b) (code_then body.items End) rest

-- statements behind a block are behind its last one
abbrev pub CodeThenRest : Type 0
CodeThenRest =
    (xs : List Stmt) (rest : Code) → then_rest (code_then xs End) rest ≡ code_then xs rest

-- blocks joined, in either order
abbrev pub BlocksJoin : Type 0
BlocksJoin =
    (a b c : Code)
    → (then_rest a End ≡ a) × (then_rest (then_rest a b) c ≡ then_rest a (then_rest b c))

-- the code of statements behind others
abbrev pub CodeBehind : Type 0
CodeBehind =
    (xs ys : List Stmt) (rest : Code) → code_then (xs ++ ys) rest ≡ code_then xs (code_then ys rest)
