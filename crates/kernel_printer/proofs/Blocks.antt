-- Facts of blocks, indents and counts.
use Rattle.std.proofs.Common.{◌≡◌, ℕ, zero, suc, ◌<◌, ◌-◌, ◌+◌, ◌*◌, List, [], ◌∷◌, ◌++◌, replicate, drop, ap, ◌∙◌, get_or, length, refl, subst, sym, arith, true}
use Rattle.std.specs.Prelude.{codes, nat_lt}
use Rattle.std.proofs.lemmas.Bool.{ltb-true, and_parts}
use Rattle.kernel_tree.specs.declared.tree.Stmt.{Stmt}
use Rattle.kernel_tree.specs.declared.tree.Stmt as stmt
use Rattle.kernel_tree.specs.Code.{Start, Stride, Code, End, Performs, Loops, Guards, Kernel}
use Rattle.kernel_tree.specs.Formula.{Formula}
use Rattle.kernel_tree.specs.Grammar.{deepest, is_constant, is_expression, has_statement, is_statement, are_statements, is_kernel}
use Rattle.kernel_tree.specs.KernelText.{indent}
use Rattle.kernel_tree.specs.Tree.{before, code_then}

pub one_output : (k : Kernel) → is_kernel k ≡ true → k.outputs ≡ suc (k.outputs - 1)
one_output k h =
    let some = ltb-true 0 k.outputs (and_parts (nat_lt 0 k.outputs) _ h).0 in
    omega (arith, some)

two_more : (n : ℕ) → replicate {A = ℕ} n 32 ++ codes "  " ≡ replicate (suc (suc n)) 32
two_more zero = refl
two_more (suc n) = ap (λ z. 32 ∷ z) (two_more n)

pub indent_more : (level : ℕ) → indent level ++ codes "  " ≡ indent (level + 1)
indent_more level = two_more (2 * level) ∙ ap (λ n. replicate n 32) (let w : suc (suc (2 * level)) ≡ 2 * (level + 1) = omega arith in w)

-- ---- statements of a kernel

abbrev Fits : Kernel → (loops nest : ℕ) → Code → Type 0
Fits k l nest c = are_statements k l nest c ≡ true

-- what stands behind a code's first statement
abbrev after_of : Code → Code
after_of End = End
after_of (Performs s after) = after
after_of (Loops s b c body after) = after
after_of (Guards s b body after) = after

rest_fits : (k : Kernel) (l nest : ℕ) (c : Code) → Fits k l nest c → Fits k l nest (after_of c)
rest_fits k l nest End h = h
rest_fits k l nest (Performs s after) h = (and_parts (is_statement k l s) (are_statements k l nest after) h).1
rest_fits k l nest (Loops s b c body after) h =
    let p = and_parts (is_constant b) _ (and_parts (nat_lt nest deepest) _ h).1 in
    let q = and_parts (has_statement body) _ (and_parts (is_expression k l b) _ p.1).1 in
    (and_parts (are_statements k (suc l) (suc nest) body) _ q.1).1
rest_fits k l nest (Guards s b body after) h =
    let p = and_parts (is_constant b) _ (and_parts (nat_lt nest deepest) _ h).1 in
    let q = and_parts (has_statement body) _ (and_parts (is_expression k l b) _ p.1).1 in
    (and_parts (are_statements k l (suc nest) body) _ q.1).1

rest_behind : (s : Stmt) (rest : Code) → after_of (before s rest) ≡ rest
rest_behind (stmt.Loop' s b c shape body) rest = refl
rest_behind _ rest = refl

-- what stands behind a statement
behind : (k : Kernel) (l nest : ℕ) (s : Stmt) (rest : Code) → Fits k l nest (before s rest) → Fits k l nest rest
behind k l nest s rest h = subst (Fits k l nest) (rest_behind s rest) (rest_fits k l nest (before s rest) h)

-- a statement of a block, with those behind it
pub statement_at : (k : Kernel) (l nest : ℕ) (ss : List Stmt) (i : ℕ) (s : Stmt) → i < length ss → s ≡ get_or ss i s → Fits k l nest (code_then ss End) → Fits k l nest (before s (code_then (drop (suc i) ss) End))
statement_at k l nest [] i s less e h = absurd (omega (arith, less))
statement_at k l nest (x ∷ ss) zero s less e h = subst (λ z. Fits k l nest (before z (code_then ss End))) (sym e) h
statement_at k l nest (x ∷ ss) (suc i) s less e h = statement_at k l nest ss i s (omega (arith, less)) e (behind k l nest x (code_then ss End) h)

-- a loop's body
pub loop_body_of : (k : Kernel) (l nest : ℕ) (start : Start) (b : Formula) (stride : Stride) (body rest : Code) → Fits k l nest (Loops start b stride body rest) → (nest < deepest) × Fits k (suc l) (suc nest) body
loop_body_of k l nest start b stride body rest h =
    let o = and_parts (nat_lt nest deepest) _ h in
    let p = and_parts (is_constant b) _ o.1 in
    let q = and_parts (has_statement body) _ (and_parts (is_expression k l b) _ p.1).1 in
    (ltb-true nest deepest o.0, (and_parts (are_statements k (suc l) (suc nest) body) _ q.1).0)

-- an if's body
pub if_body_of : (k : Kernel) (l nest : ℕ) (start : Start) (b : Formula) (body rest : Code) → Fits k l nest (Guards start b body rest) → (nest < deepest) × Fits k l (suc nest) body
if_body_of k l nest start b body rest h =
    let o = and_parts (nat_lt nest deepest) _ h in
    let p = and_parts (is_constant b) _ o.1 in
    let q = and_parts (has_statement body) _ (and_parts (is_expression k l b) _ p.1).1 in
    (ltb-true nest deepest o.0, (and_parts (are_statements k l (suc nest) body) _ q.1).0)
