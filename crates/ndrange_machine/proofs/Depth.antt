-- How many loops stand around one another, by the lines.
use Rattle.std.proofs.Common.{◌≡◌, ℕ, ◌+◌, ◌-◌, ◌<◌, ◌≤◌, suc, max, List, [], ◌∷◌, ◌++◌, length, get_or, drop, sym, ap, ◌∙◌, arith, append_assoc}
use Rattle.std.specs.Prelude.{map}
use Rattle.std.proofs.lemmas.List.{append-nil, drop_more}
use Rattle.kernel_tree.specs.Code.{Code, End, Performs, Loops, Guards}
use Rattle.ndrange_machine.specs.declared.line.Line as held
use Rattle.ndrange_machine.specs.Lines.{Line, Does, Test, Head, Tail, past_line, lines_at, exit_of, past_if, depth}
use Rattle.ndrange_machine.specs.Wants.{text_of}

-- an item is inside some loops and was in most, and these lines follow
abbrev pub deepest : (inside most : ℕ) → List Line → ℕ
deepest inside most [] = most
deepest inside most (l ∷ ls) = deepest (past_line l inside) (max most (past_line l inside)) ls

deepest_past : (inside most n : ℕ) (code : Code) (rest : List Line) → inside ≤ most → deepest inside most (lines_at n code ++ rest) ≡ deepest inside (max most (inside + depth code)) rest
deepest_past inside most n End rest h = let e : most ≡ max most (inside + 0) = omega arith in ap (λ m. deepest inside m rest) e
deepest_past inside most n (Performs s after) rest h =
    let q : max most inside ≡ most = omega arith in
    ap (λ m. deepest inside m (lines_at (suc n) after ++ rest)) q ∙ deepest_past inside most (suc n) after rest h
deepest_past inside most n (Guards s b body after) rest h =
    let q : max most inside ≡ most = omega arith in
    let m = max most (inside + depth body) in
    let same : max m (inside + depth after) ≡ max most (inside + max (depth body) (depth after)) = omega arith in
    ap (λ k. deepest inside k ((lines_at (suc n) body ++ lines_at (past_if n body) after) ++ rest)) q
    ∙ ap (deepest inside most) (append_assoc (lines_at (suc n) body) (lines_at (past_if n body) after) rest)
    ∙ deepest_past inside most (suc n) body (lines_at (past_if n body) after ++ rest) h
    ∙ deepest_past inside m (past_if n body) after rest (omega arith)
    ∙ ap (λ k. deepest inside k rest) same
deepest_past inside most n (Loops s b c body after) rest h =
    let m = max most (inside + 1) in
    let tail = Tail n ∷ lines_at (exit_of n body) after in
    let inner = max m ((inside + 1) + depth body) in
    let back : (inside + 1) - 1 ≡ inside = omega arith in
    let same : max (max inner inside) (inside + depth after) ≡ max most (inside + max (suc (depth body)) (depth after)) = omega arith in
    ap (deepest (inside + 1) m) (append_assoc (lines_at (suc n) body) tail rest)
    ∙ deepest_past (inside + 1) m (suc n) body (tail ++ rest) (omega arith)
    ∙ ap (λ o. deepest o (max inner o) (lines_at (exit_of n body) after ++ rest)) back
    ∙ deepest_past inside (max inner inside) (exit_of n body) after rest (omega arith)
    ∙ ap (λ k. deepest inside k rest) same

pub deepest_is : (n : ℕ) (code : Code) → deepest 0 0 (lines_at n code) ≡ depth code
deepest_is n code =
    let e : max 0 (0 + depth code) ≡ depth code = omega arith in
    ap (deepest 0 0) (sym (append-nil (lines_at n code))) ∙ deepest_past 0 0 n code [] (omega arith) ∙ e

-- past one more line
pub deepest_on : (inside most : ℕ) (ls : List held.Line) (i : ℕ) (l : held.Line) → i < length ls → l ≡ get_or ls i l
    → deepest inside most (map text_of (drop i ls)) ≡ deepest (past_line (text_of l) inside) (max most (past_line (text_of l) inside)) (map text_of (drop (i + 1) ls))
deepest_on inside most ls i l lt e = ap (λ z. deepest inside most (map text_of z)) (drop_more ls i l lt ∙ ap (λ z. z ∷ drop (i + 1) ls) (sym e))

pub past_low : (l : Line) (inside : ℕ) → past_line l inside ≤ inside + 1
past_low (Head s b c exit) inside = omega arith
past_low (Tail head) inside = omega arith
past_low (Test s b exit) inside = omega arith
past_low (Does s) inside = omega arith
