-- The lines of statements one after another.
use Rattle.std.proofs.Common.{◌≡◌, ℕ, ◌+◌, zero, suc, List, [], ◌∷◌, ◌++◌, length, get_or, refl, sym, ap, ◌∙◌, arith, append_assoc, length-append, add-one}
use Rattle.std.specs.Prelude.{Vec, map, slice_set}
use Rattle.std.specs.Global.{Global}
use Rattle.std.proofs.lemmas.List.{append-nil, map-set, set_at, get_or_at, length-map}
use Rattle.kernel_tree.specs.declared.tree.Expr.{Expr}
use Rattle.kernel_tree.specs.declared.tree.Start.{Start}
use Rattle.kernel_tree.specs.declared.tree.Stride.{Stride}
use Rattle.kernel_tree.specs.declared.tree.Stmt.{Stmt}
use Rattle.kernel_tree.specs.declared.tree.Stmt as stmt
use Rattle.kernel_tree.specs.Code.{Code, End, Performs, Loops, Guards, then_rest}
use Rattle.kernel_tree.specs.Tree.{before, code_then, formula_of, start_of, stride_of}
use Rattle.kernel_tree.proofs.Rows.{before-Loop, before-If, code_then-rest, code_then-append}
use Rattle.ndrange_machine.specs.declared.line.Line as held
use Rattle.ndrange_machine.specs.declared.line.Line.TheVariants as held_line
use Rattle.ndrange_machine.specs.Lines.{Line, Does, Head, Tail, Test, size, exit_of, past_if, lines_at}
use Rattle.ndrange_machine.specs.Wants.{text_of, with_exit}

pub length-lines_at : (n : ℕ) (c : Code) → length (lines_at n c) ≡ size c
length-lines_at n End = refl
length-lines_at n (Performs s after) = ap suc (length-lines_at (suc n) after)
length-lines_at n (Loops s b c body after) =
    let a = length-append (lines_at (suc n) body) (Tail n ∷ lines_at (exit_of n body) after) in
    let d = length-lines_at (suc n) body in
    let e = length-lines_at (exit_of n body) after in
    omega arith
length-lines_at n (Guards s b body after) =
    let a = length-append (lines_at (suc n) body) (lines_at (past_if n body) after) in
    let d = length-lines_at (suc n) body in
    let e = length-lines_at (past_if n body) after in
    omega arith

-- the lines of a block, and then of what follows it

pub size-then : (a b : Code) → size (then_rest a b) ≡ size a + size b
size-then End b = omega arith
size-then (Performs s after) b = let h = size-then after b in omega arith
size-then (Loops s p c body after) b = let h = size-then after b in omega arith
size-then (Guards s p body after) b = let h = size-then after b in omega arith

pub lines-then : (n m : ℕ) (a b : Code) → m ≡ n + size a → lines_at n (then_rest a b) ≡ lines_at n a ++ lines_at m b
lines-then n m End b e = ap (λ k. lines_at k b) (let z : n ≡ m = omega arith in z)
lines-then n m (Performs s after) b e = ap (λ z. Does s ∷ z) (lines-then (suc n) m after b (omega arith))
lines-then n m (Loops s p c body after) b e =
    let inner = lines_at (suc n) body in
    ap (λ z. Head s p c (exit_of n body) ∷ (inner ++ (Tail n ∷ z))) (lines-then (exit_of n body) m after b (omega arith))
    ∙ ap (λ z. Head s p c (exit_of n body) ∷ z) (sym (append_assoc inner (Tail n ∷ lines_at (exit_of n body) after) (lines_at m b)))
lines-then n m (Guards s p body after) b e =
    let inner = lines_at (suc n) body in
    ap (λ z. Test s p (past_if n body) ∷ (inner ++ z)) (lines-then (past_if n body) m after b (omega arith))
    ∙ ap (λ z. Test s p (past_if n body) ∷ z) (sym (append_assoc inner (lines_at (past_if n body) after) (lines_at m b)))

pub lines_push : (n : ℕ) (xs : List Stmt) (s : Stmt) → lines_at n (code_then (xs ++ s ∷ []) End) ≡ lines_at n (code_then xs End) ++ lines_at (n + size (code_then xs End)) (before s End)
lines_push n xs s =
    ap (lines_at n) (code_then-append xs (s ∷ []) End ∙ sym (code_then-rest xs (before s End)))
    ∙ lines-then n (n + size (code_then xs End)) (code_then xs End) (before s End) refl

-- one more statement
pub laid_on : (l0 l1 l2 : List held.Line) (xs : List Stmt) (s : Stmt) → map text_of l1 ≡ map text_of l0 ++ lines_at (length l0) (code_then xs End) → map text_of l2 ≡ map text_of l1 ++ lines_at (length l1) (before s End) → map text_of l2 ≡ map text_of l0 ++ lines_at (length l0) (code_then (xs ++ s ∷ []) End)
laid_on l0 l1 l2 xs s p q =
    let n = length l0 in
    let one = length-map l1 text_of in
    let zero_ = length-map l0 text_of in
    let two = ap length p in
    let three = length-append (map text_of l0) (lines_at n (code_then xs End)) in
    let four = length-lines_at n (code_then xs End) in
    let e : length l1 ≡ n + size (code_then xs End) = omega arith in
    q
    ∙ ap (λ z. z ++ lines_at (length l1) (before s End)) p
    ∙ append_assoc (map text_of l0) (lines_at n (code_then xs End)) (lines_at (length l1) (before s End))
    ∙ ap (λ m. map text_of l0 ++ (lines_at n (code_then xs End) ++ lines_at m (before s End))) e
    ∙ ap (λ z. map text_of l0 ++ z) (sym (lines_push n xs s))

text_with_exit : Line → ℕ → Line
text_with_exit (Head s b c old) exit = Head s b c exit
text_with_exit (Test s b old) exit = Test s b exit
text_with_exit l exit = l

text-with_exit : (l : held.Line) (exit : ℕ) → text_of (with_exit l exit) ≡ text_with_exit (text_of l) exit
unfolding text_with_exit
text-with_exit (held_line.Head s b c old) exit = refl
text-with_exit (held_line.Test s b old) exit = refl
text-with_exit _ exit = refl

map-get_or : {A B : Type 0} (f : A → B) (xs : List A) (n : ℕ) (d : A) → f (get_or xs n d) ≡ get_or (map f xs) n (f d)
map-get_or f [] n d = refl
map-get_or f (x ∷ xs) zero d = refl
map-get_or f (x ∷ xs) (suc n) d = map-get_or f xs n d

-- a loop: its head, its body, its end, and then the head's exit
pub laid_loop : (l0 l1 l2 l3 : List held.Line) (n exit : ℕ) (s : Start) (b : Expr) (c : Stride) (body : Vec Stmt Global) (h y : held.Line) → n ≡ length l0 → exit ≡ length l3 → map text_of l1 ≡ map text_of l0 ++ Head (start_of s) (formula_of b) (stride_of c) 0 ∷ [] → map text_of l2 ≡ map text_of l1 ++ lines_at (length l1) (code_then body.items End) → map text_of l3 ≡ map text_of l2 ++ Tail n ∷ [] → h ≡ get_or l3 n h → y ≡ with_exit h exit → map text_of (slice_set l3 n y) ≡ map text_of l0 ++ lines_at (length l0) (before (stmt.Loop s b c body) End)
unfolding text_with_exit
laid_loop l0 l1 l2 l3 n exit s b c body h y e6 e7 e1 e2 e3 e4 e5 =
    let code = code_then body.items End in
    let front = map text_of l0 in
    let head : ℕ → Line = λ exit. Head (start_of s) (formula_of b) (stride_of c) exit in
    let rest = lines_at (suc n) code ++ Tail n ∷ [] in
    let len0 : length front ≡ n = length-map l0 text_of ∙ sym e6 in
    let len1 : length l1 ≡ suc n = sym (length-map l1 text_of) ∙ ap length e1 ∙ length-append front (head 0 ∷ []) ∙ add-one (length front) ∙ ap suc len0 in
    let all : map text_of l3 ≡ front ++ head 0 ∷ rest =
    e3
    ∙ ap (λ z. z ++ Tail n ∷ []) (e2 ∙ ap (λ z. z ++ lines_at (length l1) code) e1)
    ∙ ap (λ m. ((front ++ head 0 ∷ []) ++ lines_at m code) ++ Tail n ∷ []) len1
    ∙ ap (λ z. z ++ Tail n ∷ []) (append_assoc front (head 0 ∷ []) (lines_at (suc n) code))
    ∙ append_assoc front (head 0 ∷ lines_at (suc n) code) (Tail n ∷ []) in
    let head_is : text_of h ≡ head 0 =
    ap text_of e4 ∙ map-get_or text_of l3 n h ∙ ap (λ z. get_or z n (text_of h)) all ∙ get_or_at front (head 0) rest (text_of h) n len0 in
    let exit_is : exit ≡ exit_of n code =
    (let a = sym (length-map l3 text_of) ∙ ap length all in
    let b = length-append front (head 0 ∷ rest) in
    let c = length-append (lines_at (suc n) code) (Tail n ∷ []) in
    let d = length-lines_at (suc n) code in
    omega arith) in
    let new_head : text_of y ≡ head (exit_of n code) =
    ap text_of e5 ∙ text-with_exit h exit ∙ ap (λ z. text_with_exit z exit) head_is ∙ ap head exit_is in
    map-set text_of l3 n y
    ∙ ap (λ z. slice_set z n (text_of y)) all
    ∙ set_at front (head 0) rest (text_of y) n len0
    ∙ ap (λ z. front ++ z ∷ rest) new_head
    ∙ ap (λ z. front ++ lines_at n z) (sym (before-Loop s b c body End))
    ∙ ap (λ m. front ++ lines_at m (before (stmt.Loop s b c body) End)) e6

-- an `if`: its test, its body, and then the test's exit
pub laid_if : (l0 l1 l2 : List held.Line) (n exit : ℕ) (s : Start) (b : Expr) (body : Vec Stmt Global) (h y : held.Line) → n ≡ length l0 → exit ≡ length l2 → map text_of l1 ≡ map text_of l0 ++ Test (start_of s) (formula_of b) 0 ∷ [] → map text_of l2 ≡ map text_of l1 ++ lines_at (length l1) (code_then body.items End) → h ≡ get_or l2 n h → y ≡ with_exit h exit → map text_of (slice_set l2 n y) ≡ map text_of l0 ++ lines_at (length l0) (before (stmt.If s b body) End)
unfolding text_with_exit
laid_if l0 l1 l2 n exit s b body h y e6 e7 e1 e2 e4 e5 =
    let code = code_then body.items End in
    let front = map text_of l0 in
    let test : ℕ → Line = λ exit. Test (start_of s) (formula_of b) exit in
    let rest = lines_at (suc n) code in
    let len0 : length front ≡ n = length-map l0 text_of ∙ sym e6 in
    let len1 : length l1 ≡ suc n = sym (length-map l1 text_of) ∙ ap length e1 ∙ length-append front (test 0 ∷ []) ∙ add-one (length front) ∙ ap suc len0 in
    let all : map text_of l2 ≡ front ++ test 0 ∷ rest =
    e2 ∙ ap (λ z. z ++ lines_at (length l1) code) e1
    ∙ ap (λ m. (front ++ test 0 ∷ []) ++ lines_at m code) len1
    ∙ append_assoc front (test 0 ∷ []) (lines_at (suc n) code) in
    let test_is : text_of h ≡ test 0 =
    ap text_of e4 ∙ map-get_or text_of l2 n h ∙ ap (λ z. get_or z n (text_of h)) all ∙ get_or_at front (test 0) rest (text_of h) n len0 in
    let exit_is : exit ≡ past_if n code =
    (let a = sym (length-map l2 text_of) ∙ ap length all in
    let b = length-append front (test 0 ∷ rest) in
    let d = length-lines_at (suc n) code in
    omega arith) in
    let new_test : text_of y ≡ test (past_if n code) =
    ap text_of e5 ∙ text-with_exit h exit ∙ ap (λ z. text_with_exit z exit) test_is ∙ ap test exit_is in
    map-set text_of l2 n y
    ∙ ap (λ z. slice_set z n (text_of y)) all
    ∙ set_at front (test 0) rest (text_of y) n len0
    ∙ ap (λ z. front ++ z ∷ rest) new_test
    ∙ ap (λ z. front ++ test (past_if n code) ∷ z) (sym (append-nil rest))
    ∙ ap (λ z. front ++ lines_at n z) (sym (before-If s b body End))
    ∙ ap (λ m. front ++ lines_at m (before (stmt.If s b body) End)) e6
