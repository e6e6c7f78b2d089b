-- One text at one line: what is left to do there is told by the lines.
use Rattle.std.proofs.Common.{◌≡◌, ℕ, ◌+◌, ◌-◌, ◌<◌, suc, List, [], ◌∷◌, ◌++◌, length, drop, Some, refl, sym, ap, ◌∙◌, subst, arith, append_assoc, length-append, length-drop}
use Rattle.std.specs.Prelude.{map, slice_get}
use Rattle.std.proofs.lemmas.List.{map-append}
use Rattle.kernel_tree.specs.Formula.{Formula}
use Rattle.kernel_tree.specs.Code.{Start, Stride, Statement, Code, End, Performs, Loops, Guards}
use Rattle.kernel_tree.specs.Item.{Frame, Item}
use Rattle.kernel_tree.specs.Places.{Place, place, around, untimed, place_of_item, turns_of as item_turns}
use Rattle.ndrange_machine.specs.Known.{turn_of, turns_of, numbers}
use Rattle.ndrange_machine.specs.Lines.{Line, Does, Test, Head, Tail, size, exit_of, past_if, lines_at, head_of, lines_after, IsLoop, AreLoops, IsAt}
use Rattle.ndrange_machine.proofs.Laying.{length-lines_at}

-- nothing, or the end of a loop's body
abbrev Closes : List Line → Type 0
Closes [] = Unit {0}
Closes (Tail h ∷ xs) = Unit {0}
Closes (Does s ∷ xs) = ⊥
Closes (Test s b n ∷ xs) = ⊥
Closes (Head s b c n ∷ xs) = ⊥

closes_after : (n : ℕ) (fs : List Frame) → Closes (lines_after n fs)
closes_after n [] = tt
closes_after n (f ∷ fs) = tt

unclosed : {A : Type 0} (xs ys : List Line) → Closes xs → xs ≡ ys → (Closes ys → ⊥) → A
unclosed xs ys c e bare = absurd (bare (subst Closes e c))

-- The first line tells the first statement

at_end : (n : ℕ) (zs : List Line) (b : Code) (ys : List Line) → Closes zs → zs ≡ lines_at n b ++ ys → End ≡ b
at_end n zs End ys c h = refl
at_end n zs (Performs s r) ys c h = unclosed zs _ c h (λ z. z)
at_end n zs (Loops s p k m r) ys c h = unclosed zs _ c h (λ z. z)
at_end n zs (Guards s p m r) ys c h = unclosed zs _ c h (λ z. z)

at_statement : (n : ℕ) (s : Statement) (zs : List Line) (b : Code) (ys : List Line) → Closes ys → Does s ∷ zs ≡ lines_at n b ++ ys → (r : Code) × (Performs s r ≡ b) × (zs ≡ lines_at (suc n) r ++ ys)
at_statement n s zs (Performs u r) ys c h =
    let p : s ≡ u = cc in
    let t : zs ≡ lines_at (suc n) r ++ ys = cc in
    (r, ap (λ z. Performs z r) p, t)
at_statement n s zs End ys c h = unclosed ys _ c (sym h) (λ z. z)
at_statement n s zs _ ys c h = cc

at_head : (n : ℕ) (s : Start) (p : Formula) (k : Stride) (exit : ℕ) (zs : List Line) (b : Code) (ys : List Line) → Closes ys → Head s p k exit ∷ zs ≡ lines_at n b ++ ys → (m : Code) × (r : Code) × (Loops s p k m r ≡ b) × (zs ≡ (lines_at (suc n) m ++ (Tail n ∷ lines_at (exit_of n m) r)) ++ ys)
at_head n s p k exit zs (Loops u w x m r) ys c h =
    let o : s ≡ u = cc in
    let q : p ≡ w = cc in
    let g : k ≡ x = cc in
    let t : zs ≡ (lines_at (suc n) m ++ (Tail n ∷ lines_at (exit_of n m) r)) ++ ys = cc in
    (m, r, ap (λ z. Loops z p k m r) o ∙ ap (λ z. Loops u z k m r) q ∙ ap (λ z. Loops u w z m r) g, t)
at_head n s p k exit zs End ys c h = unclosed ys _ c (sym h) (λ z. z)
at_head n s p k exit zs _ ys c h = cc

at_test : (n : ℕ) (s : Start) (p : Formula) (exit : ℕ) (zs : List Line) (b : Code) (ys : List Line) → Closes ys → Test s p exit ∷ zs ≡ lines_at n b ++ ys → (m : Code) × (r : Code) × (Guards s p m r ≡ b) × (exit ≡ past_if n m) × (zs ≡ (lines_at (suc n) m ++ lines_at (past_if n m) r) ++ ys)
at_test n s p exit zs (Guards u w m r) ys c h =
    let o : s ≡ u = cc in
    let q : p ≡ w = cc in
    let g : exit ≡ past_if n m = cc in
    let t : zs ≡ (lines_at (suc n) m ++ lines_at (past_if n m) r) ++ ys = cc in
    (m, r, ap (λ z. Guards z p m r) o ∙ ap (λ z. Guards u z m r) q, g, t)
at_test n s p exit zs End ys c h = unclosed ys _ c (sym h) (λ z. z)
at_test n s p exit zs _ ys c h = cc

-- two lists of one length at the front of one list
same_fronts : {A : Type 0} (a b xs ys : List A) → length a ≡ length b → a ++ xs ≡ b ++ ys → (a ≡ b) × (xs ≡ ys)
same_fronts [] [] xs ys e h = (refl, h)
same_fronts [] (y ∷ b) xs ys e h = absurd (omega arith)
same_fronts (x ∷ a) [] xs ys e h = absurd (omega arith)
same_fronts (x ∷ a) (y ∷ b) xs ys e h =
    let heads : x ≡ y = cc in
    let tails : a ++ xs ≡ b ++ ys = cc in
    let rest = same_fronts a b xs ys (omega arith) tails in
    (ap (λ z. z ∷ a) heads ∙ ap (λ z. y ∷ z) rest.0, rest.1)

abbrev Same : (n : ℕ) → Code → Code → List Line → List Line → Type 0
Same n a b xs ys = Closes xs → Closes ys → lines_at n a ++ xs ≡ lines_at n b ++ ys → (a ≡ b) × (xs ≡ ys)

same_code : (n : ℕ) (a b : Code) (xs ys : List Line) → Same n a b xs ys
same_code n End b xs ys cx cy h =
    let e = at_end n xs b ys cx h in
    (e, h ∙ ap (λ z. lines_at n z ++ ys) (sym e))
same_code n (Performs s r) b xs ys cx cy h =
    let t = at_statement n s (lines_at (suc n) r ++ xs) b ys cy h in
    let rest = same_code (suc n) r t.0 xs ys cx cy t.2 in
    (ap (Performs s) rest.0 ∙ t.1, rest.1)
same_code n (Loops s p c m r) b xs ys cx cy h =
    let t = at_head n s p c (exit_of n m) ((lines_at (suc n) m ++ (Tail n ∷ lines_at (exit_of n m) r)) ++ xs) b ys cy h in
    let left = sym (append_assoc (lines_at (suc n) m) (Tail n ∷ lines_at (exit_of n m) r) xs) in
    let right = append_assoc (lines_at (suc n) t.0) (Tail n ∷ lines_at (exit_of n t.0) t.1) ys in
    let inner = same_code (suc n) m t.0 (Tail n ∷ (lines_at (exit_of n m) r ++ xs)) (Tail n ∷ (lines_at (exit_of n t.0) t.1 ++ ys)) tt tt (left ∙ t.3 ∙ right) in
    let others = inner.1 in
    let after : lines_at (exit_of n m) r ++ xs ≡ lines_at (exit_of n t.0) t.1 ++ ys = cc in
    let rest = same_code (exit_of n m) r t.1 xs ys cx cy (after ∙ ap (λ z. lines_at (exit_of n z) t.1 ++ ys) (sym inner.0)) in
    (ap (λ z. Loops s p c z r) inner.0 ∙ ap (Loops s p c t.0) rest.0 ∙ t.2, rest.1)
same_code n (Guards s p m r) b xs ys cx cy h =
    let t = at_test n s p (past_if n m) ((lines_at (suc n) m ++ lines_at (past_if n m) r) ++ xs) b ys cy h in
    let left = sym (append_assoc (lines_at (suc n) m) (lines_at (past_if n m) r) xs) in
    let right = append_assoc (lines_at (suc n) t.0) (lines_at (past_if n t.0) t.1) ys in
    let one = length-lines_at (suc n) m in
    let two = length-lines_at (suc n) t.0 in
    let exits = t.3 in
    let fronts = same_fronts (lines_at (suc n) m) (lines_at (suc n) t.0) (lines_at (past_if n m) r ++ xs) (lines_at (past_if n t.0) t.1 ++ ys) (omega arith) (left ∙ t.4 ∙ right) in
    let inner = same_code (suc n) m t.0 [] [] tt tt (ap (λ z. z ++ []) fronts.0) in
    let rest = same_code (past_if n m) r t.1 xs ys cx cy (fronts.1 ∙ ap (λ z. lines_at (past_if n z) t.1 ++ ys) (sym inner.0)) in
    (ap (λ z. Guards s p z r) inner.0 ∙ ap (Guards s p t.0) rest.0 ∙ t.2, rest.1)

abbrev turn_numbers : List Frame → List ℕ
turn_numbers fs = map (λ f. f.turn) fs

snoc : {A : Type 0} (xs ys : List A) (x y : A) → xs ++ x ∷ [] ≡ ys ++ y ∷ [] → (xs ≡ ys) × (x ≡ y)
snoc [] [] x y h = (refl, cc)
snoc [] (b ∷ ys) x y h = let n = ap length h in let a = length-append ys (y ∷ []) in absurd (omega arith)
snoc (a ∷ xs) [] x y h = let n = ap length h in let b = length-append xs (x ∷ []) in absurd (omega arith)
snoc (a ∷ xs) (b ∷ ys) x y h =
    let heads : a ≡ b = cc in
    let tails : xs ++ x ∷ [] ≡ ys ++ y ∷ [] = cc in
    let rest = snoc xs ys x y tails in
    (ap (λ z. z ∷ xs) heads ∙ ap (λ z. b ∷ z) rest.0, rest.1)

numbers_push : (fs : List Frame) (f : Frame) → numbers (turns_of (f ∷ fs)) ≡ numbers (turns_of fs) ++ f.turn ∷ []
numbers_push fs f = map-append (λ t. t.number) (turns_of fs) (turn_of f ∷ [])

same_turns : (fs gs : List Frame) → numbers (turns_of fs) ≡ numbers (turns_of gs) → turn_numbers fs ≡ turn_numbers gs
same_turns [] [] h = refl
same_turns [] (g ∷ gs) h = let n = ap length (h ∙ numbers_push gs g) in let a = length-append (numbers (turns_of gs)) (g.turn ∷ []) in absurd (omega arith)
same_turns (f ∷ fs) [] h = let n = ap length (sym (numbers_push fs f) ∙ h) in let a = length-append (numbers (turns_of fs)) (f.turn ∷ []) in absurd (omega arith)
same_turns (f ∷ fs) (g ∷ gs) h =
    let both = snoc (numbers (turns_of fs)) (numbers (turns_of gs)) f.turn g.turn (sym (numbers_push fs f) ∙ h ∙ numbers_push gs g) in
    ap (λ z. z ∷ turn_numbers fs) both.1 ∙ ap (λ z. g.turn ∷ z) (same_turns fs gs both.0)

same_numbers : (fs gs : List Frame) → turn_numbers fs ≡ turn_numbers gs → numbers (turns_of fs) ≡ numbers (turns_of gs)
same_numbers [] [] h = refl
same_numbers [] (g ∷ gs) h = cc
same_numbers (f ∷ fs) [] h = cc
same_numbers (f ∷ fs) (g ∷ gs) h =
    let head : f.turn ≡ g.turn = cc in
    let tail : turn_numbers fs ≡ turn_numbers gs = cc in
    numbers_push fs f ∙ ap (λ z. z ++ f.turn ∷ []) (same_numbers fs gs tail) ∙ ap (λ z. numbers (turns_of gs) ++ z ∷ []) head ∙ sym (numbers_push gs g)

-- the loops at one line
module _ (lines : List Line) where
  same_loop : (n : ℕ) (f g : Frame) (fs gs : List Frame) → IsLoop lines n f fs → IsLoop lines n g gs → head_of n f ≡ head_of n g → (f.bound ≡ g.bound) × (f.stride ≡ g.stride) × (f.body ≡ g.body)
  same_loop n f g fs gs a b h =
      let heads : Head a.start f.bound f.stride (suc n) ≡ Head b.start g.bound g.stride (suc n) = (let e : Some (Head a.start f.bound f.stride (suc n)) ≡ Some (Head b.start g.bound g.stride (suc n)) = sym a.head ∙ ap (slice_get lines) h ∙ b.head in cc) in
      let bounds : f.bound ≡ g.bound = cc in
      let strides : f.stride ≡ g.stride = cc in
      let bodies = same_code (suc (head_of n f)) f.body g.body (lines_after n (f ∷ fs)) (lines_after n (g ∷ gs)) tt tt
      (sym a.body ∙ ap (λ z. drop (suc z) lines) h ∙ b.body ∙ ap (λ z. lines_at (suc z) g.body ++ lines_after n (g ∷ gs)) (sym h)) in
      (bounds, strides, bodies.0)

  -- but for their turns
  same_loops : (n : ℕ) (fs gs : List Frame) → AreLoops lines n fs → AreLoops lines n gs → lines_after n fs ≡ lines_after n gs → map untimed fs ≡ map untimed gs
  same_loops n [] [] a b h = refl
  same_loops n [] (g ∷ gs) a b h = cc
  same_loops n (f ∷ fs) [] a b h = cc
  same_loops n (f ∷ fs) (g ∷ gs) a b h =
      let heads : head_of n f ≡ head_of n g = cc in
      let tails : lines_at (suc n) f.after ++ lines_after (suc n + size f.after) fs ≡ lines_at (suc n) g.after ++ lines_after (suc n + size g.after) gs = cc in
      let rest = same_code (suc n) f.after g.after (lines_after (suc n + size f.after) fs) (lines_after (suc n + size g.after) gs) (closes_after _ fs) (closes_after _ gs) tails in
      let same = same_loop n f g fs gs a.0 b.0 heads in
      let far : suc n + size g.after ≡ suc n + size f.after = ap (λ z. suc n + size z) (sym rest.0) in
      let more = same_loops (suc n + size f.after) fs gs a.1 (subst (λ z. AreLoops lines z gs) far b.1) (rest.1 ∙ ap (λ z. lines_after z gs) far) in
      λ i. around (same.0 i) (same.1 i) (same.2 i) (rest.0 i) ∷ more i

  -- at one line, in turns of the same numbers, the same is left to do
  pub same_rest : (n : ℕ) (x y : Item) → IsAt lines n x → IsAt lines n y → numbers (turns_of x.frames) ≡ numbers (turns_of y.frames) → (place_of_item x ≡ place_of_item y) × (item_turns x ≡ item_turns y)
  same_rest n x y a b t =
      let whole : lines_at n x.code ++ lines_after a.end x.frames ≡ lines_at n y.code ++ lines_after b.end y.frames = sym a.from ∙ b.from in
      let same = same_code n x.code y.code (lines_after a.end x.frames) (lines_after b.end y.frames) (closes_after a.end x.frames) (closes_after b.end y.frames) whole in
      let end : b.end ≡ a.end = b.counts ∙ ap (λ z. n + size z) (sym same.0) ∙ sym a.counts in
      let loops = same_loops a.end x.frames y.frames a.loops (subst (λ z. AreLoops lines z y.frames) end b.loops) (same.1 ∙ ap (λ z. lines_after z y.frames) end) in
      (λ i. place (same.0 i) (loops i), same_turns x.frames y.frames t)

  -- how many lines are left
  abbrev left_after : List Frame → ℕ
  left_after [] = 0
  left_after (f ∷ fs) = suc (size f.after + left_after fs)

  length_after : (n : ℕ) (fs : List Frame) → length (lines_after n fs) ≡ left_after fs
  length_after n [] = refl
  length_after n (f ∷ fs) =
      let a = length-append (lines_at (suc n) f.after) (lines_after (suc n + size f.after) fs) in
      let b = length-lines_at (suc n) f.after in
      let c = length_after (suc n + size f.after) fs in
      omega arith

  same_left : (fs gs : List Frame) → map untimed fs ≡ map untimed gs → left_after fs ≡ left_after gs
  same_left [] [] h = refl
  same_left [] (g ∷ gs) h = cc
  same_left (f ∷ fs) [] h = cc
  same_left (f ∷ fs) (g ∷ gs) h =
      let head : untimed f ≡ untimed g = cc in
      let tail : map untimed fs ≡ map untimed gs = cc in
      let after : size f.after ≡ size g.after = ap (λ (z : Frame). size z.after) head in
      let rest = same_left fs gs tail in
      omega arith

  lines_left : (n : ℕ) (x : Item) → IsAt lines n x → length lines - n ≡ size x.code + left_after x.frames
  lines_left n x a =
      let whole = ap length a.from in
      let dropped = length-drop n lines in
      let joined = length-append (lines_at n x.code) (lines_after a.end x.frames) in
      let code = length-lines_at n x.code in
      let loops = length_after a.end x.frames in
      omega arith

  -- where the same is left to do, it is at one line, in turns of the same numbers
  pub same_place : (n m : ℕ) (x y : Item) → IsAt lines n x → IsAt lines m y → n < length lines → m < length lines → place_of_item x ≡ place_of_item y → item_turns x ≡ item_turns y → (n ≡ m) × (numbers (turns_of x.frames) ≡ numbers (turns_of y.frames))
  same_place n m x y a b low high at turns =
      let p = lines_left n x a in
      let q = lines_left m y b in
      let sizes : size x.code ≡ size y.code = ap (λ (z : Place). size z.code) at in
      let rest = same_left x.frames y.frames (ap (λ (z : Place). z.loops) at) in
      (omega arith, same_numbers x.frames y.frames turns)
