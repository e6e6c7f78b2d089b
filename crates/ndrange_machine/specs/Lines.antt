-- The lines of a kernel's text, and where in them a work-item stands.
use Rattle.std.specs.Prelude.{◌≡◌, ℕ, ◌+◌, ◌-◌, ◌≤◌, suc, max, List, [], ◌∷◌, ◌++◌, Some, length, drop, slice_get}
use Rattle.kernel_tree.specs.Formula.{Formula}
use Rattle.kernel_tree.specs.Code.{Start, Stride, Statement, Code, End, Performs, Loops, Guards}
use Rattle.kernel_tree.specs.Item.{Frame, Item}

-- a statement without a block is one line. A loop's head tells the line after the loop, and the
-- line at the end of its body the head. The test of an `if` tells the line after its body
pub data Line : Type 0 where
  Does : Statement → Line
  Test : Start → (bound : Formula) → (exit : ℕ) → Line
  Head : Start → (bound : Formula) → Stride → (exit : ℕ) → Line
  Tail : (head : ℕ) → Line

-- how many lines
abbrev pub size : Code → ℕ
size End = 0
size (Performs s after) = suc (size after)
size (Loops s b c body after) = suc (size body + suc (size after))
size (Guards s b body after) = suc (size body + size after)

-- how many loops stand around one another at most
abbrev pub depth : Code → ℕ
depth End = 0
depth (Performs s after) = depth after
depth (Loops s b c body after) = max (suc (depth body)) (depth after)
depth (Guards s b body after) = max (depth body) (depth after)

-- in how many loops an item is past the line, which was in so many
abbrev pub past_line : Line → (inside : ℕ) → ℕ
past_line (Head s b c exit) inside = inside + 1
past_line (Tail head) inside = inside - 1
past_line (Test s b exit) inside = inside
past_line (Does s) inside = inside

-- the line after a loop whose head is at line n
abbrev pub exit_of : ℕ → Code → ℕ
exit_of n body = suc (suc (n + size body))

-- the line after the body of an `if` whose test is at line n
abbrev pub past_if : ℕ → Code → ℕ
past_if n body = suc n + size body

-- the lines of statements that begin at line n
abbrev pub lines_at : ℕ → Code → List Line
lines_at n End = []
lines_at n (Performs s after) = Does s ∷ lines_at (suc n) after
lines_at n (Guards s b body after) =
    Test s b (past_if n body) ∷ (lines_at (suc n) body ++ lines_at (past_if n body) after)
lines_at n (Loops s b c body after) =
    Head s b c (exit_of n body)
    ∷ (lines_at (suc n) body ++ (Tail n ∷ lines_at (exit_of n body) after))

-- the head of a loop whose body ends at line n
abbrev pub head_of : ℕ → Frame → ℕ
head_of n f = n - suc (size f.body)

-- the lines from line n on, where the innermost of these loops has its body's end
abbrev pub lines_after : ℕ → List Frame → List Line
lines_after n [] = []
lines_after n (f ∷ fs) =
    Tail (head_of n f) ∷ (lines_at (suc n) f.after ++ lines_after (suc n + size f.after) fs)

-- a loop whose body ends at line n, inside the loops fs
pub record IsLoop (lines : List Line) (n : ℕ) (f : Frame) (fs : List Frame) : Type 0 where
  pub start : Start
  pub low : suc (size f.body) ≤ n
  pub head : slice_get lines (head_of n f) ≡ Some (Head start f.bound f.stride (suc n))
  pub body : drop (suc (head_of n f)) lines ≡ lines_at (suc (head_of n f)) f.body
      ++ lines_after n (f ∷ fs)

-- the innermost of these loops ends its body at line n, and each other one further on
abbrev pub AreLoops : List Line → ℕ → List Frame → Type 0
AreLoops lines n [] = Unit {0}
AreLoops lines n (f ∷ fs) = IsLoop lines n f fs × AreLoops lines (suc n + size f.after) fs

-- from line n on the lines are what an item has left to do
pub record IsAt (lines : List Line) (n : ℕ) (x : Item) : Type 0 where
  pub end : ℕ
  pub counts : end ≡ n + size x.code
  pub from : drop n lines ≡ lines_at n x.code ++ lines_after end x.frames
  pub loops : AreLoops lines end x.frames

-- there is room for the turns of all loops that an item in these loops may still enter
abbrev pub HaveRoom : (room : ℕ) → List Frame → Type 0
HaveRoom room [] = Unit {0}
HaveRoom room (f ∷ fs) =
    (suc (length fs) + depth f.body ≤ room) × (length fs + depth f.after ≤ room) × HaveRoom room fs

-- no turn's number is above its variable
abbrev pub AreNumbered : List Frame → Type 0
AreNumbered [] = Unit {0}
AreNumbered (f ∷ fs) = (f.turn ≤ f.variable) × AreNumbered fs
