-- One work-item: where it stands, and what it wants to do next.
use Rattle.std.specs.Prelude.{ℕ, suc, ◌+◌, ◌^◌, Bool, List, [], ◌∷◌, ◌++◌, Option, Some, None, nat_lt, if◌then◌else◌}
use Rattle.kernel_tree.specs.declared.events.FaultKind.{FaultKind}
use Rattle.kernel_tree.specs.declared.events.FaultKind.TheVariants.{ZeroDivisor, LoopWrap}
use Rattle.kernel_tree.specs.Formula.{Formula, Ids, Vars, Four, set_word, set_vector, value, bound_value, lanes_value}
use Rattle.kernel_tree.specs.Code.{Array, Start, Stride, start_value, stride_value, Statement, Code, End, Performs, Assigns, Loads, Stores, AssignsFour, LoadsFour, StoresFour, Loops, Guards, Syncs, then_rest}

-- a loop that a work-item is in
pub record Frame : Type 0 where
  pub turn : ℕ  -- the number of this turn, from 0
  pub variable : ℕ  -- the loop variable's value
  pub bound : Formula
  pub stride : Stride
  pub body : Code
  pub after : Code

-- a place in the text is what is left to do there: the rest of the innermost loop's body, and the
-- loops around it, innermost first. Within an `if` the rest of its body is followed by what comes
-- after it, so an `if` is no frame, and to leave it is no event
pub record Item : Type 0 where
  pub code : Code
  pub frames : List Frame
  pub vars : Vars

-- an item at this place with these variables
abbrev pub item : Code → List Frame → Vars → Item
item code frames vars = record { code = code; frames = frames; vars = vars }

-- the values of the loop variables, outermost first
abbrev pub loop_variables : List Frame → List ℕ
loop_variables [] = []
loop_variables (f ∷ fs) = loop_variables fs ++ f.variable ∷ []

-- what a work-item does next: at a barrier it waits with its flags. An offset counts an array's
-- cells in fours
pub data Wants : Type 0 where
  Ends : Wants
  Waits : (on_local on_global : Bool) → (after : Item) → Wants
  Moves : (after : Item) → Wants
  Reads : (array : Array) → (index : ℕ) → (after : ℕ → Item) → Wants
  Writes : (array : Array) → (index value : ℕ) → (after : Item) → Wants
  ReadsFour : (array : Array) → (offset : ℕ) → (after : Four → Item) → Wants
  WritesFour : (array : Array) → (offset : ℕ) → (value : Four) → (after : Item) → Wants
  Fails : FaultKind → Wants

-- an expression without a value fails
abbrev pub with_value : {A : Type 0} → Option A → (A → Wants) → Wants
with_value None go = Fails ZeroDivisor
with_value (Some x) go = go x

-- the test of a loop at the bound b: another turn, or past it
abbrev pub tested : ℕ → Frame → List Frame → Vars → Wants
tested b f fs vars =
    Moves (if nat_lt f.variable b then item f.body (f ∷ fs) vars else item f.after fs vars)

-- the loop as an item enters it
abbrev pub first_turn : Ids → Start → Formula → Stride → (body after : Code) → Frame
first_turn ids s b c body after = record {
  turn = 0;
  variable = start_value ids s;
  bound = b;
  stride = c;
  body = body;
  after = after;
}

-- the loop, one turn further
abbrev pub next_turn : Ids → Frame → Frame
next_turn ids f = record {
  turn = suc f.turn;
  variable = f.variable + stride_value ids f.stride;
  bound = f.bound;
  stride = f.stride;
  body = f.body;
  after = f.after;
}

-- what an item does next that performs a statement, and goes on with these variables
abbrev pub perform : Ids → (loops : List ℕ) → Vars → Statement → (on : Vars → Item) → Wants
perform ids loops vars (Assigns v e) on =
    with_value (value ids loops vars e)
    (λ x. Moves (on (set_word vars v x)))
perform ids loops vars (Loads v a i) on =
    with_value (value ids loops vars i)
    (λ n. Reads a n (λ x. on (set_word vars v x)))
perform ids loops vars (Stores a i e) on =
    with_value (value ids loops vars i)
    (λ n. with_value (value ids loops vars e)
    (λ x. Writes a n x (on vars)))
perform ids loops vars (AssignsFour v e) on =
    with_value (lanes_value ids loops vars e)
    (λ u. Moves (on (set_vector vars v u)))
perform ids loops vars (LoadsFour v a i) on =
    with_value (value ids loops vars i)
    (λ n. ReadsFour a n (λ u. on (set_vector vars v u)))
perform ids loops vars (StoresFour a i e) on =
    with_value (value ids loops vars i)
    (λ n. with_value (lanes_value ids loops vars e)
    (λ u. WritesFour a n u (on vars)))
perform ids loops vars (Syncs on_local on_global) on = Waits on_local on_global (on vars)

-- what an item does next that stands at this place
abbrev pub next_at : Ids → Code → List Frame → Vars → Wants
next_at ids End [] vars = Ends
next_at ids End (f ∷ fs) vars =
    with_value (bound_value ids.sizes f.bound)
    (λ b. if nat_lt (f.variable + stride_value ids f.stride) (2 ^ 32)
    then tested b (next_turn ids f) fs vars
    else Fails LoopWrap)
next_at ids (Performs s after) fs vars =
    perform ids (loop_variables fs) vars s (λ then_vars. item after fs then_vars)
next_at ids (Loops s b c body after) fs vars =
    with_value (bound_value ids.sizes b)
    (λ n. tested n (first_turn ids s b c body after) fs vars)
next_at ids (Guards s b body after) fs vars =
    with_value (bound_value ids.sizes b)
    (λ n. Moves (if nat_lt (start_value ids s) n
    then item (then_rest body after) fs vars
    else item after fs vars))

-- what an item does next
unfoldable pub next : Ids → Item → Wants
next ids x = next_at ids x.code x.frames x.vars
