-- What the machine's lines say, and what they want.
use Rattle.std.specs.Prelude.{ℕ, ◌+◌, ◌-◌, ◌%◌, ◌^◌, List, Option, Some, None, length, slice_get, nat_lt, if◌then◌else◌}
use Rattle.kernel_tree.specs.Formula.{Formula, Ids, Vars, value, bound_value, lanes_value}
use Rattle.kernel_tree.specs.Code.{Start, start_value, stride_value, Assigns, Loads, Stores, AssignsFour, LoadsFour, StoresFour, Syncs}
use Rattle.kernel_tree.specs.Tree.{formula_of, lanes_of, array_of, start_of, stride_of}
use Rattle.kernel_tree.specs.declared.events.FaultKind.TheVariants.{ZeroDivisor, LoopWrap}
use Rattle.kernel_tree.specs.declared.tree.Stride.{Stride}
use Rattle.ndrange_machine.specs.declared.line.Line.{Line}
use Rattle.ndrange_machine.specs.declared.line.Line.TheVariants.{Assign, Load, Store, AssignFour, LoadFour, StoreFour, Test, Head, Tail, Barrier}
use Rattle.ndrange_machine.specs.declared.change.Change.TheVariants.{Sets, SetsFour, Begins, Repeats, Leaves, Keeps}
use Rattle.ndrange_machine.specs.declared.turn.Turn.{Turn}
use Rattle.ndrange_machine.specs.declared.want.Want.{Want}
use Rattle.ndrange_machine.specs.declared.want.Want.TheVariants.{Ends, Waits, Fails, Changes, Reads, Writes, ReadsFour, WritesFour}
use Rattle.ndrange_machine.specs.ItemView.{ItemView}
use Rattle.ndrange_machine.specs.Known.{held_four, variables}
use Rattle.ndrange_machine.specs.Lines as text

-- a line, whatever holds its expressions
abbrev pub text_of : Line → text.Line
text_of (Assign v e) = text.Does (Assigns v (formula_of e))
text_of (Load v a i) = text.Does (Loads v (array_of a) (formula_of i))
text_of (Store a i e) = text.Does (Stores (array_of a) (formula_of i) (formula_of e))
text_of (AssignFour v e) = text.Does (AssignsFour v (lanes_of e))
text_of (LoadFour v a i) = text.Does (LoadsFour v (array_of a) (formula_of i))
text_of (StoreFour a i e) = text.Does (StoresFour (array_of a) (formula_of i) (lanes_of e))
text_of (Test s b exit) = text.Test (start_of s) (formula_of b) exit
text_of (Head s b c exit) = text.Head (start_of s) (formula_of b) (stride_of c) exit
text_of (Tail head) = text.Tail head
text_of (Barrier on_local on_global) = text.Does (Syncs on_local on_global)

-- the same line with another exit, where its kind has one
abbrev pub with_exit : Line → ℕ → Line
with_exit (Head s b c old) exit = Head s b c exit
with_exit (Test s b old) exit = Test s b exit
with_exit line exit = line

-- the innermost loop's turn
abbrev pub last_of : List Turn → Option Turn
last_of turns = slice_get turns (length turns - 1)

-- an expression without a value fails
abbrev pub want_if : {A : Type 0} → Option A → (A → Want) → Want
want_if None go = Fails ZeroDivisor
want_if (Some x) go = go x

-- at the head of the loop on line n
abbrev pub want_head : Ids → Start → Formula → (n exit : ℕ) → Want
want_head ids s b n exit =
    want_if (bound_value ids.sizes b)
    (λ k. if nat_lt (start_value ids s) k then Changes
    (Begins (record { number = 0; variable = start_value ids s }))
    (n + 1) else Changes Keeps exit)

-- at the test of the `if` on line n
abbrev pub want_test : Ids → Start → Formula → (n exit : ℕ) → Want
want_test ids s b n exit =
    want_if (bound_value ids.sizes b)
    (λ k. if nat_lt (start_value ids s) k then Changes Keeps (n + 1) else Changes Keeps exit)

-- the turn after this one, whose variable is x
abbrev pub turn_after : Turn → (x : ℕ) → Turn
turn_after t x = record { number = (t.number + 1) % 2 ^ 32; variable = x }

-- at the end of the body of the loop with this head, after this turn, where the next turn's
-- variable would be x
abbrev pub want_turn : (sizes : List ℕ) → Formula → Turn → (x head exit : ℕ) → Want
want_turn sizes b t x head exit =
    want_if (bound_value sizes b)
    (λ k. if nat_lt x (2 ^ 32) then
    (if nat_lt x k then Changes (Repeats (turn_after t x))
    (head + 1) else Changes Leaves exit) else Fails LoopWrap)

-- the same after the innermost loop's turn, if there is one; an item in no loop has ended
abbrev pub want_last : Ids → Formula → Stride → (head exit : ℕ) → Option Turn → Want
want_last ids b c head exit None = Ends
want_last ids b c head exit (Some t) =
    want_turn ids.sizes b t (t.variable + stride_value ids (stride_of c)) head exit

-- the same in these turns, where the head's line is this; one that is no head ends the item
abbrev pub want_back : Ids → List Turn → (head : ℕ) → Option Line → Want
want_back ids turns head (Some (Head s b c exit)) =
    want_last ids (formula_of b) c head exit (last_of turns)
want_back ids turns head _ = Ends

-- the same where the head is the line of this number
abbrev pub want_tail : List Line → Ids → (head : ℕ) → List Turn → Want
want_tail lines ids head turns = want_back ids turns head (slice_get lines head)

-- at line n, which reads so; past the last line the item has ended
abbrev pub want_in : List Line → Ids → (n : ℕ) → List Turn → (vars : Vars) → Option Line → Want
want_in lines ids n turns vars None = Ends
want_in lines ids n turns vars (Some (Assign v e)) =
    want_if (value ids (variables turns) vars (formula_of e)) (λ x. Changes (Sets v x) (n + 1))
want_in lines ids n turns vars (Some (Load v a i)) =
    want_if (value ids (variables turns) vars (formula_of i)) (λ k. Reads v a k (n + 1))
want_in lines ids n turns vars (Some (Store a i e)) =
    want_if (value ids (variables turns) vars (formula_of i))
    (λ k. want_if (value ids (variables turns) vars (formula_of e)) (λ x. Writes a k x (n + 1)))
want_in lines ids n turns vars (Some (AssignFour v e)) =
    want_if (lanes_value ids (variables turns) vars (lanes_of e))
    (λ u. Changes (SetsFour v (held_four u)) (n + 1))
want_in lines ids n turns vars (Some (LoadFour v a i)) =
    want_if (value ids (variables turns) vars (formula_of i)) (λ k. ReadsFour v a k (n + 1))
want_in lines ids n turns vars (Some (StoreFour a i e)) =
    want_if (value ids (variables turns) vars (formula_of i))
    (λ k. want_if (lanes_value ids (variables turns) vars (lanes_of e))
    (λ u. WritesFour a k (held_four u) (n + 1)))
want_in lines ids n turns vars (Some (Test s b exit)) =
    want_test ids (start_of s) (formula_of b) n exit
want_in lines ids n turns vars (Some (Head s b c exit)) =
    want_head ids (start_of s) (formula_of b) n exit
want_in lines ids n turns vars (Some (Tail head)) = want_tail lines ids head turns
want_in lines ids n turns vars (Some (Barrier on_local on_global)) =
    Waits on_local on_global (n + 1)

-- what an item wants at line n
abbrev pub want_line : List Line → Ids → (n : ℕ) → List Turn → (vars : Vars) → Want
want_line lines ids n turns vars = want_in lines ids n turns vars (slice_get lines n)

-- what an item wants that knows this
abbrev pub wanted : List Line → Ids → ItemView → Want
wanted lines ids it = want_line lines ids it.line it.turns it.vars
