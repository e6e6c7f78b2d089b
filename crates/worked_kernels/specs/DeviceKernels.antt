-- Small kernels whose runs, faults and bounds are known.
use Rattle.std.specs.Prelude.{ℕ, zero, suc, Bool, true, false, List, [], ◌∷◌, ◌++◌, Option, None, replicate}
use Rattle.scalar_ops.specs.declared.op.Op.TheVariants.{Add, Sub, Div}
use Rattle.kernel_tree.specs.declared.events.Event.{Event}
use Rattle.kernel_tree.specs.declared.events.Event.TheVariants.{Step, Release}
use Rattle.kernel_tree.specs.declared.events.FaultKind.{FaultKind}
use Rattle.kernel_tree.specs.declared.tree.Dimension.TheVariants.{X}
use Rattle.kernel_tree.specs.Formula.{Formula, Number, Variable, LoopVariable, Size, Id, LocalId, Binary, Choose, Equal, Four, Vector, Spread, spread, Each, Vars, no_vars}
use Rattle.kernel_tree.specs.Code.{Input, Output, Local, Private, FromZero, FromGlobalId, FromLocalId, ByOne, Code, End, Performs, Assigns, Loads, Stores, AssignsFour, LoadsFour, StoresFour, Loops, Guards, Syncs, Kernel}
use Rattle.kernel_tree.specs.Launch.{Launch, in_a_row, Cells}
use Rattle.kernel_tree.specs.Item.{Item, item, Wants, WritesFour}
use Rattle.kernel_tree.specs.Device.{Device, device_of, State, start_state, run, IsRun}
use Rattle.kernel_tree.specs.Faults.{FaultIs}

-- an input, an output, a local array of two cells and a private one of one
abbrev pub one_output : Code → Kernel
one_output code = record {
  inputs = 1;
  outputs = 1;
  sizes = 0;
  locals = 2 ∷ [];
  privates = 1 ∷ [];
  variables = 1;
  vectors = 0;
  local = None;
  code = code;
}

-- an output of one cell
abbrev pub one_cell : Cells
one_cell = record { ins = [] ∷ []; outs = (0 ∷ []) ∷ []; rest = 0 }

-- an output of two cells
abbrev pub two_cells : Cells
two_cells = record { ins = [] ∷ []; outs = (0 ∷ 0 ∷ []) ∷ []; rest = 0 }

-- after these events of the kernel's run the next has this fault, or none
abbrev pub Faults : Code → (global local : ℕ) → List Event → Event → Option FaultKind → Type 0
Faults code global local es e kind =
    let k = one_output code in
    let d = device_of k (in_a_row global local []) one_cell in
    let s = start_state k one_cell in
    IsRun d s es × FaultIs d s es e kind

-- o0[0u] = 1u;
abbrev pub writes_first : Code
writes_first = Performs (Stores (Output 0) (Number 0) (Number 1)) End

-- o0[1u] = 1u;
abbrev pub writes_second : Code
writes_second = Performs (Stores (Output 0) (Number 1) (Number 1)) End

-- l0[0u] = 1u;
abbrev pub writes_local : Code
writes_local = Performs (Stores (Local 0) (Number 0) (Number 1)) End

-- p0[0u] = 1u;
abbrev pub writes_private : Code
writes_private = Performs (Stores (Private 0) (Number 0) (Number 1)) End

-- v0 = (1u / 0u);
abbrev pub divides_by_zero : Code
divides_by_zero = Performs (Assigns 0 (Binary Div (Number 1) (Number 0))) End

-- barrier(CLK_LOCAL_MEM_FENCE); and the rest
abbrev pub meets : (after : Code) → Code
meets after = Performs (Syncs true false) after

-- a barrier without a flag
abbrev pub unflagged : Code
unflagged = Performs (Syncs false false) End

-- for (uint i0 = (uint)get_local_id(0); i0 < 1u; i0 += 1u) { barrier(CLK_LOCAL_MEM_FENCE); }
abbrev pub some_meet_a_barrier : Code
some_meet_a_barrier = Loops (FromLocalId X) (Number 1) ByOne (meets End) End

-- l0[local id] = 1u; barrier(..); v0 = l0[(1u - local id)];
abbrev pub swaps : (on_local on_global : Bool) → Code
swaps on_local on_global =
    Performs (Stores (Local 0) (Id X LocalId) (Number 1))
    (Performs (Syncs on_local on_global)
    (Performs (Loads 0 (Local 0) (Binary Sub (Number 1) (Id X LocalId))) End))

-- two items of one group come to the barrier, and are released
abbrev pub to_the_barrier : List Event
to_the_barrier = Step 0 ∷ Step 1 ∷ Release 0 ∷ []

-- for (uint i0 = 0u; i0 < s0; i0 += 1u) { v0 = a0[i0]; o0[i0] = (v0 + 1u); }
abbrev pub increments : Kernel
increments = record {
  inputs = 1;
  outputs = 1;
  sizes = 1;
  locals = [];
  privates = [];
  variables = 1;
  vectors = 0;
  local = None;
  code =
      Loops FromZero (Size 0) ByOne
      (Performs (Loads 0 (Input 0) (LoopVariable 0))
      (Performs (Stores (Output 0) (LoopVariable 0) (Binary Add (Variable 0) (Number 1))) End))
      End;
}

-- three words in, and three out
abbrev pub three_words : Cells
three_words =
    record { ins = (1 ∷ 2 ∷ 4294967295 ∷ []) ∷ []; outs = (7 ∷ 7 ∷ 7 ∷ []) ∷ []; rest = 9 }

-- one item, and the size 3
abbrev pub of_three : Launch
of_three = in_a_row 1 1 (3 ∷ [])

-- an expression that nests this deep
abbrev pub nested : ℕ → Formula
nested zero = Number 0
nested (suc n) = Binary Add (nested n) (Number 0)

-- the state after ten steps of the item
abbrev pub after_three : State
after_three =
    run (device_of increments of_three three_words) (start_state increments three_words)
    (replicate 10 (Step 0))

-- what the kernel leaves in its output
abbrev pub left_at : ℕ → ℕ
left_at i = after_three.memory (record { array = Output 0; home = 0; index = i })

-- two items that write one cell, at first
abbrev pub two_items : Device
two_items = device_of (one_output writes_first) (in_a_row 2 1 []) one_cell

-- where they begin
abbrev pub first_state : State
first_state = start_state (one_output writes_first) one_cell

-- four items in groups of two
abbrev pub of_two_groups : Launch
of_two_groups = in_a_row 4 2 []

-- six items in groups of two
abbrev pub of_six : Launch
of_six = in_a_row 6 2 []

-- two items in one group
abbrev pub one_group : Launch
one_group = in_a_row 2 2 []

-- ((0u == 0u) ? 1u : (1u / 0u))
abbrev pub divides_unchosen : Formula
divides_unchosen = Choose Equal (Number 0) (Number 0) (Number 1) (Binary Div (Number 1) (Number 0))

-- for (uint i0 = 0u; i0 < (1u / 0u); i0 += 1u) { v0 = 0u; }
abbrev pub without_a_bound : Code
without_a_bound =
    Loops FromZero (Binary Div (Number 1) (Number 0)) ByOne
    (Performs (Assigns 0 (Number 0)) End) End

-- an item at the end of a turn of a loop up to 4294967295u, its variable at this word
abbrev pub ends_a_turn : (variable : ℕ) → Item
ends_a_turn v =
    item End
    (record {
      turn = 0;
      variable = v;
      bound = Number 4294967295;
      stride = ByOne;
      body = End;
      after = End;
    }
    ∷ [])
    no_vars

-- for (uint i0 = 0u; i0 < 2u; i0 += 1u) { for (uint i1 = (uint)get_local_id(0); i1 < 2u; i1 += 1u)
-- { barrier(..); } }
abbrev pub meets_in_loops : Code
meets_in_loops =
    Loops FromZero (Number 2) ByOne
    (Loops (FromLocalId X) (Number 2) ByOne (meets End) End) End

-- two items of one group come to that barrier in their first turns
abbrev pub first_turns : List Event
first_turns = Step 0 ∷ Step 0 ∷ Step 1 ∷ Step 1 ∷ []

-- there, after these events
abbrev pub meeting : Device
meeting = device_of (one_output meets_in_loops) one_group one_cell

-- the two there
abbrev pub met : State
met = run meeting (start_state (one_output meets_in_loops) one_cell) first_turns

-- if ((uint)get_local_id(0) < 1u) { barrier(..); }
abbrev pub meets_in_an_if : Code
meets_in_an_if = Guards (FromLocalId X) (Number 1) (meets End) End

-- if ((uint)get_local_id(0) < 1u) { barrier(..); } barrier(..);
abbrev pub meets_again : Code
meets_again = Guards (FromLocalId X) (Number 1) (meets End) (meets End)

-- if (0u < (1u / 0u)) { v0 = 1u; }
abbrev pub guarded_without_a_bound : Code
guarded_without_a_bound =
    Guards FromZero (Binary Div (Number 1) (Number 0)) (Performs (Assigns 0 (Number 1)) End) End

-- v0 = 1u; and behind it o0[(uint)get_local_id(0)] = v0;
abbrev pub assigns_one : Code
assigns_one = Performs (Assigns 0 (Number 1)) End

-- o0[(uint)get_local_id(0)] = v0;
abbrev pub stores_it : Code
stores_it = Performs (Stores (Output 0) (Id X LocalId) (Variable 0)) End

-- if ((uint)get_local_id(0) < 1u) { v0 = 1u; } o0[(uint)get_local_id(0)] = v0;
abbrev pub assigns_in_an_if : Code
assigns_in_an_if = Guards (FromLocalId X) (Number 1) assigns_one stores_it

-- two items of one group run it over two words
abbrev pub guarded : Device
guarded = device_of (one_output assigns_in_an_if) one_group two_cells

-- where they begin
abbrev pub guarded_start : State
guarded_start = start_state (one_output assigns_in_an_if) two_cells

-- the one that enters, and the one that passes
abbrev pub guarded_events : List Event
guarded_events = replicate 3 (Step 0) ++ replicate 2 (Step 1)

-- four items in two rows and two columns, each a group of its own
abbrev pub of_four : Launch
of_four = record { global = (2, 2); local = (1, 1); sizes = [] }

-- two rows of two groups, each of three rows of two items
abbrev pub of_pairs : Launch
of_pairs = record { global = (4, 6); local = (2, 3); sizes = [] }

-- all of them stand at a barrier from the start
abbrev pub waiting : Device
waiting = device_of (one_output (meets End)) of_pairs one_cell

-- where they begin
abbrev pub waiting_start : State
waiting_start = start_state (one_output (meets End)) one_cell

-- vstore4((uint4)(1u), 1u, o0);
abbrev pub stores_four : Code
stores_four = Performs (StoresFour (Output 0) (Number 1) (Spread (Number 1))) End

-- if ((uint)get_global_id(0) < 1u) { v0 = o0[6u]; } vstore4((uint4)(1u), 1u, o0);
abbrev pub loads_the_third : Code
loads_the_third =
    Guards (FromGlobalId X) (Number 1) (Performs (Loads 0 (Output 0) (Number 6)) End) stores_four

-- an item that is to do w0 = ((uint4)(8u) / w0); where w0 has these words
abbrev pub divides_by : Four → Item
divides_by u =
    item (Performs (AssignsFour 0 (Each Div (Spread (Number 8)) (Vector 0))) End) []
    (record { words = []; vectors = u ∷ [] })

-- vstore4((uint4)(1u), 1073741824u, o0); as an item wants it
abbrev pub wants_far : Wants
wants_far = WritesFour (Output 0) 1073741824 (spread 1) (item End [] no_vars)

-- w0 = vload4(1u, o0);
abbrev pub loads_second_four : Code
loads_second_four = Performs (LoadsFour 0 (Output 0) (Number 1)) End

-- vstore4((uint4)(1u), 1073741824u, o0);
abbrev pub stores_far : Code
stores_far = Performs (StoresFour (Output 0) (Number 1073741824) (Spread (Number 1))) End

-- an output, a variable of a word and one of four words
abbrev pub fours : Code → Kernel
fours code = record {
  inputs = 0;
  outputs = 1;
  sizes = 0;
  locals = [];
  privates = [];
  variables = 1;
  vectors = 1;
  local = None;
  code = code;
}

-- an output of this many words
abbrev pub words_out : ℕ → Cells
words_out n = record { ins = []; outs = replicate n 5 ∷ []; rest = 0 }

-- two items, each a group of its own, run it over this many words
abbrev pub of_fours : Code → (words : ℕ) → Device
of_fours code words = device_of (fours code) (in_a_row 2 1 []) (words_out words)

-- where they begin
abbrev pub first_of_fours : Code → (words : ℕ) → State
first_of_fours code words = start_state (fours code) (words_out words)

-- four words, one of them 0
abbrev pub one_zero : Four
one_zero = record { x = 1; y = 2; z = 0; w = 4 }

-- in w0
abbrev pub four_vars : Vars
four_vars = record { words = []; vectors = one_zero ∷ [] }

-- the statements within this many loops
abbrev pub in_loops : ℕ → Code → Code
in_loops zero code = code
in_loops (suc n) code = Loops FromZero (Number 1) ByOne (in_loops n code) End
