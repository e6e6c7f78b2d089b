-- Code that one item takes turn by turn, whatever statement makes the turns: a loop, an `if`, the
-- turn alone, or a nest of them.
use Rattle.std.specs.Prelude.{◌≡◌, ℕ, zero, suc, ◌*◌, ◌/◌, ◌%◌, ◌<◌, ◌≤◌, List, [], ◌∷◌, ◌++◌, Some, nat_lt, if◌then◌else◌}
use Rattle.kernel_tree.specs.Formula.{Formula, Vars, value, bound_value}
use Rattle.kernel_tree.specs.Code.{Start, start_value, Code, End, Guards, then_rest}
use Rattle.kernel_tree.specs.Launch.{ids_of}
use Rattle.kernel_tree.specs.Item.{Item, item, Frame, loop_variables}
use Rattle.kernel_tree.specs.Device.{Device, Memory}
use Rattle.kernel_tree.specs.Deeds.{Deed, Moved, Goes}
use Rattle.kernel_tree.specs.Rounds.{Loop, loop_code, frame_of, Counts}

-- so many moves, and nothing else
abbrev pub moves : ℕ → List Deed
moves zero = []
moves (suc n) = Moved ∷ moves n

-- by moves alone the item comes from x to y, whatever memory holds
abbrev pub Leads : Device → ℕ → Item → Item → Type 0
Leads d k x y = (n : ℕ) × ((m : Memory) → Goes d k x m (moves n) y)

-- A form of turns: each of `count` turns begins at the code `first` and ends where `last` is left,
-- in the loops of its number
pub record Form : Type 0 where
  pub count : ℕ
  pub first : Code
  pub last : Code
  pub frames : (turn : ℕ) → List Frame

-- where the item stands before turn t: at its beginning, or past all turns
abbrev pub place : Form → List Frame → (rest : Code) → (turn : ℕ) → Vars → Item
place f fs rest t vars =
    if nat_lt t f.count then item f.first (f.frames t) vars else item rest fs vars

-- the k-th item takes the code turn by turn: it comes to the first, from the end of each to the
-- next, and past the last to the rest
pub record TakesTurns (d : Device) (k : ℕ) (fs : List Frame) (code rest : Code)
    (f : Form) : Type 0 where
  pub enters : (vars : Vars) → Leads d k (item code fs vars) (place f fs rest 0 vars)
  pub again : (t : ℕ) (vars : Vars) → t < f.count
      → Leads d k (item f.last (f.frames t) vars) (place f fs rest (suc t) vars)
  pub around : (t : ℕ) → t < f.count
      → (more : List ℕ) × (loop_variables (f.frames t) ≡ loop_variables fs ++ more)

-- in each turn, and in all loops within it, the formula's value is the turn's index
abbrev pub IsIndex : Device → ℕ → Form → Formula → (index : ℕ → ℕ) → Type 0
IsIndex d k f e index =
    (t : ℕ) (more : List ℕ) (vars : Vars) → t < f.count
    → value (ids_of d.launch k) (loop_variables (f.frames t) ++ more) vars e ≡ Some (index t)

-- a loop
abbrev pub loop_form : Device → ℕ → List Frame → Loop → (count : ℕ) → Form
loop_form d k fs p count =
    record { count = count; first = p.body; last = End; frames = λ t. frame_of d k p t ∷ fs }

-- the turn alone, with no statement of its own
abbrev pub alone_form : List Frame → (code rest : Code) → Form
alone_form fs code rest = record { count = 1; first = code; last = rest; frames = λ t. fs }

-- a statement that enters the code `inner`, which goes on to the rest, or passes to the rest: so
-- many turns, of which there is at most one
abbrev pub test_form : List Frame → (inner rest : Code) → (count : ℕ) → Form
test_form fs inner rest count =
    record { count = count; first = inner; last = rest; frames = λ t. fs }

-- what such a statement has to give
pub record Tests (d : Device) (k : ℕ) (fs : List Frame) (code inner rest : Code)
    (count : ℕ) : Type 0 where
  pub at_most_one : count < 2
  pub enters : (vars : Vars) → 0 < count → Leads d k (item code fs vars) (item inner fs vars)
  pub passes : (vars : Vars) → count ≡ 0 → Leads d k (item code fs vars) (item rest fs vars)

-- a nest, whose turns are pairs, numbered row by row: the outer form's turn u has `width` turns of
-- its own, in the loops `inner u v`
abbrev pub nest_form : (outer : Form) → (width : ℕ) → (first last : Code)
    → (inner : (u v : ℕ) → List Frame) → Form
nest_form f width first last inner =
    record {
      count = f.count * width;
      first = first;
      last = last;
      frames = λ t. inner (t / width)
          (t % width);
    }

-- loops, tests and nests are forms of turns
abbrev pub LoopsAreForms : Type 0
LoopsAreForms =
    (d : Device) (k : ℕ) (fs : List Frame) (p : Loop) (count : ℕ) → Counts d k p count
    → TakesTurns d k fs (loop_code p) p.after (loop_form d k fs p count)

-- a statement that tests is a form of one turn at most
abbrev pub TestsAreForms : Type 0
TestsAreForms =
    (d : Device) (k : ℕ) (fs : List Frame) (code inner rest : Code) (count : ℕ)
    → Tests d k fs code inner rest count
    → TakesTurns d k fs code rest (test_form fs inner rest count)

-- an `if` tests, of which the item takes one turn where its start is below its bound, and none else
abbrev pub GuardsTest : Type 0
GuardsTest =
    (d : Device) (k : ℕ) (fs : List Frame) (s : Start) (b : Formula) (body rest : Code)
    (bound count : ℕ)
    → bound_value d.launch.sizes b ≡ Some bound → count < 2
    → (0 < count → start_value (ids_of d.launch k) s < bound)
    → (count ≡ 0 → bound ≤ start_value (ids_of d.launch k) s)
    → Tests d k fs (Guards s b body rest) (then_rest body rest) rest count

-- turns within turns are the form of their nest
abbrev pub NestsAreForms : Type 0
NestsAreForms =
    (d : Device) (k : ℕ) (fs : List Frame) (code rest : Code) (f : Form) (width : ℕ)
    (first last : Code) (inner : (u v : ℕ) → List Frame)
    → TakesTurns d k fs code rest f
    →
    ((u : ℕ) → u < f.count
    → TakesTurns d k (f.frames u) f.first f.last
    (record { count = width; first = first; last = last; frames = inner u }))
    → TakesTurns d k fs code rest (nest_form f width first last inner)
