-- The turns of a map from any start by any stride, in whatever form: what a kind of map says in one
-- dimension, for both.
use Rattle.std.specs.Prelude.{◌≡◌, ℕ, ◌+◌, ◌<◌, ◌≤◌, ◌^◌, List, ◌∷◌, Some}
use Rattle.kernel_tree.specs.Formula.{Formula, bound_value}
use Rattle.kernel_tree.specs.Code.{Start, Stride, start_value, stride_value, Code, End}
use Rattle.kernel_tree.specs.Launch.{ids_of}
use Rattle.kernel_tree.specs.Item.{Frame}
use Rattle.kernel_tree.specs.Device.{Device}
use Rattle.kernel_tree.specs.Rounds.{Loop, frame_of}
use Rattle.kernel_tree.specs.Strides.{turns_of}
use Rattle.printed_form.specs.MapForms.{MapForm, Looped, Guarded, Alone, statement_of}
use Rattle.group_phases.specs.TurnForms.{Form, TakesTurns}

-- a form makes just the turns of a map of this length from each start below the stride
abbrev pub MakesTurnsBy : MapForm → (len stride : ℕ) → Type 0
MakesTurnsBy Looped n size = Unit {0}
MakesTurnsBy Guarded n size = n ≤ size
MakesTurnsBy Alone n size = n ≡ size

-- the loops around its turns
abbrev pub frames_in : MapForm → Device → (item : ℕ) → List Frame → Loop → (turn : ℕ) → List Frame
frames_in Looped d k fs p t = frame_of d k p t ∷ fs
frames_in Guarded d k fs p t = fs
frames_in Alone d k fs p t = fs

-- as a form of turns
abbrev pub statement_form : MapForm → Device → (item : ℕ) → List Frame → Loop → (count : ℕ) → Form
statement_form f d k fs p count =
    record { count = count; first = p.body; last = End; frames = frames_in f d k fs p }

-- the statement of a map in a form is a form of turns
abbrev pub StatementsAreForms : Type 0
StatementsAreForms =
    (d : Device) (k : ℕ) (f : MapForm) (s : Start) (c : Stride) (len id size : ℕ)
    (fs : List Frame) (b : Formula) (body : Code)
    → start_value (ids_of d.launch k) s ≡ id → stride_value (ids_of d.launch k) c ≡ size
    → id < size → len + size ≤ 2 ^ 32 → bound_value d.launch.sizes b ≡ Some len
    → MakesTurnsBy f len size
    → TakesTurns d k fs (statement_of f s c b body) End
    (statement_form f d k fs
    (record { start = s; bound = b; stride = c; body = body; after = End })
    (turns_of len size id))
