-- The places of a text, and that what is left to do there tells them apart.
use Rattle.std.specs.Prelude.{◌≡◌, ◌↔◌, ℕ, ◌<◌, List, [], ◌∷◌, ◌++◌, map}
use Rattle.kernel_tree.specs.declared.events.Event.{Event}
use Rattle.kernel_tree.specs.Formula.{Formula, Ids}
use Rattle.kernel_tree.specs.Code.{Stride, Code, End, Performs, Loops, Guards, then_rest, Kernel}
use Rattle.kernel_tree.specs.Launch.{Launch, Cells, item_count}
use Rattle.kernel_tree.specs.Item.{Frame, Item, next}
use Rattle.kernel_tree.specs.Device.{State, IsStart, device_of, run, IsRun, StandTogether}
use Rattle.kernel_tree.specs.Faults.{Among}
use Rattle.kernel_tree.specs.Meets.{IsWaiting}

-- a place as the device holds it, but for turn numbers and loop variables
pub record Place : Type 0 where
  pub code : Code
  pub loops : List Frame

-- the place where this is left in these loops
abbrev pub place : Code → List Frame → Place
place code loops = record { code = code; loops = loops }

-- a loop around a place
abbrev pub around : Formula → Stride → (body after : Code) → Frame
around b c body after =
    record { turn = 0; variable = 0; bound = b; stride = c; body = body; after = after }

-- the places of a block's statements one after another, where the rest follows the block; in a
-- loop's body the end too, where its test comes
abbrev pub places : Code → (rest : Code) → List Frame → List Place
places End rest fs = []
places (Performs s after) rest fs =
    place (Performs s (then_rest after rest)) fs ∷ places after rest fs
places (Loops s b c body after) rest fs =
    let inner = around b c body (then_rest after rest) ∷ fs in
    place (Loops s b c body (then_rest after rest)) fs
    ∷ (places body End inner ++ place End inner ∷ []) ++ places after rest fs
places (Guards s b body after) rest fs =
    place (Guards s b body (then_rest after rest)) fs ∷ places body (then_rest after rest) fs
    ++ places after rest fs

-- those of a whole text, its end too
abbrev pub all_places : Code → List Place
all_places code = places code End [] ++ place End [] ∷ []

-- no two members are the same
abbrev pub AllDiffer : {A : Type 0} → List A → Type 0
AllDiffer [] = Unit {0}
AllDiffer (x ∷ xs) = (Among x xs → ⊥) × AllDiffer xs

-- a frame at no turn
abbrev pub untimed : Frame → Frame
untimed f = around f.bound f.stride f.body f.after

-- the place where an item stands
abbrev pub place_of_item : Item → Place
place_of_item x = place x.code (map untimed x.frames)

-- the turn numbers of the loops around an item, innermost first
abbrev pub turns_of : Item → List ℕ
turns_of x = map (λ f. f.turn) x.frames

-- two items stand together where both wait, at one place and at the same turns
abbrev pub TogetherIsOnePlace : Type 0
TogetherIsOnePlace = (i j : Ids) (x y : Item)
    → StandTogether (next i x) (next j y)
    ↔ (IsWaiting (next i x) × (place_of_item x ≡ place_of_item y) × (turns_of x ≡ turns_of y))

-- in every run of a kernel each item stands at a place of its text
abbrev pub ItemsStand : Type 0
ItemsStand =
    (k : Kernel) (l : Launch) (c : Cells) (s : State) (es : List Event) → IsStart k l c s
    → IsRun (device_of k l c) s es
    → (j : ℕ) → j < item_count l
    → Among (place_of_item ((run (device_of k l c) s es).items j)) (all_places k.code)
