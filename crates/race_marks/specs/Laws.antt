-- What a mark tells of a cell's accesses, and how it goes on to.
use Rattle.std.specs.Prelude.{◌≡◌, ◌≢◌, ◌↔◌, ◌++◌, ◌∷◌, ℕ, true, false, List, []}
use Rattle.kernel_tree.specs.declared.events.Event.{Event}
use Rattle.kernel_tree.specs.declared.events.Event.TheVariants.{Step, Release}
use Rattle.kernel_tree.specs.Device.{Device, State, Cell, run}
use Rattle.kernel_tree.specs.Faults.{Access, Among, accesses, accesses_of}
use Rattle.race_marks.specs.Marks.{Mark, races, noted}
use Rattle.race_marks.specs.Tells.{Epochs, TellsOf, TellsOfRun, MayFollow, RacesAmong, mark_released}
use Rattle.race_marks.specs.Marked.{Marked, MarksTell}

-- a mark tells exactly whether an access of its cell is a race
abbrev pub RacesAreTold : Type 0
RacesAreTold =
    (xs : List Access) (E : Epochs) (b : Access) (m : Mark) → MayFollow xs E b
    → TellsOf xs E b.cell m → (races m b.group b.item b.writes ≡ true) ↔ RacesAmong xs b

-- with an access noted that is no race, it goes on to tell
abbrev pub AccessesAreNoted : Type 0
AccessesAreNoted =
    (xs : List Access) (E : Epochs) (b : Access) (m : Mark) → MayFollow xs E b
    → TellsOf xs E b.cell m → races m b.group b.item b.writes ≡ false
    → TellsOf (xs ++ b ∷ []) E b.cell (noted m b.group b.item b.writes)

-- an access of another cell changes no mark
abbrev pub OthersChangeNoMark : Type 0
OthersChangeNoMark =
    (xs : List Access) (E : Epochs) (b : Access) (c : Cell) (m : Mark) → b.cell ≢ c
    → TellsOf xs E c m → TellsOf (xs ++ b ∷ []) E c m

-- each access of an event may come after those of the run so far
abbrev pub EventsMayFollow : Type 0
EventsMayFollow =
    (d : Device) (s : State) (es : List Event) (e : Event) (b : Access)
    → Among b (accesses_of d (run d s es) e) → MayFollow (accesses d s es) (run d s es).epochs b

-- with the accesses of a step, one after another, a mark tells of the run with the step
abbrev pub StepsAreTold : Type 0
StepsAreTold =
    (d : Device) (s : State) (es : List Event) (k : ℕ) (c : Cell) (m : Mark)
    → TellsOf (accesses d s es ++ accesses_of d (run d s es) (Step k)) (run d s es).epochs c m
    → TellsOfRun d s (es ++ Step k ∷ []) c m

-- after a release of a group
abbrev pub ReleasesAreTold : Type 0
ReleasesAreTold =
    (d : Device) (s : State) (es : List Event) (g : ℕ) (c : Cell) (m : Mark)
    → TellsOfRun d s es c m
    → TellsOfRun d s (es ++ Release g ∷ []) c (mark_released d (run d s es) g c m)

-- after a step that accesses no cell
abbrev pub MarksStay : Type 0
MarksStay =
    (d : Device) (s : State) (es : List Event) (k : ℕ) (m : Marked)
    → accesses_of d (run d s es) (Step k) ≡ [] → MarksTell d s es m
    → MarksTell d s (es ++ Step k ∷ []) m
