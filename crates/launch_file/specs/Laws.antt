-- What holds of launch files.
use Rattle.std.specs.Prelude.{◌≡◌, ◌↔◌, ℕ, List, Ok, Vec, map}
use Rattle.std.specs.Global.{Global}
use Rattle.serde_json.specs.Data.{Data}
use Rattle.lift_tree.specs.Programs.{PlainProgram}
use Rattle.launch_file.specs.declared.refusal.LaunchNo.{LaunchNo}
use Rattle.lift_tree.specs.Limits.{HasProperInputs}
use Rattle.lift_tree.specs.Values.{array, value_of}
use Rattle.lift_tree.specs.declared.value.Val.{Val}
use Rattle.lift_tree.specs.declared.value.Val as held
use Rattle.launch_file.specs.LaunchFile.{Given, Gives, IsLaunchFile, PlainAsk}
use Rattle.launch_file.specs.Judged.{Refuses, judged}
use Rattle.launch_file.specs.Stages.{GivenInOrder, GivesAll, IsStagesFile, RefusesStages, stages_judged}

-- a value passes the checks exactly where it is a launch file, and then they find what it gives
abbrev pub ChecksAreExact : Type 0
ChecksAreExact =
    (p : PlainProgram) (ask : PlainAsk) (d : Data) (g : Given) → HasProperInputs p
    → (judged p ask d ≡ Ok g) ↔ Gives p ask d g

-- a launch file is refused for nothing
abbrev pub FilesAreNotRefused : Type 0
FilesAreNotRefused =
    (p : PlainProgram) (ask : PlainAsk) (bytes : List ℕ) (g : Given) (e : LaunchNo) → HasProperInputs p
    → IsLaunchFile p ask bytes g → ¬ Refuses p ask bytes e

-- a launch file gives one thing
abbrev pub FilesGiveOneThing : Type 0
FilesGiveOneThing =
    (p : PlainProgram) (ask : PlainAsk) (bytes : List ℕ) (g h : Given) → HasProperInputs p
    → IsLaunchFile p ask bytes g → IsLaunchFile p ask bytes h → g ≡ h

-- and so of kernels in order: a value passes the checks exactly where it is a launch file of them
abbrev pub StagesChecksAreExact : Type 0
StagesChecksAreExact =
    (p : PlainProgram) (asks : List PlainAsk) (d : Data) (g : GivenInOrder) → HasProperInputs p
    → (stages_judged p asks d ≡ Ok g) ↔ GivesAll p asks d g

-- a launch file of kernels in order is refused for nothing
abbrev pub StagesFilesAreNotRefused : Type 0
StagesFilesAreNotRefused =
    (p : PlainProgram) (asks : List PlainAsk) (bytes : List ℕ) (g : GivenInOrder) (e : LaunchNo)
    → HasProperInputs p
    → IsStagesFile p asks bytes g → ¬ RefusesStages p asks bytes e

-- a launch file of kernels in order gives one thing
abbrev pub StagesFilesGiveOneThing : Type 0
StagesFilesGiveOneThing =
    (p : PlainProgram) (asks : List PlainAsk) (bytes : List ℕ) (g h : GivenInOrder) → HasProperInputs p
    → IsStagesFile p asks bytes g → IsStagesFile p asks bytes h → g ≡ h

-- the value of a list, as inputs are held, is the array of its members' values
abbrev pub ListsAreArrays : Type 0
ListsAreArrays = (xs : Vec Val Global) → value_of (held.List xs) ≡ array (map value_of xs.items)
