-- How a call ends, and why.
use Rattle.std.specs.Prelude.{◌≡◌, ◌⊎◌, ℕ, List}
use Rattle.command_line.specs.Requests.{Asks, CommandLine, IsRefused, cost, run, run_stages}
use Rattle.fault_lines.specs.Failure.{Failure, Memory, Words, Write}
use Rattle.program_runs.specs.Alike.{AreLinesOf, IsLineOfSequence}
use Rattle.program_runs.specs.Costs.{AreCostsOf}
use Rattle.program_runs.specs.Table.{IsKernelOf, IsSequenceOf, Stops, Takes, Writes, text_at}
use Rattle.lift_tool.specs.Files.{AreTexts, StopsAtFile, Told}
use Rattle.lift_tool.specs.Request.{command_of, files_of}

-- what a request writes for the texts of its files
abbrev pub Answers : CommandLine → List (List ℕ) → List ℕ → Type 0
Answers request texts text = Writes (command_of request) texts text

-- the lines of a run, and the line of runs in order, are those of each text that is written for the
-- same files; and those of a cost tell what its runs do
abbrev pub AreLinesOfWritten : CommandLine → List (List ℕ) → (lines : List ℕ) → Type 0
AreLinesOfWritten (run p s l traced) texts lines =
    (text : List ℕ) → IsKernelOf (text_at texts 0) (text_at texts 1) text
    → AreLinesOf (text_at texts 0) (text_at texts 2) traced text lines
AreLinesOfWritten (cost p s l items) texts lines =
    (text : List ℕ) → IsKernelOf (text_at texts 0) (text_at texts 1) text
    → AreCostsOf (text_at texts 0) (text_at texts 2) items text lines
AreLinesOfWritten (run_stages p s l) texts line =
    (text : List ℕ) → IsSequenceOf (text_at texts 0) (text_at texts 1) text
    → IsLineOfSequence (text_at texts 0) (text_at texts 2) text line
AreLinesOfWritten _ texts lines = Unit {0}

-- the words ask for this, and its files may have texts that are so
abbrev pub OnTexts : Told → List (List ℕ) → (CommandLine → List (List ℕ) → Type 0) → Type 0
OnTexts told words P =
    (request : CommandLine) × Asks words request
    × ((texts : List (List ℕ)) × AreTexts told (files_of request) texts × P request texts)

-- a request for these files may write this
abbrev pub IsAnswer : Told → CommandLine → List ℕ → Type 0
IsAnswer told request text =
    (texts : List (List ℕ)) × AreTexts told (files_of request) texts × Answers request texts text

-- ---- the stages

-- the texts of a request are well formed
abbrev pub IsAccepted : CommandLine → List (List ℕ) → Type 0
IsAccepted request texts = Takes (command_of request) texts

-- the first stage that stops for the texts of a request, and why
abbrev pub StopsAtText : CommandLine → List (List ℕ) → Failure → Type 0
StopsAtText request texts failure = Stops (command_of request) texts failure

-- why a request has no result: the first of its files that isn't read, or else the first stage that
-- stops
abbrev pub StopsFor : Told → (List ℕ → Type 0) → CommandLine → Failure → Type 0
StopsFor told rose request failure =
    StopsAtFile told rose (files_of request) failure
    ⊎
    ((texts : List (List ℕ)) × AreTexts told (files_of request) texts
    × StopsAtText request texts failure)

-- or for want of memory, which is free
abbrev pub FailsFor : Told → (List ℕ → Type 0) → CommandLine → Failure → Type 0
FailsFor told rose request failure = (failure ≡ Memory) ⊎ StopsFor told rose request failure

-- ---- the whole call

-- why words have no result: want of memory, which is free; or the command refuses them; or their
-- request stops
abbrev pub WordsCause : Told → (List ℕ → Type 0) → List (List ℕ) → Failure → Type 0
WordsCause told rose words failure =
    (failure ≡ Memory)
    ⊎ (((failure ≡ Words) × IsRefused words)
    ⊎ ((request : CommandLine) × Asks words request × StopsFor told rose request failure))

-- why a call ends as it does, where `out_rose` says that a write of the output failed
abbrev pub Cause : Told → (List ℕ → Type 0) → Type 0 → List (List ℕ) → Failure → Type 0
Cause told rose out_rose words failure =
    WordsCause told rose words failure
    ⊎
    ((failure ≡ Write) × out_rose
    × OnTexts told words (λ request texts. (text : List ℕ) × Answers request texts text))
