-- Why a call ends without a result: its status and its line.
use Rattle.std.specs.Prelude.{◌≡◌, ℕ, List, [], ◌∷◌, codes}
use Rattle.lift_tree.specs.Programs.{PlainProgram}
use Rattle.lift_reader.specs.declared.refusal.ReadRefusal.TheVariants as readings
use Rattle.pattern_types.specs.declared.refusal.TypeRefusal.TheVariants as typings
use Rattle.strategy_script.specs.declared.script.ScriptNo.TheVariants as scripts
use Rattle.strategy_script.specs.declared.faults.StepNo.TheVariants as stops
use Rattle.kernel_sequence.specs.declared.no.CutNo.TheVariants as cuts
use Rattle.thread_mapping.specs.declared.judging.NestNo.TheVariants as nests
use Rattle.buffer_allocation.specs.declared.buffers.AllocNo.TheVariants as allocations
use Rattle.launch_file.specs.Line as launches
use Rattle.launch_file.specs.declared.refusal.LaunchNo.{LaunchNo}
use Rattle.launch_file.specs.declared.refusal.LaunchNo.TheVariants as no
use Rattle.fault_lines.specs.declared.refusal.Refusal.{Refusal}
use Rattle.fault_lines.specs.declared.refusal.Refusal.TheVariants as told
use Rattle.fault_lines.specs.Refusal as refusals
use Rattle.fault_lines.specs.Lines.{line_of_texts}
use Rattle.fault_lines.specs.Refusal.{limit_line, memory_line}

-- what ended a call
pub data Failure : Type 0 where
  -- the words are no command
  Words : Failure
  -- the file of this name couldn't be read
  Read : List ℕ → Failure
  -- a file has more bytes than it may have; so many were counted
  TooLong : (count : ℕ) → Failure
  -- the output couldn't be written
  Write : Failure
  -- the program and the script have no kernel
  Source : Refusal → Failure
  -- the launch file is none for this program, for this cause
  Launch : PlainProgram → LaunchNo → Failure
  -- memory ran out
  Memory : Failure

-- want of memory may come while a launch file is read
abbrev pub launch_status : LaunchNo → ℕ
launch_status no.Memory = 13
launch_status _ = 12

-- the status that the call ends with
abbrev pub status_of : Failure → ℕ
status_of Words = 2
status_of (Read name) = 3
status_of (TooLong count) = 10
status_of Write = 4
status_of (Source why) = refusals.status_of why
status_of (Launch p why) = launch_status why
status_of Memory = 13

-- the line on the error output
abbrev pub line_of : Failure → List ℕ
line_of Words = line_of_texts (codes "lift: words" ∷ [])
line_of (Read name) = line_of_texts (codes "lift: read " ∷ name ∷ [])
line_of (TooLong count) = limit_line (codes "bytes") count
line_of Write = line_of_texts (codes "lift: write" ∷ [])
line_of (Source why) = refusals.line_of why
line_of (Launch p why) = launches.line_of p why
line_of Memory = memory_line

-- ---- what a lower call's refusal becomes: its want of memory is handed on as that

-- the refusal of a program and a script, in whichever stage
abbrev pub source_failed : Refusal → Failure
source_failed (told.Program readings.Memory) = Memory
source_failed (told.Typing typings.Memory) = Memory
source_failed (told.Script scripts.Memory) = Memory
source_failed (told.Step stops.Memory) = Memory
source_failed (told.Cut cuts.Memory) = Memory
source_failed (told.Nest nests.Memory) = Memory
source_failed (told.Alloc allocations.Memory) = Memory
source_failed told.Memory = Memory
source_failed why = Source why

-- the refusal of a launch file
abbrev pub launch_failed : PlainProgram → LaunchNo → Failure
launch_failed p no.Memory = Memory
launch_failed p why = Launch p why

-- want of memory stands inside no other variant: what has its status is it
abbrev pub HidesNoMemory : Failure → Type 0
HidesNoMemory failure = status_of failure ≡ 13 → failure ≡ Memory
