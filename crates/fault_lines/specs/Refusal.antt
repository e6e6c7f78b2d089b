-- Why a program and a script have no kernel: the status, and the line.
use Rattle.std.specs.Prelude.{ℕ, List, [], ◌∷◌, codes, decimal}
use Rattle.lift_reader.specs.declared.refusal.ReadRefusal.{ReadRefusal}
use Rattle.lift_reader.specs.declared.refusal.ReadRefusal.TheVariants as readings
use Rattle.pattern_types.specs.declared.refusal.Rule.{Rule}
use Rattle.pattern_types.specs.declared.refusal.Spot.{Spot}
use Rattle.pattern_types.specs.declared.refusal.Spot.TheVariants as spots
use Rattle.pattern_types.specs.declared.refusal.TypeRefusal.{TypeRefusal}
use Rattle.pattern_types.specs.declared.refusal.TypeRefusal.TheVariants as typings
use Rattle.pattern_types.specs.Refusals.{rule_name}
use Rattle.fault_lines.specs.Lines.{line_of_texts, place_text}
use Rattle.buffer_allocation.specs.declared.buffers.AllocNo.{AllocNo}
use Rattle.buffer_allocation.specs.declared.buffers.AllocNo.TheVariants as allocations
use Rattle.fault_lines.specs.Names.{alloc_limit_name, nest_rule_name, quantity_name, step_limit_name, type_limit_name}
use Rattle.kernel_sequence.specs.declared.no.CutNo.{CutNo}
use Rattle.kernel_sequence.specs.declared.no.CutNo.TheVariants as cuts
use Rattle.rewriting.specs.Conditions.{condition_name}
use Rattle.strategy_script.specs.declared.faults.StepNo.{StepNo}
use Rattle.strategy_script.specs.declared.faults.StepNo.TheVariants as stops
use Rattle.strategy_script.specs.declared.faults.Why.{Why}
use Rattle.strategy_script.specs.declared.faults.Why.TheVariants as whys
use Rattle.strategy_script.specs.declared.script.ScriptNo.{ScriptNo}
use Rattle.strategy_script.specs.declared.script.ScriptNo.TheVariants as scripts
use Rattle.thread_mapping.specs.declared.judging.NestNo.{NestNo}
use Rattle.thread_mapping.specs.declared.judging.NestNo.TheVariants as nests
use Rattle.fault_lines.specs.declared.refusal.Refusal.{Refusal}
use Rattle.fault_lines.specs.declared.refusal.Refusal.TheVariants.{Program, Typing, Script, Step, Cut, Nest, Alloc, Memory}

-- the status of a refusal
abbrev pub status_of : Refusal → ℕ
status_of (Program (readings.Syntax token offset)) = 6
status_of (Program (readings.Limit which count)) = 10
status_of (Program readings.Memory) = 13
status_of (Typing (typings.IllTyped spot rule)) = 7
status_of (Typing (typings.Limit which spot count)) = 10
status_of (Typing typings.Memory) = 13
status_of (Script (scripts.Syntax line)) = 8
status_of (Script (scripts.Limit which count)) = 10
status_of (Script scripts.Memory) = 13
status_of (Step (stops.Inapplicable step why)) = 9
status_of (Step (stops.Limit which step count)) = 10
status_of (Step stops.Memory) = 13
status_of (Cut (cuts.Nest place rule)) = 11
status_of (Cut (cuts.Limit count)) = 10
status_of (Cut cuts.Memory) = 13
status_of (Nest (nests.Nest place rule)) = 11
status_of (Nest nests.Memory) = 13
status_of (Alloc (allocations.Limit which count)) = 10
status_of (Alloc allocations.Memory) = 13
status_of Memory = 13

-- ---- lines

-- the line of a limit that is passed, with what was counted
abbrev pub limit_line : (name : List ℕ) → (count : ℕ) → List ℕ
limit_line name count =
    line_of_texts (codes "lift: limit " ∷ name ∷ codes ": " ∷ decimal count ∷ [])

-- which rule of typing is broken, and where
abbrev pub type_line : Rule → Spot → List ℕ
type_line rule (spots.Input number) =
    line_of_texts (codes "lift: type: " ∷ rule_name rule ∷ codes " at input " ∷ decimal number ∷ [])
type_line rule (spots.Node place) =
    line_of_texts (codes "lift: type: " ∷ rule_name rule ∷ codes " at " ∷ place_text place ∷ [])

-- why the rule of a step, counted from 1, isn't applied
abbrev pub step_line : (step : ℕ) → Why → List ℕ
step_line step whys.NoPlace =
    line_of_texts (codes "lift: step " ∷ decimal step ∷ codes ": no place" ∷ [])
step_line step whys.Shape =
    line_of_texts (codes "lift: step " ∷ decimal step ∷ codes ": shape" ∷ [])
step_line step (whys.Side condition) =
    line_of_texts
    (codes "lift: step " ∷ decimal step ∷ codes ": side " ∷ condition_name condition ∷ [])

-- which rule of the nest is broken, and where
abbrev pub nest_line : (rule : List ℕ) → (place : List ℕ) → List ℕ
nest_line rule place =
    line_of_texts (codes "lift: nest: " ∷ rule ∷ codes " at " ∷ place_text place ∷ [])

-- the line where memory ran out
abbrev pub memory_line : List ℕ
memory_line = line_of_texts (codes "lift: memory" ∷ [])

-- the line of a refusal
abbrev pub line_of : Refusal → List ℕ
line_of (Program (readings.Syntax token offset)) =
    line_of_texts
    (codes "lift: program: token " ∷ decimal token ∷ codes ", byte " ∷ decimal offset ∷ [])
line_of (Program (readings.Limit which count)) = limit_line (quantity_name which) count
line_of (Program readings.Memory) = memory_line
line_of (Typing (typings.IllTyped spot rule)) = type_line rule spot
line_of (Typing (typings.Limit which spot count)) = limit_line (type_limit_name which) count
line_of (Typing typings.Memory) = memory_line
line_of (Script (scripts.Syntax number)) =
    line_of_texts (codes "lift: script: line " ∷ decimal number ∷ [])
line_of (Script (scripts.Limit which count)) = limit_line (codes "steps") count
line_of (Script scripts.Memory) = memory_line
line_of (Step (stops.Inapplicable step why)) = step_line step why
line_of (Step (stops.Limit which step count)) = limit_line (step_limit_name which) count
line_of (Step stops.Memory) = memory_line
line_of (Cut (cuts.Nest place rule)) = nest_line (nest_rule_name rule) place
line_of (Cut (cuts.Limit count)) = limit_line (codes "kernels") count
line_of (Cut cuts.Memory) = memory_line
line_of (Nest (nests.Nest place rule)) = nest_line (nest_rule_name rule) place
line_of (Nest nests.Memory) = memory_line
line_of (Alloc (allocations.Limit which count)) = limit_line (alloc_limit_name which) count
line_of (Alloc allocations.Memory) = memory_line
line_of Memory = memory_line

-- ---- what a stage's refusal becomes: want of memory is the same in all of them

-- the refusal of a program that is read
abbrev pub program_refused : ReadRefusal → Refusal
program_refused readings.Memory = Memory
program_refused why = Program why

-- the refusal of a program that is typed
abbrev pub typing_refused : TypeRefusal → Refusal
typing_refused typings.Memory = Memory
typing_refused why = Typing why

-- the refusal of a script that is read
abbrev pub script_refused : ScriptNo → Refusal
script_refused scripts.Memory = Memory
script_refused why = Script why

-- the refusal of a step
abbrev pub step_refused : StepNo → Refusal
step_refused stops.Memory = Memory
step_refused why = Step why

-- the refusal of a cut into kernels
abbrev pub cut_refused : CutNo → Refusal
cut_refused cuts.Memory = Memory
cut_refused why = Cut why

-- the refusal of a nest
abbrev pub nest_refused : NestNo → Refusal
nest_refused nests.Memory = Memory
nest_refused why = Nest why

-- the refusal of a term's arrays
abbrev pub alloc_refused : AllocNo → Refusal
alloc_refused allocations.Memory = Memory
alloc_refused why = Alloc why
