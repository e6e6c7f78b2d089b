-- The command and the files of a request.
use Rattle.std.specs.Prelude.{ℕ, List, [], ◌∷◌, string_bytes}
use Rattle.command_line.specs.Requests.{CommandLine, compile, run, cost, eval, steps, stages, run_stages, demo}
use Rattle.program_runs.specs.declared.command.Command.{Command}
use Rattle.program_runs.specs.declared.command.Command.TheVariants.{Compile, Run, Cost, Eval, Steps, Stages, RunStages, Demo}
use Rattle.lift_tool.specs.declared.files.File.{File}
use Rattle.lift_tool.specs.declared.files.File.TheVariants.{Source, Launch}

-- the most bytes that a program or a script may have
abbrev pub source_limit : ℕ
source_limit = 65536

-- the most bytes that a launch file may have
abbrev pub launch_limit : ℕ
launch_limit = 16777216

-- the name of a file, and the most bytes that its text may have
abbrev pub file_of : File → List ℕ × ℕ
file_of (Source name) = (string_bytes name, source_limit)
file_of (Launch name) = (string_bytes name, launch_limit)

-- a program and a script
abbrev pub sources : (program script : List ℕ) → List (List ℕ × ℕ)
sources p s = (p, source_limit) ∷ (s, source_limit) ∷ []

-- and a launch file
abbrev pub launched : (program script launch : List ℕ) → List (List ℕ × ℕ)
launched p s l = (p, source_limit) ∷ (s, source_limit) ∷ (l, launch_limit) ∷ []

-- the files of a request, in order: each name, and the most bytes that its text may have
abbrev pub files_of : CommandLine → List (List ℕ × ℕ)
files_of (compile p s) = sources p s
files_of (run p s l traced) = launched p s l
files_of (cost p s l items) = launched p s l
files_of (eval p l) = (p, source_limit) ∷ (l, launch_limit) ∷ []
files_of (steps p s) = sources p s
files_of (stages p s) = sources p s
files_of (run_stages p s l) = launched p s l
files_of (demo x) = []

-- the command of a request
abbrev pub command_of : CommandLine → Command
command_of (compile p s) = Compile
command_of (run p s l traced) = Run traced
command_of (cost p s l items) = Cost items
command_of (eval p l) = Eval
command_of (steps p s) = Steps
command_of (stages p s) = Stages
command_of (run_stages p s l) = RunStages
command_of (demo x) = Demo x
