-- The command of `lift`, as clap sees it: one level of subcommands, whose arguments are file names
-- or a seed, and a flag of two of them.
use Rattle.std.specs.Prelude.{Some, true, codes, List, [], ◌∷◌, fold}
use Rattle.clap.specs.Words.{App, Rule, Shape, Text, new_app, new_rule, with_rule, with_subcommand}
use Rattle.clap.specs.declared.builder.ArgAction.TheVariants.{Set, SetTrue}

-- a required argument of one word
abbrev pub word_rule : Text → Rule
word_rule id = record (new_rule id) { required = true; action = Some Set }

-- a command with one word for each id, in this order
abbrev pub words_command : Text → List Text → App
words_command name ids = fold (λ command id. with_rule command (word_rule id)) (new_app name) ids

-- the name of the argument for a program's file
abbrev pub program : Text
program = codes "program"

-- the name of the argument for a script's file
abbrev pub script : Text
script = codes "script"

-- the name of the argument for a launch file
abbrev pub launch : Text
launch = codes "launch"

-- the name of the argument for a demo's seed
abbrev pub seed : Text
seed = codes "seed"

-- the name of the flag that asks for a run's events
abbrev pub trace : Text
trace = codes "trace"

-- the flag `--trace`, which may be left out
abbrev pub trace_rule : Rule
trace_rule = record (new_rule trace) { long = Some trace; action = Some SetTrue }

-- a run takes three files and the flag
abbrev pub run_command : App
run_command = with_rule (words_command (codes "run") (program ∷ script ∷ launch ∷ [])) trace_rule

-- the name of the flag that asks for each item's cost
abbrev pub items : Text
items = codes "items"

-- the flag `--items`, which may be left out
abbrev pub items_rule : Rule
items_rule = record (new_rule items) { long = Some items; action = Some SetTrue }

-- a cost takes three files and the flag
abbrev pub cost_command : App
cost_command = with_rule (words_command (codes "cost") (program ∷ script ∷ launch ∷ [])) items_rule

-- a subcommand is required; there is no help and no version, and the words have no program name
abbrev pub bare_shape : Shape → Shape
bare_shape s = record s {
  no_binary_name = true;
  disable_help_flag = true;
  disable_help_subcommand = true;
  disable_version_flag = true;
  subcommand_required = true;
}

-- `lift` without its subcommands
abbrev pub bare_command : App
bare_command = record (new_app (codes "lift")) { top = bare_shape (new_app (codes "lift")).top }

-- a command with these subcommands
abbrev pub with_subcommands : App → List App → App
with_subcommands command subs = fold (λ all sub. with_subcommand all sub.top) command subs

-- the command with the subcommands for one kernel, and for a program's value
abbrev pub kernel_commands : App
kernel_commands = with_subcommands bare_command
    (words_command (codes "compile") (program ∷ script ∷ [])
    ∷ run_command
    ∷ cost_command
    ∷ words_command (codes "eval") (program ∷ launch ∷ []) ∷ [])

-- the whole command: also a script's steps, kernels in order, and demos
abbrev pub lift_command : App
lift_command = with_subcommands kernel_commands
    (words_command (codes "steps") (program ∷ script ∷ [])
    ∷ words_command (codes "stages") (program ∷ script ∷ [])
    ∷ words_command (codes "run-stages") (program ∷ script ∷ launch ∷ [])
    ∷ words_command (codes "demo") (seed ∷ []) ∷ [])
