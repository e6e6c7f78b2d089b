-- What the words ask for.
use Rattle.std.specs.Prelude.{◌≡◌, ◌⊎◌, ◌&&◌, ℕ, Some, None, Option, true, false, Bool, codes, decimal, List, [], ◌∷◌, ◌++◌, ◌==◌, nat_le, not, if◌then◌else◌, unwrap_or, option_and_then, option_map, string_bytes}
use Rattle.std.specs.List.{list_all}
use Rattle.std.specs.Str.{bytes_eq}
use Rattle.std.specs.Str.Parse.{digits_value}
use Rattle.std.specs.Option.{option_map_or}
use Rattle.clap.specs.Words.{Row, Text, first_of, one_of, subcommand_of, fault_of}
use Rattle.command_line.specs.App.{lift_command, program, script, launch, seed, trace, items}
use Rattle.command_line.specs.declared.request.Request.{Request}
use Rattle.command_line.specs.declared.request.Request.TheVariants.{Compile, Run, Cost, Eval, Steps, Stages, RunStages, Demo}

-- a request, with its file names as bytes, or its seed; a run is told with its events or without, a
-- cost item by item or in all alone
pub data CommandLine : Type 0 where
  compile : Text → Text → CommandLine
  run : Text → Text → Text → (traced : Bool) → CommandLine
  cost : Text → Text → Text → (by_items : Bool) → CommandLine
  eval : Text → Text → CommandLine
  steps : Text → Text → CommandLine
  stages : Text → Text → CommandLine
  run_stages : Text → Text → Text → CommandLine
  demo : (seed : ℕ) → CommandLine

-- the request that lies in memory, its file names as their bytes
abbrev pub line_of : Request → CommandLine
line_of (Compile p s) = compile (string_bytes p) (string_bytes s)
line_of (Run p s l traced) = run (string_bytes p) (string_bytes s) (string_bytes l) traced
line_of (Cost p s l by_items) = cost (string_bytes p) (string_bytes s) (string_bytes l) by_items
line_of (Eval p l) = eval (string_bytes p) (string_bytes l)
line_of (Steps p s) = steps (string_bytes p) (string_bytes s)
line_of (Stages p s) = stages (string_bytes p) (string_bytes s)
line_of (RunStages p s l) = run_stages (string_bytes p) (string_bytes s) (string_bytes l)
line_of (Demo x) = demo x

-- ---- the form of a command line

-- the name of its subcommand
abbrev pub name_of : CommandLine → Text
name_of (compile p s) = codes "compile"
name_of (run p s l traced) = codes "run"
name_of (cost p s l by_items) = codes "cost"
name_of (eval p l) = codes "eval"
name_of (steps p s) = codes "steps"
name_of (stages p s) = codes "stages"
name_of (run_stages p s l) = codes "run-stages"
name_of (demo x) = codes "demo"

-- the names of its files, or the seed's decimal
abbrev pub arguments_of : CommandLine → List Text
arguments_of (compile p s) = p ∷ s ∷ []
arguments_of (run p s l traced) = p ∷ s ∷ l ∷ []
arguments_of (cost p s l by_items) = p ∷ s ∷ l ∷ []
arguments_of (eval p l) = p ∷ l ∷ []
arguments_of (steps p s) = p ∷ s ∷ []
arguments_of (stages p s) = p ∷ s ∷ []
arguments_of (run_stages p s l) = p ∷ s ∷ l ∷ []
arguments_of (demo x) = decimal x ∷ []

-- `--trace` for a run that is told with its events, `--items` for a cost item by item; no other
-- request has a flag
abbrev pub flags_of : CommandLine → List Text
flags_of (compile p s) = []
flags_of (run p s l traced) = if traced then codes "--trace" ∷ [] else []
flags_of (cost p s l by_items) = if by_items then codes "--items" ∷ [] else []
flags_of (eval p l) = []
flags_of (steps p s) = []
flags_of (stages p s) = []
flags_of (run_stages p s l) = []
flags_of (demo x) = []

-- the words that ask for it: its subcommand, its arguments, its flags
abbrev pub words_of : CommandLine → List Text
words_of line = name_of line ∷ arguments_of line ++ flags_of line

-- the word does not begin with a hyphen (45)
abbrev pub is_plain_word : Text → Bool
is_plain_word [] = true
is_plain_word (b ∷ bs) = not (b == 45)

-- the greatest seed
abbrev pub seed_limit : ℕ
seed_limit = 4294967295

-- no file name begins with a hyphen, and a seed is within its limit
abbrev pub is_plain : CommandLine → Bool
is_plain (demo x) = nat_le x seed_limit
is_plain line = list_all is_plain_word (arguments_of line)

-- ---- what clap's matches say

-- the value of the argument; a required one always has it
abbrev pub value_of : Text → List Row → Text
value_of id rows = unwrap_or (first_of id rows) []

-- whether the flag is set; where it is left out, clap gives it the value `false`
abbrev pub is_set : Text → List Row → Bool
is_set id rows = option_map_or (bytes_eq (codes "true")) (one_of id rows) false

-- the seed that the word is the decimal of: digits without a leading zero, at most the limit
unfoldable pub seed_of : Text → Option ℕ
seed_of word =
    let x = digits_value 10 word in if nat_le x seed_limit
    && bytes_eq (decimal x) word then Some x else None

-- the subcommand of this name, with these matches
abbrev pub line_at : Text → List Row → Option CommandLine
line_at name rows =
    if bytes_eq name (codes "compile") then Some
    (compile (value_of program rows) (value_of script rows))
    else
    (if bytes_eq name (codes "run") then Some
    (run (value_of program rows) (value_of script rows) (value_of launch rows)
    (is_set trace rows))
    else
    (if bytes_eq name (codes "cost") then Some
    (cost (value_of program rows) (value_of script rows) (value_of launch rows)
    (is_set items rows))
    else
    (if bytes_eq name (codes "eval") then Some
    (eval (value_of program rows) (value_of launch rows))
    else
    (if bytes_eq name (codes "steps") then Some
    (steps (value_of program rows) (value_of script rows))
    else
    (if bytes_eq name (codes "stages") then Some
    (stages (value_of program rows) (value_of script rows))
    else
    (if bytes_eq name (codes "run-stages") then Some
    (run_stages (value_of program rows) (value_of script rows) (value_of launch rows))
    else (if bytes_eq name (codes "demo") then option_map demo (seed_of (value_of seed rows))
    else None)))))))

-- the request of the subcommand that clap entered, if it entered one
abbrev pub line_entered : Option (Text × List Row) → Option CommandLine
line_entered = option_and_then (λ entered. line_at entered.0 entered.1)

-- what clap's matches of the words say
abbrev pub line_in : List Text → Option CommandLine
line_in words = line_entered (subcommand_of lift_command words)

-- clap takes the words
abbrev pub IsTaken : List Text → Type 0
IsTaken words = fault_of lift_command words ≡ []

-- the words are of a demo, and its seed is no decimal
pub record IsUnseeded (words : List Text) : Type 0 where
  pub rows : List Row
  pub entered : subcommand_of lift_command words ≡ Some (codes "demo", rows)
  pub none : seed_of (value_of seed rows) ≡ None

-- no request is asked for: clap refuses the words, or they are of a demo whose seed is no decimal
abbrev pub IsRefused : List Text → Type 0
IsRefused words = (¬ IsTaken words) ⊎ IsUnseeded words

-- clap takes the words, and its matches say this
pub record Asks (words : List Text) (line : CommandLine) : Type 0 where
  pub taken : IsTaken words
  pub says : line_in words ≡ Some line
