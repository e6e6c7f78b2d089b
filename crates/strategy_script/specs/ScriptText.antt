-- The text of a script.
use Rattle.std.specs.Prelude.{◌≡◌, ◌+◌, ◌<◌, ◌≤◌, ℕ, List, [], ◌∷◌, Bool, ◌||◌, if◌then◌else◌, length, bytes_eq, codes, Option, Some, None, Result, Ok, Err, is_some, option_map, option_and_then}
use Rattle.std.specs.List.{prefix_len, filter_map}
use Rattle.std.specs.Str.Lines.{lines}
use Rattle.strategy_script.specs.declared.rule.Rule.{Rule}
use Rattle.strategy_script.specs.declared.script.Step.{Step}
use Rattle.strategy_script.specs.declared.script.ScriptNo.{ScriptNo}
use Rattle.strategy_script.specs.declared.script.ScriptNo.TheVariants.{Syntax, Limit, Memory}
use Rattle.strategy_script.specs.Lines.{first_word, behind_word, is_no_step}
use Rattle.strategy_script.specs.LocalSize.{local_in, local_of}
use Rattle.strategy_script.specs.Numbers.{number_of, place_of}
use Rattle.strategy_script.specs.RuleNames.{plain_named, numbered_named}
use Rattle.strategy_script.specs.Scripts.{PlainScript}

-- the rule, where no word follows
abbrev pub ended : List ℕ → Rule → Option Rule
ended behind rule = if bytes_eq (first_word behind) [] then Some rule else None

-- the rule of this name with the number behind it
abbrev pub numbered_rule : List ℕ → List ℕ → Option Rule
numbered_rule name behind =
    option_and_then (λ n. option_and_then (ended (behind_word behind)) (numbered_named name n))
    (number_of (first_word behind))

-- a rule without a number, or else one with a number
abbrev pub rule_named : List ℕ → List ℕ → Option Rule → Option Rule
rule_named name behind (Some rule) = ended behind rule
rule_named name behind None = numbered_rule name behind

-- the rule that the words name, with its number where it has one
abbrev pub rule_of : List ℕ → Option Rule
rule_of text = rule_named (first_word text) (behind_word text) (plain_named (first_word text))

-- the step of a place and a rule
abbrev pub step_behind : List ℕ → Option Step
step_behind text =
    option_and_then (λ place. option_map (λ rule. record { place = place; rule = rule })
    (rule_of (behind_word text)))
    (place_of (first_word text))

-- the step that a line is
abbrev pub step_of : List ℕ → Option Step
step_of line =
    if bytes_eq (first_word line) (codes "at") then step_behind (behind_word line) else None

-- the line is a step, or none
abbrev pub is_line : List ℕ → Bool
is_line line = is_some (step_of line) || is_no_step line

-- how many lines stand before the first that is neither
abbrev pub step_lines : List (List ℕ) → ℕ
step_lines lines = prefix_len is_line lines

-- the same, where the first line that isn't of no step may fix the local size
abbrev pub script_lines : List (List ℕ) → ℕ
script_lines [] = 0
script_lines (line ∷ lines) =
    if is_no_step line then 1 + script_lines lines
    else (if is_some (local_of line) then 1 + step_lines lines else step_lines (line ∷ lines))

-- how many lines of the text stand before the first that may not stand there
abbrev pub good_lines : List ℕ → ℕ
good_lines text = script_lines (lines text)

-- the steps among the lines
abbrev pub steps_in : List ℕ → List Step
steps_in text = filter_map step_of (lines text)

-- the local size that the lines fix, and the steps among them
abbrev pub script_in : List ℕ → PlainScript
script_in text = record { local = local_in (lines text); steps = steps_in text }

-- each line is a step or none, but for one before all steps that may fix the
-- local size; this is the script
pub record IsScript (text : List ℕ) (script : PlainScript) : Type 0 where
  pub all : good_lines text ≡ length (lines text)
  pub found : script ≡ script_in text

-- this line, counted from 1, is the first that may not stand where it does
pub record StopsAtLine (text : List ℕ) (line : ℕ) : Type 0 where
  pub there : good_lines text < length (lines text)
  pub counted : line ≡ good_lines text + 1

-- the text is a script's, and so many lines are steps, more than there may be
pub record HasTooManySteps (text : List ℕ) (count : ℕ) : Type 0 where
  pub script : IsScript text (script_in text)
  pub counted : count ≡ length (steps_in text)
  pub above : 256 < count

-- the script of a text, with at most 256 steps, or why it is none
abbrev pub ReadsScript : List ℕ → Result PlainScript ScriptNo → Type 0
ReadsScript text (Ok script) = IsScript text script × (length script.steps ≤ 256)
ReadsScript text (Err (Syntax line)) = StopsAtLine text line
ReadsScript text (Err (Limit which count)) = HasTooManySteps text count
ReadsScript text (Err Memory) = ⊥

-- why a text is refused; want of memory is free
abbrev pub RefusesScript : List ℕ → ScriptNo → Type 0
RefusesScript text (Syntax line) = StopsAtLine text line
RefusesScript text (Limit which count) = HasTooManySteps text count
RefusesScript text Memory = Unit {0}

-- ---- a text behind the line that may fix the local size
-- each line is a step or none, and these are the steps
pub record AreSteps (text : List ℕ) (steps : List Step) : Type 0 where
  pub all : step_lines (lines text) ≡ length (lines text)
  pub found : steps ≡ steps_in text

-- so many lines stand before the text; why its steps are refused
abbrev pub RefusesSteps : ℕ → List ℕ → ScriptNo → Type 0
RefusesSteps before text (Syntax line) =
    (step_lines (lines text) < length (lines text))
    × (line ≡ (before + step_lines (lines text)) + 1)
RefusesSteps before text (Limit which count) = ⊥
RefusesSteps before text Memory = Unit {0}
