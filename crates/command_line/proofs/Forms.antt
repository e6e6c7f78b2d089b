-- Each command takes its plain form, and reads just what it says.
use Rattle.std.proofs.Common.{◌≡◌, ◌∙◌, refl, sym, ap, ap₂, List, [], ◌++◌, true, false, Some, Option}
use Rattle.std.specs.Prelude.{find, fold, is_some, option_map}
use Rattle.std.specs.List.{list_all}
use Rattle.std.specs.Option.{option_map_or}
use Rattle.clap.specs.Words.{App, Shape, Text, Kinds, built, fault_of}
use Rattle.clap.specs.Faults.{built_fault, level_fault, turn_fault, walk_fault, entered_fault}
use Rattle.clap.specs.Kinds.{or_else}
use Rattle.clap.specs.Simple.{entered, names_of, label_of, rows_at}
use Rattle.clap.specs.Walk.{Walk, walked, walk, walk_from, nothing_held, answers_to, stop_after, finished}
use Rattle.clap.proofs.FaultLemmas.{stopped_fault}
use Rattle.clap.proofs.WalkLemmas.{walk_stopped}
use Rattle.clap.proofs.OnLiterals.{clap_on_literals}
use Rattle.command_line.specs.App.{lift_command}
use Rattle.command_line.specs.Requests.{Asks, CommandLine, compile, run, cost, eval, steps, stages, run_stages, demo, line_at, line_entered, line_in, IsTaken, name_of, arguments_of, flags_of, words_of, is_plain, is_plain_word}
use Rattle.command_line.proofs.Plain.{Takes, end_after, end_fault, level-clean, rows-plain, stands_after}
use Rattle.command_line.proofs.Seeds.{decimals_are_plain, seed_of-decimal}

unfoldable pub lift_built : App
lift_built = built lift_command

-- the subcommand of this name was met, and no word is left to the command itself
abbrev stopped : Text → List Text → Walk
stopped name words = record (walk_from nothing_held) { stopped = Some (name, words) }

pub record Form (line : CommandLine) : Type 0 where
  pub shape : Shape
  pub met : walked lift_built.top.rules (names_of lift_built) (walk_from nothing_held) (name_of line) ≡ stopped (name_of line) []
  pub turn : turn_fault lift_built.top (names_of lift_built) (walk_from nothing_held) (name_of line) ≡ []
  pub found : find (λ (s : Shape). answers_to (name_of line) (label_of s)) lift_built.subs ≡ Some shape
  pub takes : Takes shape nothing_held 1 (arguments_of line)
  pub flagged : walk_fault shape [] (stands_after shape (arguments_of line)) (flags_of line) ≡ []
  pub ends : end_fault shape (end_after shape (arguments_of line) (flags_of line)) false ≡ []
  pub says : line_at shape.name (finished shape.rules (end_after shape (arguments_of line) (flags_of line))) ≡ Some line

forms : (line : CommandLine) → is_plain line ≡ true → Form line
unfolding lift_built clap_on_literals
forms (compile p s) e = record { shape = _; met = refl; turn = refl; found = refl; takes = (refl, refl, (refl, refl, tt)); flagged = refl; ends = refl; says = refl }
forms (run p s l false) e = record { shape = _; met = refl; turn = refl; found = refl; takes = (refl, refl, (refl, refl, (refl, refl, tt))); flagged = refl; ends = refl; says = refl }
forms (run p s l true) e = record { shape = _; met = refl; turn = refl; found = refl; takes = (refl, refl, (refl, refl, (refl, refl, tt))); flagged = refl; ends = refl; says = refl }
forms (cost p s l false) e = record { shape = _; met = refl; turn = refl; found = refl; takes = (refl, refl, (refl, refl, (refl, refl, tt))); flagged = refl; ends = refl; says = refl }
forms (cost p s l true) e = record { shape = _; met = refl; turn = refl; found = refl; takes = (refl, refl, (refl, refl, (refl, refl, tt))); flagged = refl; ends = refl; says = refl }
forms (eval p l) e = record { shape = _; met = refl; turn = refl; found = refl; takes = (refl, refl, (refl, refl, tt)); flagged = refl; ends = refl; says = refl }
forms (steps p s) e = record { shape = _; met = refl; turn = refl; found = refl; takes = (refl, refl, (refl, refl, tt)); flagged = refl; ends = refl; says = refl }
forms (stages p s) e = record { shape = _; met = refl; turn = refl; found = refl; takes = (refl, refl, (refl, refl, tt)); flagged = refl; ends = refl; says = refl }
forms (run_stages p s l) e = record { shape = _; met = refl; turn = refl; found = refl; takes = (refl, refl, (refl, refl, (refl, refl, tt))); flagged = refl; ends = refl; says = refl }
forms (demo x) e = record { shape = _; met = refl; turn = refl; found = refl; takes = (refl, refl, tt); flagged = refl; ends = refl; says = ap (option_map demo) (seed_of-decimal x e) }

-- no word of a plain command line's begins with a hyphen
plain-words : (line : CommandLine) → is_plain line ≡ true → list_all is_plain_word (arguments_of line) ≡ true
plain-words (compile p s) e = e
plain-words (run p s l traced) e = e
plain-words (cost p s l by_items) e = e
plain-words (eval p l) e = e
plain-words (steps p s) e = e
plain-words (stages p s) e = e
plain-words (run_stages p s l) e = e
plain-words (demo x) e = decimals_are_plain x e

-- the command itself has no argument, and wants the subcommand that was entered
top-ends : end_fault lift_built.top nothing_held true ≡ []
unfolding lift_built clap_on_literals
top-ends = refl

walk-named : (line : CommandLine) → Form line
    → walk lift_built.top.rules (names_of lift_built) nothing_held (words_of line) ≡ stopped (name_of line) (arguments_of line ++ flags_of line)
walk-named line f =
    ap (λ (w : Walk). fold (walked lift_built.top.rules (names_of lift_built)) w (arguments_of line ++ flags_of line)) f.met
    ∙ sym (walk_stopped lift_built.top.rules (names_of lift_built) (walk_from nothing_held) (name_of line) [] (arguments_of line ++ flags_of line))

name-clean : (line : CommandLine) → Form line → walk_fault lift_built.top (names_of lift_built) (walk_from nothing_held) (words_of line) ≡ []
unfolding walk_fault
name-clean line f = ap₂ or_else f.turn
    (ap (λ (w : Walk). walk_fault lift_built.top (names_of lift_built) w (arguments_of line ++ flags_of line)) f.met
    ∙ stopped_fault lift_built.top (names_of lift_built) (walk_from nothing_held) (name_of line, []) (arguments_of line ++ flags_of line))

-- what is wrong after the command's own words, where the walk over them ended so
abbrev rest_fault : Walk → Kinds
rest_fault w = or_else (entered_fault lift_built w.stopped) (end_fault lift_built.top w.held (is_some (entered lift_built w.stopped)))

abbrev below : List Text → Option Shape → Kinds
below words sub = or_else (option_map_or (λ (s : Shape). level_fault s [] nothing_held words false []) sub [])
    (end_fault lift_built.top nothing_held (is_some (option_map (λ (s : Shape). rows_at s words) sub)))

form-clean : (line : CommandLine) → Form line → is_plain line ≡ true → built_fault lift_built nothing_held (words_of line) ≡ []
form-clean line f e =
    ap₂ or_else (name-clean line f) (ap rest_fault (walk-named line f)
    ∙ ap (below (arguments_of line ++ flags_of line)) f.found
    ∙ ap₂ or_else (level-clean f.shape (arguments_of line) (flags_of line) (plain-words line e) f.takes f.flagged f.ends) top-ends)

plain-taken : (line : CommandLine) → is_plain line ≡ true → IsTaken (words_of line)
unfolding lift_built
plain-taken line e = form-clean line (forms line e) e

form-read : (line : CommandLine) → Form line → is_plain line ≡ true
    → line_entered (entered lift_built (stop_after lift_built.top.rules (names_of lift_built) (words_of line))) ≡ Some line
form-read line f e =
    ap (λ (w : Walk). line_entered (entered lift_built w.stopped)) (walk-named line f)
    ∙ ap (λ (sub : Option Shape). line_entered (option_map (λ (s : Shape). rows_at s (arguments_of line ++ flags_of line)) sub)) f.found
    ∙ ap (line_at f.shape.name) (rows-plain f.shape (arguments_of line) (flags_of line) (plain-words line e) f.takes)
    ∙ f.says

plain-read : (line : CommandLine) → is_plain line ≡ true → line_in (words_of line) ≡ Some line
unfolding lift_built
plain-read line e = form-read line (forms line e) e

-- words of just the form ask for just what they say
pub plain-asks : (words : List Text) (line : CommandLine) → is_plain line ≡ true → words ≡ words_of line → Asks words line
plain-asks words line e w = record { taken = ap (fault_of lift_command) w ∙ plain-taken line e; says = ap line_in w ∙ plain-read line e }
