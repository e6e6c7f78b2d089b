-- The lines of a script's terms, written one after another.
use Rattle.std.proofs.Common.{◌≡◌, ℕ, ◌+◌, List, [], ◌∷◌, ◌++◌, length, arith, refl, sym, ap, ◌∙◌, append_assoc, append-nil}
use Rattle.std.specs.Prelude.{Ok}
use Rattle.lift_tree.specs.declared.typed.Typed.{Typed}
use Rattle.lift_tree.specs.Programs.{PlainProgram, program_of}
use Rattle.strategy_script.specs.declared.script.Step.{Step}
use Rattle.strategy_script.specs.ScriptLines.{AreLines, KeepTheSource, line_of, term_lines}
use Rattle.strategy_script.specs.Steps.{State, IsAfter, IsReady, at_step, state_of, stepped}
use Rattle.strategy_script.proofs.Listed.{IsRunning, begins, ends, goes_on}

-- one term more behind others
more_keep : (source current : Typed) (front : List State) → KeepTheSource source front → IsAfter source current → KeepTheSource source (front ++ state_of current ∷ [])
more_keep source current [] h after = (after.keeps, tt)
more_keep source current (s ∷ front) h after = (h.0, more_keep source current front h.1 after)

more_lines : (p : PlainProgram) (front : List State) (s : State) → term_lines p (front ++ s ∷ []) ≡ term_lines p front ++ line_of p s
more_lines p [] s = append-nil (line_of p s)
more_lines p (t ∷ front) s = ap (λ (w : List ℕ). line_of p t ++ w) (more_lines p front s) ∙ sym (append_assoc (line_of p t) (term_lines p front) (line_of p s))

-- a script that is being run, with the lines of the terms before the one at hand
pub record AreWritten (p : PlainProgram) (all rest : List Step) (made : ℕ) (source current : Typed) (text : List ℕ) : Type 0 where
  pub front : List State
  pub running : IsRunning p all rest made source current front
  pub keep : KeepTheSource source front
  pub written : text ≡ term_lines p front

pub begin_lines : (all rest : List Step) (source : Typed) (text : List ℕ) → text ≡ [] → rest ≡ all → IsReady source → AreWritten (program_of source.program) all rest 0 source source text
begin_lines all rest source text none e h = record { front = []; running = begins all rest source e h; keep = tt; written = none }

-- the line of the term at hand, behind those
one_more : (source current : Typed) (all rest : List Step) (k : ℕ) (text more : List ℕ) → more ≡ text ++ line_of (program_of current.program) (state_of current)
    → (h : AreWritten (program_of source.program) all rest k source current text) → more ≡ term_lines (program_of source.program) (h.front ++ state_of current ∷ [])
one_more source current all rest k text more e h =
    e
    ∙ ap (λ (p : PlainProgram). text ++ line_of p (state_of current)) h.running.after.program
    ∙ ap (λ (w : List ℕ). w ++ line_of (program_of source.program) (state_of current)) h.written
    ∙ sym (more_lines (program_of source.program) h.front (state_of current))

pub lines_go_on : (source current next : Typed) (all rest further : List Step) (step : Step) (k : ℕ) (text more : List ℕ) → more ≡ text ++ line_of (program_of current.program) (state_of current)
    → rest ≡ step ∷ further → AreWritten (program_of source.program) all rest k source current text
    → at_step (k + 1) (stepped (program_of current.program) step (state_of current)) ≡ Ok (state_of next) → ((a : Typed) → IsAfter a current → IsAfter a next) → IsReady next
    → AreWritten (program_of source.program) all further (k + 1) source next more
lines_go_on source current next all rest further step k text more e is h made after ready = record {
  front = h.front ++ state_of current ∷ [];
  running = goes_on source current next all rest further step k h.front is h.running made after ready;
  keep = more_keep source current h.front h.keep h.running.after;
  written = one_more source current all rest k text more e h;
}

pub none_left : (rest : List Step) → length rest ≡ 0 → rest ≡ []
none_left [] e = refl
none_left (s ∷ rest) e = absurd (omega (arith, e))

pub all_lines : (source current : Typed) (all rest : List Step) (k : ℕ) (text more : List ℕ) → more ≡ text ++ line_of (program_of current.program) (state_of current)
    → rest ≡ [] → AreWritten (program_of source.program) all rest k source current text → AreLines source all more
all_lines source current all rest k text more e is h = record {
  terms = h.front ++ state_of current ∷ [];
  made = ends source current all rest k h.front is h.running;
  keep = more_keep source current h.front h.keep h.running.after;
  written = one_more source current all rest k text more e h;
}
