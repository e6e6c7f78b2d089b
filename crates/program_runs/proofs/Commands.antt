-- What is said of the texts of a command's files is said of the command.
use Rattle.std.proofs.Common.{◌≡◌, ◌⊎◌, ℕ, List, Global, inl, subst, sym, Result, Ok, Err}
use Rattle.std.specs.Prelude.{IfErr, IfOk, Vec}
use Rattle.fault_lines.specs.Failure.{Memory}
use Rattle.fault_lines.specs.Shown.{failure_of}
use Rattle.fault_lines.specs.declared.failure.Failure as code
use Rattle.program_runs.specs.Table.{Stops, Writes}
use Rattle.program_runs.specs.declared.command.Command.{Command}
use Rattle.program_runs.specs.declared.command.Command.TheVariants.{Demo}

-- what a call answers
abbrev pub Answer : Type 0
Answer = Result (Vec ℕ Global) code.Failure

-- an answer is what a command writes
abbrev pub AnswerWrites : Command → (texts : List (List ℕ)) → Answer → Type 0
AnswerWrites command texts answer = IfOk answer (λ text. Writes command texts text.items)

-- an answer is what stops a command, or want of memory
abbrev pub AnswerStops : Command → (texts : List (List ℕ)) → Answer → Type 0
AnswerStops command texts answer = IfErr answer (λ no. (failure_of no ≡ Memory) ⊎ Stops command texts (failure_of no))

-- ---- of two texts and of three

pub of_two : (F : List ℕ → List ℕ → Type 0) {p s p' s' : List ℕ} → p ≡ p' → s ≡ s' → F p s → F p' s'
of_two F {s = s} {p' = p'} first second h = subst (λ y. F p' y) second (subst (λ x. F x s) first h)

pub of_three : (F : List ℕ → List ℕ → List ℕ → Type 0) {p s l p' s' l' : List ℕ} → p ≡ p' → s ≡ s' → l ≡ l' → F p s l → F p' s' l'
of_three F {s = s} {l = l} {p' = p'} {s' = s'} first second third h = subst (λ z. F p' s' z) third (subst (λ y. F p' y l) second (subst (λ x. F x s l) first h))

-- ---- of a command that is told

pub writes_as : (command known : Command) (texts : List (List ℕ)) (answer : Answer) → command ≡ known → AnswerWrites known texts answer → AnswerWrites command texts answer
writes_as command known texts answer is h = subst (λ k. AnswerWrites k texts answer) (sym is) h

pub stops_as : (command known : Command) (texts : List (List ℕ)) (answer : Answer) → command ≡ known → AnswerStops known texts answer → AnswerStops command texts answer
stops_as command known texts answer is h = subst (λ k. AnswerStops k texts answer) (sym is) h

-- a demo wants memory alone
pub demo_stops : (seed : ℕ) (texts : List (List ℕ)) (answer : Answer) → IfErr answer (λ no. failure_of no ≡ Memory) → AnswerStops (Demo seed) texts answer
demo_stops seed texts (Ok text) memory = tt
demo_stops seed texts (Err why) memory = inl memory
