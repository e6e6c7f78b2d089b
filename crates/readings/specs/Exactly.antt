-- What a reading of a whole text answers.
use Rattle.std.specs.Prelude.{◌≡◌, ℕ, ◌≤◌, List, length, take, drop, Result, Ok, Err}
use Rattle.readings.specs.declared.error.ReadError.{ReadError}
use Rattle.readings.specs.declared.error.ReadError.TheVariants.{Memory, Refused}
use Rattle.readings.specs.Readings.{Owed, Grammar, GoesOn, Stops}

-- The text goes on at its first i tokens, and not at what comes then: its next token, or its end.
pub record StopsAt {T F M N : Type 0} (g : Grammar T F M N) (o : List (Owed T F M)) (n : N)
    (ts : List T) (i : ℕ) : Type 0 where
  pub inside : i ≤ length ts
  pub before : GoesOn g o n (take i ts)
  pub there : Stops g o n (take i ts) (drop i ts)

-- an error: want of memory, or how many tokens stand before the first that is refused
abbrev pub Refuses : {T F M N : Type 0} → Grammar T F M N → List (Owed T F M) → N → List T
    → ReadError → Type 0
Refuses g o n ts Memory = Unit {0}
Refuses g o n ts (Refused i) = StopsAt g o n ts i

-- these notes, unless memory ran out
abbrev pub Answers : {A N : Type 0} → (A → N) → N → Result A ReadError → Type 0
Answers noted n (Ok x) = noted x ≡ n
Answers noted n (Err Memory) = Unit {0}
Answers noted n (Err (Refused i)) = ⊥
