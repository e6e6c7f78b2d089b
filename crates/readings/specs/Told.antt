-- What running tells.
use Rattle.std.specs.Prelude.{◌≡◌, ◌≤◌, List, length, drop, Result, Ok, Err}
use Rattle.readings.specs.declared.error.ReadError.{ReadError}
use Rattle.readings.specs.declared.error.ReadError.TheVariants.{Memory, Refused}
use Rattle.readings.specs.Readings.{Owed}
use Rattle.readings.specs.Running.{Table, run}

-- the whole text read and what is noted, the number of the refused token, or want of memory
abbrev pub Tells : {A T F M N : Type 0} → (A → N) → Table T F M N → List (Owed T F M) → N → List T
    → Result A ReadError → Type 0
Tells noted b o n ts (Ok x) = run b o n ts ≡ Ok (noted x)
Tells noted b o n ts (Err Memory) = Unit {0}
Tells noted b o n ts (Err (Refused i)) = (i ≤ length ts) × (run b o n ts ≡ Err (drop i ts))
