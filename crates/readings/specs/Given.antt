-- What the parts of a reader answer.
use Rattle.std.specs.Prelude.{◌≡◌, List, ◌++◌, Option, Some, None, Result, Bool, cond, IfOk, option_map}
use Rattle.std.specs.declared.alloc.AllocError.{AllocError}

-- The alternative, where there is one, was put before all that was owed. `items` is
-- what the code's list stands for.
abbrev pub Gave : {A I : Type 0} → (items : List A → List I) → Result Bool AllocError
    → (old new : List A) → Option (List I) → Type 0
Gave items result old new alternative =
    IfOk result
    (λ found. cond found (Some (items new)) None
    ≡ option_map (λ given. given ++ items old) alternative)

-- what there is now is what was to be made, where something was
abbrev pub Noticed : {N : Type 0} → Result Bool AllocError → (wanted : Option N) → (now : N)
    → Type 0
Noticed result wanted now = IfOk result (λ made. cond made (Some now) None ≡ wanted)
