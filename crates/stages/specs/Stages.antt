-- Stages that follow one another: the first that stops says why.
use Rattle.std.specs.Prelude.{◌≡◌, ◌⊎◌, Result, Ok, Err}

-- what one stage and then another come to: the first stops, or the second goes on from what it made
abbrev pub Then : {A B E : Type 0} → (Result A E → Type 0) → (A → Result B E → Type 0) → Result B E
    → Type 0
Then {A = A} R S (Ok b) = (a : A) × R (Ok a) × S a (Ok b)
Then {A = A} R S (Err e) = R (Err e) ⊎ ((a : A) × R (Ok a) × S a (Err e))

-- a stage whose refusals are told so
abbrev pub As : {A E F : Type 0} → (E → F) → (Result A E → Type 0) → Result A F → Type 0
As tell R (Ok a) = R (Ok a)
As {E = E} tell R (Err f) = (e : E) × R (Err e) × (f ≡ tell e)

-- this, and nothing else
abbrev pub Gives : {A E : Type 0} → A → Result A E → Type 0
Gives a r = r ≡ Ok a

-- a stage of which it is told only that it passes, or why it stops
abbrev pub Passed : {A E : Type 0} → (Result A E → Type 0) → Result (Unit {0}) E → Type 0
Passed {A = A} R (Ok u) = (a : A) × R (Ok a)
Passed R (Err e) = R (Err e)

-- at most one answer
abbrev pub IsOne : {A : Type 0} → (A → Type 0) → Type 0
IsOne {A = A} P = (a b : A) → P a → P b → a ≡ b
