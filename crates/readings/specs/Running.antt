-- The one reading there can be, where each form has at most one alternative for a token.
use Rattle.std.specs.Prelude.{◌≡◌, List, [], ◌∷◌, ◌++◌, Option, Some, None, Result, Ok, Err, Bool, true, cond, option_and_then}
use Rattle.readings.specs.Readings.{Owed, Token, Form, Mark, Grammar}

-- what decides a grammar: whether two tokens are the same, and which
-- alternative of a form begins with a token
pub record Table (T F M N : Type 0) : Type 0 where
  pub same : T → T → Bool
  pub row : N → F → T → Option (List (Owed T F M))
  pub marked : M → N → Option N

-- what is owed and noted after one token more
abbrev pub next : {T F M N : Type 0} → Table T F M N → List (Owed T F M) → N → T
    → Option (List (Owed T F M) × N)
next g [] n t = None
next g (Token a ∷ o) n t = cond (g.same a t) (Some (o, n)) None
next g (Form f ∷ o) n t = option_and_then (λ alt. Some (alt ++ o, n)) (g.row n f t)
next g (Mark m ∷ o) n t = option_and_then (λ n'. next g o n' t) (g.marked m n)

-- what is noted in the end, where nothing more is owed
abbrev pub last : {T F M N : Type 0} → Table T F M N → List (Owed T F M) → N → Option N
last g [] n = Some n
last g (Token a ∷ o) n = None
last g (Form f ∷ o) n = None
last g (Mark m ∷ o) n = option_and_then (λ n'. last g o n') (g.marked m n)

-- goes on with what is there, or refuses so where nothing is
abbrev pub or_refuse : {A B E : Type 0} → E → (A → Result B E) → Option A → Result B E
or_refuse e f (Some a) = f a
or_refuse e f None = Err e

-- all of a text: what is noted in the end, or the text from the first token on that is refused
abbrev pub run : {T F M N : Type 0} → Table T F M N → List (Owed T F M) → N → List T
    → Result N (List T)
run g o n [] = or_refuse [] (λ n'. Ok n') (last g o n)
run g o n (t ∷ ts) = or_refuse (t ∷ ts) (λ p. run g p.0 p.1 ts) (next g o n t)

-- the table is the grammar's
pub record Decides {T F M N : Type 0} (g : Grammar T F M N) (table : Table T F M N) : Type 0 where
  pub same : (a t : T) → table.same a t ≡ true → a ≡ t
  pub itself : (t : T) → table.same t t ≡ true
  pub found : (n : N) (f : F) (t : T) (alt : List (Owed T F M)) → table.row n f t ≡ Some alt
      → g.Gives n f t alt
  pub only : (n : N) (f : F) (t : T) (alt : List (Owed T F M)) → g.Gives n f t alt
      → table.row n f t ≡ Some alt
  pub marked : (m : M) (n : N) → table.marked m n ≡ g.marked m n
