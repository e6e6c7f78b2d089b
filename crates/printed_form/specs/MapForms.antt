-- By which statement a map's turns are made, and which code is printed for a map in each form: with
-- a fixed local size some maps need no loop.
use Rattle.std.specs.Prelude.{◌≡◌, ◌≤◌, ◌<◌, ◌^◌, ℕ, Bool, true, false, List, [], ◌∷◌, ◌++◌, Some}
use Rattle.lift_tree.specs.declared.term.Level.TheVariants.{Groups}
use Rattle.lift_tree.specs.declared.term.Dimension.{Dimension}
use Rattle.kernel_tree.specs.Formula.{Formula, bound_value}
use Rattle.kernel_tree.specs.Code.{Start, Stride, start_value, Code, End, Loops, Guards}
use Rattle.kernel_tree.specs.Launch.{Launch, ids_of}
use Rattle.lift_ir.specs.Terms.{Kind, Over}
use Rattle.printed_form.specs.Marks.{Marks}
use Rattle.printed_form.specs.Form.{start_of, stride_of, IsTurn}

-- a loop; an `if`, of which an item takes one turn at most; or no statement, where it takes just
-- one
pub data MapForm : Type 0 where
  Looped Guarded Alone : MapForm

-- the form of each local map by its length, and whether a map over work-groups is an `if`
pub record MapForms (A : Type 0) : Type 0 where
  pub local : A → MapForm
  pub once : A → Bool

-- without a fixed local size each map is a loop
abbrev pub all_loops : {A : Type 0} → MapForms A
all_loops = record { local = λ n. Looped; once = λ n. false }

-- the form of a map over work-groups
abbrev pub form_over_groups : (once : Bool) → MapForm
form_over_groups false = Looped
form_over_groups true = Guarded

-- the statement of a map in a form, with nothing behind it
abbrev pub statement_of : MapForm → Start → Stride → (bound : Formula) → (body : Code) → Code
statement_of Looped s c b body = Loops s b c body End
statement_of Guarded s c b body = Guards s b body End
statement_of Alone s c b body = body

-- and of a map over work-groups along this dimension
abbrev pub statement_over_groups : Dimension → (once : Bool) → (bound : Formula) → (body : Code)
    → Code
statement_over_groups d once b body =
    statement_of (form_over_groups once) (start_of (Over Groups d)) (stride_of (Over Groups d)) b
    body

-- the variables of the loops around a map's turn: a loop alone has one
abbrev pub variables_in : MapForm → (around : List ℕ) → (turn : ℕ) → List ℕ
variables_in Looped ts i = ts ++ i ∷ []
variables_in Guarded ts i = ts
variables_in Alone ts i = ts

-- at a launch a form makes just the turns of a local map of this length
abbrev pub MakesTurns : MapForm → (len : ℕ) → Launch → Type 0
MakesTurns Looped n l = Unit {0}
MakesTurns Guarded n l = n ≤ l.local.0
MakesTurns Alone n l = n ≡ l.local.0

-- so does each that a map can be as long as
pub record MakeTurns {A : Type 0} (forms : MapForms A) (num : A → ℕ) (l : Launch) : Type 0 where
  pub local : (n : A) → num n < 2 ^ 31 → MakesTurns (forms.local n) (num n) l
  pub once : (n : A) → forms.once n ≡ true → num n ≡ 1

-- the code of a turn, in loops with these variables: from where it begins to where it ends
abbrev pub TurnCode : Type 1
TurnCode = (variables : List ℕ) → (turn : ℕ) → (code rest : Code) → Type 0

-- a map over n in a form, each of whose turns that the item takes, from this start on by this
-- stride, is printed so
abbrev pub AreTurnsFrom : Launch → (item : ℕ) → MapForm → Start → Stride → (around : List ℕ) → ℕ
    → TurnCode → (code rest : Code) → Type 0
AreTurnsFrom l item Looped s c ts n B code rest =
    (b : Formula) × (body : Code) × (code ≡ Loops s b c body rest)
    × (bound_value l.sizes b ≡ Some n)
    × ((i : ℕ) → i < n → IsTurn l item s c i → B (ts ++ i ∷ []) i body End)
AreTurnsFrom l item Guarded s c ts n B code rest =
    (b : Formula) × (body : Code) × (code ≡ Guards s b body rest)
    × (bound_value l.sizes b ≡ Some n)
    × ((i : ℕ) → i < n → i ≡ start_value (ids_of l item) s → B ts i body End)
AreTurnsFrom l item Alone s c ts n B code rest =
    (i : ℕ) → i < n → i ≡ start_value (ids_of l item) s → B ts i code rest

-- as this item comes there
module _ (l : Launch) (item : ℕ) (ins : ℕ → Marks) where
  -- a turn that the item takes of a map of a kind in an `if`: its id
  abbrev pub IsOwnTurn : Kind → ℕ → Type 0
  IsOwnTurn k i = i ≡ start_value (ids_of l item) (start_of k)

  -- a map of a kind over n in a form, each of whose turns that the item takes is printed so
  abbrev pub AreTurns : MapForm → Kind → (around : List ℕ) → ℕ → TurnCode → (code rest : Code)
      → Type 0
  AreTurns form k ts n B code rest =
      AreTurnsFrom l item form (start_of k) (stride_of k) ts n B code rest
