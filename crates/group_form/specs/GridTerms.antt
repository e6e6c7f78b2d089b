-- Maps over work-groups and their items in two dimensions: which terms can stand in them, and their
-- phases' uses of local arrays.
use Rattle.std.specs.Prelude.{ℕ, ◌+◌, Bool, true, false, List, [], ◌∷◌, ◌++◌}
use Rattle.lift_tree.specs.declared.term.Level.TheVariants.{Groups, Items}
use Rattle.lift_tree.specs.declared.term.Dimension.{Dimension}
use Rattle.lift_tree.specs.declared.term.Dimension.TheVariants.{X, Y}
use Rattle.barrier_placement.specs.declared.touches.Touch.{Touch}
use Rattle.lift_ir.specs.Layouts.{IsInvertible}
use Rattle.lift_ir.specs.Forms.{Stands}
use Rattle.lift_ir.specs.Terms.{Over, LocalMemory, Term, Bound, Source, Both, Project, Reshape, LetArray, Map, Copy, push}
use Rattle.printed_form.specs.Counts.{local_count}
use Rattle.printed_form.specs.MapForms.{MapForms}
use Rattle.group_form.specs.Forms.{IsOfInputs}
use Rattle.group_form.specs.Origins.{Origin, Elsewhere, bent, origin_of}
use Rattle.group_form.specs.Uses.{Use, Destination, Locals, Outputs, loop_uses, numbered}

-- a map along a row of a group, seen through layouts, whose argument copies nothing
abbrev pub StandsAlongRow : {A : Type 0} → Term A → Type 0
StandsAlongRow (Reshape y t) = IsInvertible y × StandsAlongRow t
StandsAlongRow (Map (Over Items X) n loads xs b) = IsOfInputs xs × Stands true b
StandsAlongRow _ = ⊥

-- for the items of a group together, outside local maps: a local map over rows around one along a
-- row, seen through layouts and lets (true), or an argument (false), whose copies to local memory
-- are such
abbrev pub StandsInGrid : {A : Type 0} → (written : Bool) → Term A → Type 0
StandsInGrid true (Reshape y t) = IsInvertible y × StandsInGrid true t
StandsInGrid true (LetArray v b) = StandsInGrid false v × StandsInGrid true b
StandsInGrid true (Map (Over Items Y) n loads xs b) = StandsInGrid false xs × StandsAlongRow b
StandsInGrid true _ = ⊥
StandsInGrid false (Bound v) = Unit {0}
StandsInGrid false (Source a) = Unit {0}
StandsInGrid false (Both true a b) = StandsInGrid false a × StandsInGrid false b
StandsInGrid false (Project s a) = StandsInGrid false a
StandsInGrid false (Reshape y a) = StandsInGrid false a
StandsInGrid false (LetArray v b) = StandsInGrid false v × StandsInGrid false b
StandsInGrid false (Copy LocalMemory ty a) = StandsInGrid true a
StandsInGrid false _ = ⊥

-- a map over the groups of a row, seen through layouts
abbrev pub StandsAlongGroups : {A : Type 0} → Term A → Type 0
StandsAlongGroups (Reshape y t) = IsInvertible y × StandsAlongGroups t
StandsAlongGroups (Map (Over Groups X) n loads xs b) = IsOfInputs xs × StandsInGrid true b
StandsAlongGroups _ = ⊥

-- a map over rows of groups, through layouts and lets of inputs
abbrev pub StandsOverGrid : {A : Type 0} → Term A → Type 0
StandsOverGrid (Reshape y t) = IsInvertible y × StandsOverGrid t
StandsOverGrid (LetArray v b) = IsOfInputs v × StandsOverGrid b
StandsOverGrid (Map (Over Groups Y) n loads xs b) = IsOfInputs xs × StandsAlongGroups b
StandsOverGrid _ = ⊥

-- the forms of the maps over rows, and of those along them
pub record GridForms (A : Type 0) : Type 0 where
  pub rows : MapForms A
  pub columns : MapForms A

-- of the maps along this dimension
abbrev pub forms_along : {A : Type 0} → GridForms A → Dimension → MapForms A
forms_along forms X = forms.columns
forms_along forms Y = forms.rows

-- Uses. None in two dimensions is aligned

abbrev mutual
  -- the uses by each of an argument's phases, where variables have these origins and its first
  -- local array is this
  pub argument_uses : {A : Type 0} → (ℕ → Origin) → ℕ → Term A → List (List Use)
  argument_uses env k (Both zips a b) =
      argument_uses env k a ++ argument_uses env (k + local_count a) b
  argument_uses env k (Project s a) = argument_uses env k a
  argument_uses env k (Reshape l a) = argument_uses env k a
  argument_uses env k (LetArray v b) =
      argument_uses env k v ++ argument_uses (push (origin_of env k v) env) (k + local_count v) b
  argument_uses env k (Copy space ty a) = written_uses env k a (Locals (k + local_count a) ty)
  argument_uses env k _ = []

  -- and by those of a term in writing position
  pub written_uses : {A : Type 0} → (ℕ → Origin) → ℕ → Term A → Destination → List (List Use)
  written_uses env k (Reshape l a) d = written_uses env k a d
  written_uses env k (LetArray v b) d =
      argument_uses env k v ++ written_uses (push (origin_of env k v) env) (k + local_count v) b d
  written_uses env k (Map kind n loads xs b) d =
      argument_uses env k xs ++ loop_uses env (bent (origin_of env k xs)) loads b d false ∷ []
  written_uses env k _ d = []

-- of a map over the groups of a row
abbrev pub row_uses : {A : Type 0} → Term A → List (List Use)
row_uses (Reshape l t) = row_uses t
row_uses (Map kind n loads xs b) = written_uses (λ v. Elsewhere) 0 b Outputs
row_uses _ = []

-- of a whole term
abbrev pub grid_uses : {A : Type 0} → Term A → List (List Use)
grid_uses (Reshape l t) = grid_uses t
grid_uses (LetArray v b) = grid_uses b
grid_uses (Map kind n loads xs b) = row_uses b
grid_uses _ = []

-- the uses by all its phases
abbrev pub grid_touches : {A : Type 0} → Term A → List Touch
grid_touches t = numbered 0 (grid_uses t)
