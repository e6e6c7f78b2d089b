-- Which terms can stand in a map over work-groups.
use Rattle.std.specs.Prelude.{Bool, true, false}
use Rattle.lift_tree.specs.declared.term.Level.TheVariants.{Groups, Items}
use Rattle.lift_tree.specs.declared.term.Dimension.TheVariants.{X}
use Rattle.lift_ir.specs.Layouts.{IsInvertible}
use Rattle.lift_ir.specs.Forms.{Stands}
use Rattle.lift_ir.specs.Terms.{Over, LocalMemory, Term, Bound, Source, Both, Project, Reshape, LetArray, Map, Copy}

-- for the items of a group together, outside local maps: a local map seen through layouts and lets
-- (true), or an argument (false), whose copies to local memory are such
abbrev pub StandsInGroup : {A : Type 0} → (written : Bool) → Term A → Type 0
StandsInGroup true (Reshape y t) = IsInvertible y × StandsInGroup true t
StandsInGroup true (LetArray v b) = StandsInGroup false v × StandsInGroup true b
StandsInGroup true (Map (Over Items X) n loads xs b) = StandsInGroup false xs × Stands true b
StandsInGroup true _ = ⊥
StandsInGroup false (Bound v) = Unit {0}
StandsInGroup false (Source a) = Unit {0}
StandsInGroup false (Both true a b) = StandsInGroup false a × StandsInGroup false b
StandsInGroup false (Project s a) = StandsInGroup false a
StandsInGroup false (Reshape y a) = StandsInGroup false a
StandsInGroup false (LetArray v b) = StandsInGroup false v × StandsInGroup false b
StandsInGroup false (Copy LocalMemory ty a) = StandsInGroup true a
StandsInGroup false _ = ⊥

-- an argument of inputs alone
abbrev pub IsOfInputs : {A : Type 0} → Term A → Type 0
IsOfInputs (Bound v) = Unit {0}
IsOfInputs (Source a) = Unit {0}
IsOfInputs (Both true a b) = IsOfInputs a × IsOfInputs b
IsOfInputs (Project s a) = IsOfInputs a
IsOfInputs (Reshape y a) = IsOfInputs a
IsOfInputs (LetArray v b) = IsOfInputs v × IsOfInputs b
IsOfInputs _ = ⊥

-- a map over work-groups, through layouts and lets of inputs
abbrev pub StandsOverGroups : {A : Type 0} → Term A → Type 0
StandsOverGroups (Reshape y t) = IsInvertible y × StandsOverGroups t
StandsOverGroups (LetArray v b) = IsOfInputs v × StandsOverGroups b
StandsOverGroups (Map (Over Groups X) n loads xs b) = IsOfInputs xs × StandsInGroup true b
StandsOverGroups _ = ⊥
