-- Which terms can stand where.
use Rattle.std.specs.Prelude.{Bool, true, false}
use Rattle.lift_tree.specs.declared.term.Level.TheVariants.{Launch}
use Rattle.lift_tree.specs.declared.term.Dimension.TheVariants.{X, Y}
use Rattle.lift_ir.specs.Layouts.{IsInvertible}
use Rattle.lift_ir.specs.Terms.{Over, Sequential, PrivateMemory, Term, Bound, Source, Both, Project, Reshape, LetArray, LetElement, Map, Fold, Store, Copy}

-- a term that can stand in writing position (true), or as an argument (false), for one work-item
abbrev pub Stands : {A : Type 0} → Bool → Term A → Type 0
Stands true (Store ty t) = Unit {0}
Stands true (Reshape y t) = IsInvertible y × Stands true t
Stands true (LetArray v b) = Stands false v × Stands true b
Stands true (LetElement ty v b) = Stands true b
Stands true (Map Sequential n loads xs b) = Stands false xs × Stands true b
Stands true (Fold n loads ty xs s b) = Stands false xs
Stands true _ = ⊥
Stands false (Bound v) = Unit {0}
Stands false (Source v) = Unit {0}
Stands false (Both zips a b) = Stands false a × Stands false b
Stands false (Project s a) = Stands false a
Stands false (Reshape y a) = Stands false a
Stands false (LetArray v b) = Stands false v × Stands false b
Stands false (Copy PrivateMemory ty a) = Stands true a
Stands false _ = ⊥

-- a map along a row of the launch, seen through layouts
abbrev pub StandsAlongRow : {A : Type 0} → Term A → Type 0
StandsAlongRow (Reshape y t) = IsInvertible y × StandsAlongRow t
StandsAlongRow (Map (Over Launch X) n loads xs b) = Stands false xs × Stands true b
StandsAlongRow _ = ⊥

-- a map over the launch, through layouts and lets of arrays
abbrev pub StandsOverLaunch : {A : Type 0} → Term A → Type 0
StandsOverLaunch (Reshape y t) = IsInvertible y × StandsOverLaunch t
StandsOverLaunch (LetArray v b) = Stands false v × StandsOverLaunch b
StandsOverLaunch (Map (Over Launch X) n loads xs b) = Stands false xs × Stands true b
StandsOverLaunch (Map (Over Launch Y) n loads xs b) = Stands false xs × StandsAlongRow b
StandsOverLaunch _ = ⊥
