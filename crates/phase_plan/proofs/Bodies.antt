-- What stands in a group, or in rows of groups, is gone through phase by phase.
use Rattle.std.proofs.Common.{Bool, true, false}
use Rattle.lift_tree.specs.declared.term.Level.TheVariants.{Groups, Items}
use Rattle.lift_tree.specs.declared.term.Dimension.TheVariants.{X, Y}
use Rattle.lift_ir.specs.Terms.{Kind, Over, LoadSet, Term, Bound, Source, Both, Project, Reshape, LetArray, Map, Copy, LocalMemory}
use Rattle.group_form.specs.Forms.{StandsInGroup, StandsOverGroups}
use Rattle.group_form.specs.GridTerms.{StandsAlongGroups, StandsInGrid}
use Rattle.phase_plan.specs.Bodies.{IsOfPhases}

in_group : {A : Type 0} (w : Bool) (t : Term A) → StandsInGroup w t → IsOfPhases w t
in_group true (Reshape y t) h = in_group true t h.1
in_group true (LetArray v b) h = (in_group false v h.0, in_group true b h.1)
in_group true (Map (Over Items X) n loads xs b) h = in_group false xs h.0
in_group true _ h = absurd h
in_group false (Bound v) h = tt
in_group false (Source a) h = tt
in_group false (Both true a b) h = (in_group false a h.0, in_group false b h.1)
in_group false (Project s a) h = in_group false a h
in_group false (Reshape y a) h = in_group false a h
in_group false (LetArray v b) h = (in_group false v h.0, in_group false b h.1)
in_group false (Copy LocalMemory ty a) h = in_group true a h
in_group false _ h = absurd h

in_grid : {A : Type 0} (w : Bool) (t : Term A) → StandsInGrid w t → IsOfPhases w t
in_grid true (Reshape y t) h = in_grid true t h.1
in_grid true (LetArray v b) h = (in_grid false v h.0, in_grid true b h.1)
in_grid true (Map (Over Items Y) n loads xs b) h = in_grid false xs h.0
in_grid true _ h = absurd h
in_grid false (Bound v) h = tt
in_grid false (Source a) h = tt
in_grid false (Both true a b) h = (in_grid false a h.0, in_grid false b h.1)
in_grid false (Project s a) h = in_grid false a h
in_grid false (Reshape y a) h = in_grid false a h
in_grid false (LetArray v b) h = (in_grid false v h.0, in_grid false b h.1)
in_grid false (Copy LocalMemory ty a) h = in_grid true a h
in_grid false _ h = absurd h

-- the body of a map over groups, and of one over the groups of a row
pub of_groups : {A : Type 0} (k : Kind) (n : A) (loads : LoadSet) (xs b : Term A) → StandsOverGroups (Map k n loads xs b) → IsOfPhases true b
of_groups (Over Groups X) n loads xs b h = in_group true b h.1
of_groups _ n loads xs b h = absurd h

pub of_row : {A : Type 0} (k : Kind) (n : A) (loads : LoadSet) (xs b : Term A) → StandsAlongGroups (Map k n loads xs b) → IsOfPhases true b
of_row (Over Groups X) n loads xs b h = in_grid true b h.1
of_row _ n loads xs b h = absurd h
