-- What a term stands as, it stands as in one way.
use Rattle.std.proofs.Common.{Bool, true, false}
use Rattle.std.specs.Coded.{×_prop, Unit-prop}
use Rattle.lift_tree.specs.declared.term.Level.TheVariants.{Groups, Items}
use Rattle.lift_tree.specs.declared.term.Dimension.TheVariants.{X, Y}
use Rattle.lift_ir.specs.Layouts.{IsInvertible, Layout, Slide, Pad}
use Rattle.lift_ir.specs.Forms.{Stands}
use Rattle.lift_ir.specs.Terms.{Term, Literal, Bound, Source, Apply, ApplyNumber, ApplyLanes, DivideLanes, Select, Both, Project, Reshape, LetArray, LetElement, Map, Fold, Store, Copy, Over, Sequential, LocalMemory, PrivateMemory}
use Rattle.group_form.specs.Forms.{IsOfInputs, StandsInGroup, StandsOverGroups}
use Rattle.group_form.specs.GridTerms.{StandsAlongGroups, StandsAlongRow, StandsInGrid, StandsOverGrid}

never : IsProp ⊥
never a b = absurd a

invertible_once : {A : Type 0} → (y : Layout A) → IsProp (IsInvertible y)
invertible_once (Slide s k) = never
invertible_once (Pad l r k) = never
invertible_once _ = Unit-prop

stands_once : {A : Type 0} → (w : Bool) (t : Term A) → IsProp (Stands w t)
stands_once true (Literal c) = never
stands_once true (Bound v) = never
stands_once true (Source v) = never
stands_once true (Apply o a b) = never
stands_once true (ApplyNumber o n a) = never
stands_once true (ApplyLanes o l r a b) = never
stands_once true (DivideLanes o n a) = never
stands_once true (Select c a b) = never
stands_once true (Both z a b) = never
stands_once true (Project s a) = never
stands_once true (Reshape y t) = ×_prop (invertible_once y) (stands_once true t)
stands_once true (LetArray v b) = ×_prop (stands_once false v) (stands_once true b)
stands_once true (LetElement ty v b) = stands_once true b
stands_once true (Map Sequential n loads xs b) = ×_prop (stands_once false xs) (stands_once true b)
stands_once true (Map (Over _ _) n loads xs b) = never
stands_once true (Fold n loads ty xs s b) = stands_once false xs
stands_once true (Store ty a) = Unit-prop
stands_once true (Copy space ty a) = never
stands_once false (Literal c) = never
stands_once false (Bound v) = Unit-prop
stands_once false (Source v) = Unit-prop
stands_once false (Apply o a b) = never
stands_once false (ApplyNumber o n a) = never
stands_once false (ApplyLanes o l r a b) = never
stands_once false (DivideLanes o n a) = never
stands_once false (Select c a b) = never
stands_once false (Both z a b) = ×_prop (stands_once false a) (stands_once false b)
stands_once false (Project s a) = stands_once false a
stands_once false (Reshape y a) = stands_once false a
stands_once false (LetArray v b) = ×_prop (stands_once false v) (stands_once false b)
stands_once false (LetElement ty v b) = never
stands_once false (Map k n loads xs b) = never
stands_once false (Fold n loads ty xs s b) = never
stands_once false (Store ty a) = never
stands_once false (Copy LocalMemory ty a) = never
stands_once false (Copy PrivateMemory ty a) = stands_once true a

in_group_once : {A : Type 0} → (w : Bool) (t : Term A) → IsProp (StandsInGroup w t)
in_group_once true (Literal c) = never
in_group_once true (Bound v) = never
in_group_once true (Source v) = never
in_group_once true (Apply o a b) = never
in_group_once true (ApplyNumber o n a) = never
in_group_once true (ApplyLanes o l r a b) = never
in_group_once true (DivideLanes o n a) = never
in_group_once true (Select c a b) = never
in_group_once true (Both z a b) = never
in_group_once true (Project s a) = never
in_group_once true (Reshape y t) = ×_prop (invertible_once y) (in_group_once true t)
in_group_once true (LetArray v b) = ×_prop (in_group_once false v) (in_group_once true b)
in_group_once true (LetElement ty v b) = never
in_group_once true (Map (Over Items X) n loads xs b) = ×_prop (in_group_once false xs) (stands_once true b)
in_group_once true (Map Sequential n loads xs b) = never
in_group_once true (Map (Over _ _) n loads xs b) = never
in_group_once true (Fold n loads ty xs s b) = never
in_group_once true (Store ty a) = never
in_group_once true (Copy space ty a) = never
in_group_once false (Literal c) = never
in_group_once false (Bound v) = Unit-prop
in_group_once false (Source v) = Unit-prop
in_group_once false (Apply o a b) = never
in_group_once false (ApplyNumber o n a) = never
in_group_once false (ApplyLanes o l r a b) = never
in_group_once false (DivideLanes o n a) = never
in_group_once false (Select c a b) = never
in_group_once false (Both true a b) = ×_prop (in_group_once false a) (in_group_once false b)
in_group_once false (Both false a b) = never
in_group_once false (Project s a) = in_group_once false a
in_group_once false (Reshape y a) = in_group_once false a
in_group_once false (LetArray v b) = ×_prop (in_group_once false v) (in_group_once false b)
in_group_once false (LetElement ty v b) = never
in_group_once false (Map k n loads xs b) = never
in_group_once false (Fold n loads ty xs s b) = never
in_group_once false (Store ty a) = never
in_group_once false (Copy LocalMemory ty a) = in_group_once true a
in_group_once false (Copy PrivateMemory ty a) = never

of_inputs_once : {A : Type 0} → (t : Term A) → IsProp (IsOfInputs t)
of_inputs_once (Literal c) = never
of_inputs_once (Bound v) = Unit-prop
of_inputs_once (Source v) = Unit-prop
of_inputs_once (Apply o a b) = never
of_inputs_once (ApplyNumber o n a) = never
of_inputs_once (ApplyLanes o l r a b) = never
of_inputs_once (DivideLanes o n a) = never
of_inputs_once (Select c a b) = never
of_inputs_once (Both true a b) = ×_prop (of_inputs_once a) (of_inputs_once b)
of_inputs_once (Both false a b) = never
of_inputs_once (Project s a) = of_inputs_once a
of_inputs_once (Reshape y a) = of_inputs_once a
of_inputs_once (LetArray v b) = ×_prop (of_inputs_once v) (of_inputs_once b)
of_inputs_once (LetElement ty v b) = never
of_inputs_once (Map k n loads xs b) = never
of_inputs_once (Fold n loads ty xs s b) = never
of_inputs_once (Store ty a) = never
of_inputs_once (Copy space ty a) = never

pub over_groups_once : {A : Type 0} → (t : Term A) → IsProp (StandsOverGroups t)
over_groups_once (Literal c) = never
over_groups_once (Bound v) = never
over_groups_once (Source v) = never
over_groups_once (Apply o a b) = never
over_groups_once (ApplyNumber o n a) = never
over_groups_once (ApplyLanes o l r a b) = never
over_groups_once (DivideLanes o n a) = never
over_groups_once (Select c a b) = never
over_groups_once (Both z a b) = never
over_groups_once (Project s a) = never
over_groups_once (Reshape y t) = ×_prop (invertible_once y) (over_groups_once t)
over_groups_once (LetArray v b) = ×_prop (of_inputs_once v) (over_groups_once b)
over_groups_once (LetElement ty v b) = never
over_groups_once (Map (Over Groups X) n loads xs b) = ×_prop (of_inputs_once xs) (in_group_once true b)
over_groups_once (Map Sequential n loads xs b) = never
over_groups_once (Map (Over _ _) n loads xs b) = never
over_groups_once (Fold n loads ty xs s b) = never
over_groups_once (Store ty a) = never
over_groups_once (Copy space ty a) = never

along_row_once : {A : Type 0} → (t : Term A) → IsProp (StandsAlongRow t)
along_row_once (Reshape y t) = ×_prop (invertible_once y) (along_row_once t)
along_row_once (Map (Over Items X) n loads xs b) = ×_prop (of_inputs_once xs) (stands_once true b)
along_row_once _ = never

in_grid_once : {A : Type 0} → (w : Bool) (t : Term A) → IsProp (StandsInGrid w t)
in_grid_once true (Reshape y t) = ×_prop (invertible_once y) (in_grid_once true t)
in_grid_once true (LetArray v b) = ×_prop (in_grid_once false v) (in_grid_once true b)
in_grid_once true (Map (Over Items Y) n loads xs b) = ×_prop (in_grid_once false xs) (along_row_once b)
in_grid_once true _ = never
in_grid_once false (Bound v) = Unit-prop
in_grid_once false (Source v) = Unit-prop
in_grid_once false (Both true a b) = ×_prop (in_grid_once false a) (in_grid_once false b)
in_grid_once false (Project s a) = in_grid_once false a
in_grid_once false (Reshape y a) = in_grid_once false a
in_grid_once false (LetArray v b) = ×_prop (in_grid_once false v) (in_grid_once false b)
in_grid_once false (Copy LocalMemory ty a) = in_grid_once true a
in_grid_once false _ = never

along_groups_once : {A : Type 0} → (t : Term A) → IsProp (StandsAlongGroups t)
along_groups_once (Reshape y t) = ×_prop (invertible_once y) (along_groups_once t)
along_groups_once (Map (Over Groups X) n loads xs b) = ×_prop (of_inputs_once xs) (in_grid_once true b)
along_groups_once _ = never

pub over_grid_once : {A : Type 0} → (t : Term A) → IsProp (StandsOverGrid t)
over_grid_once (Reshape y t) = ×_prop (invertible_once y) (over_grid_once t)
over_grid_once (LetArray v b) = ×_prop (of_inputs_once v) (over_grid_once b)
over_grid_once (Map (Over Groups Y) n loads xs b) = ×_prop (of_inputs_once xs) (along_groups_once b)
over_grid_once _ = never
