-- Which arguments there are in a map over work-groups.
use Rattle.std.proofs.Common.{true, false, refl}
use Rattle.lift_ir.specs.Forms.{Stands}
use Rattle.lift_ir.specs.Terms.{LocalMemory, Term, Bound, Source, Both, Project, Reshape, LetArray, Copy}
use Rattle.printed_form.specs.Arguments.{local_arrays}
use Rattle.printed_form.proofs.Arguments.{IsArgument}
use Rattle.group_form.specs.Forms.{StandsInGroup, IsOfInputs}

-- for the items of a group together
pub group_argument : {A : Type 0} (t : Term A) → StandsInGroup false t → IsArgument local_arrays t
group_argument (Bound v) sd = tt
group_argument (Source s) sd = tt
group_argument (Both true x y) sd = (group_argument x sd.0, group_argument y sd.1)
group_argument (Project s x) sd = group_argument x sd
group_argument (Reshape y x) sd = group_argument x sd
group_argument (LetArray v b) sd = (group_argument v sd.0, group_argument b sd.1)
group_argument (Copy LocalMemory ty x) sd = refl
group_argument _ sd = absurd sd

-- inputs alone are arguments of a work-item too
pub inputs_stand : {A : Type 0} (t : Term A) → IsOfInputs t → Stands false t
inputs_stand (Bound v) h = tt
inputs_stand (Source v) h = tt
inputs_stand (Both true x y) h = (inputs_stand x h.0, inputs_stand y h.1)
inputs_stand (Project s x) h = inputs_stand x h
inputs_stand (Reshape y x) h = inputs_stand x h
inputs_stand (LetArray v b) h = (inputs_stand v h.0, inputs_stand b h.1)
inputs_stand _ h = absurd h
