-- Every run of a kernel that is printed for a map over work-groups leaves the source value.
use Rattle.std.proofs.Common.{◌<◌, [], true, sym, ◌∙◌, arith}
use Rattle.barrier_placement.specs.Conflicts as placed
use Rattle.barrier_placement.specs.Laws.{NeededBarriersSeparate}
use Rattle.lift_tree.specs.Meaning.{meaning}
use Rattle.lift_tree.specs.declared.term.Level.TheVariants.{Groups, Items}
use Rattle.lift_tree.specs.declared.term.Dimension.TheVariants.{X}
use Rattle.lift_ir.specs.Scalars.{scalars_of, no_scalars, lists_of}
use Rattle.lift_ir.specs.Terms.{Over, Term, Reshape, LetArray, Map, no_type}
use Rattle.lift_ir.proofs.Meaning.{means}
use Rattle.lift_ir.proofs.Lists.{are_lists, lists_long}
use Rattle.group_phases.specs.Printed.{PhasesKeep, PhasesServe}
use Rattle.group_form.specs.Forms.{StandsInGroup, StandsOverGroups}
use Rattle.group_form.specs.Form.{is_once}
use Rattle.group_form.specs.Uses.{phases_in, phase_count, group_uses, group_touches}
use Rattle.group_form.specs.Theorem.{SeparatedGroupsKeep, SeparatedGroupsServe, NeededGroupsKeep, NeededKeepApart}
use Rattle.group_form.proofs.Uses.{all_local}
use Rattle.group_form.proofs.Form.{open_first}
use Rattle.group_form.proofs.Whole.{separated_keep, separated_serve}

-- there is a phase
some_phases : {A : Type 0} (t : Term A) → StandsInGroup true t → 0 < phases_in t
some_phases (Reshape y t) f = some_phases t f.1
some_phases (LetArray v b) f = let e = some_phases b f.1 in omega arith
some_phases (Map (Over Items X) n loads xs b) f = omega arith
some_phases _ f = absurd (assumption)

pub some_phase : {A : Type 0} (t : Term A) → StandsOverGroups t → 0 < phase_count t
some_phase (Reshape y t) f = some_phase t f.1
some_phase (LetArray v b) f = some_phase b f.1
some_phase (Map (Over Groups X) n loads xs b) f = some_phases b f.1
some_phase _ f = absurd (assumption)

pub needed_keep_apart : NeededBarriersSeparate → (A : Type 0) → NeededKeepApart A
needed_keep_apart separate A forms t fence stands needed = record {
  separates = separate (group_touches t) placed.Local (is_once forms t) (phase_count t) fence (all_local 0 (group_uses t)) needed;
  opens = open_first (group_touches t) (is_once forms t) (phase_count t) fence (some_phase t stands) needed;
}

pub separated_groups_keep : (A : Type 0) → PhasesKeep A → SeparatedGroupsKeep A
separated_groups_keep A keep num forms l src ins sources fence t ty k c lists printed apart shape listed = separated_keep num forms l src ins sources fence t ty k c lists printed shape listed keep apart

pub separated_groups_serve : (A : Type 0) → PhasesServe A → SeparatedGroupsServe A
separated_groups_serve A serve num forms l src ins sources fence t ty k c lists printed apart shape listed = separated_serve num forms l src ins sources fence t ty k c lists printed shape listed serve apart

pub needed_groups_keep : (A : Type 0) → SeparatedGroupsKeep A → NeededKeepApart A → NeededGroupsKeep A
needed_groups_keep A keep apart num forms l w source inputs src ins sources fence t ty k c lowers given printed needed =
    let v = meaning w [] source in
    let h = means num w src sources inputs given t 0 source no_type [] no_scalars ty lowers printed.made.typed (λ i lt. absurd (omega arith)) in
    keep num forms l src ins sources fence t ty k c (lists_of ty v) printed (apart forms t fence printed.stands needed) (lists_long ty v (scalars_of num sources no_scalars t) printed.made.flat_type h ∙ sym printed.made.outputs) (are_lists ty v (scalars_of num sources no_scalars t) printed.made.flat_type h)
