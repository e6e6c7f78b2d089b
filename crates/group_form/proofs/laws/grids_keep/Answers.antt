use Rattle.std.specs.Prelude.{List}
use Rattle.size_arith.specs.declared.poly.Monomial.{Monomial}
use Rattle.group_phases.specs.GridPrinted.{GridPhasesKeep}
use Rattle.group_form.specs.GridTheorem.{SeparatedGridsKeep}
use Rattle.group_form.proofs.GridAlike.{grid_codes_alike}
use Rattle.group_form.proofs.GridNeeded.{grid_uses_can_be_placed, needed_keep_apart, needed_grids_keep}
use Rattle.group_form.proofs.GridWhole.{separated_keep, separated_serve}
use Rattle.group_form.proofs.laws.grids_keep.Goals as goal

keeps : GridPhasesKeep (List Monomial) → SeparatedGridsKeep (List Monomial)
keeps keep = λ num forms l src ins sources fence t ty k cells lists printed apart shape listed. separated_keep num forms l src ins sources fence t ty k cells lists printed shape listed keep apart

pub returns-clause-needed : goal.returns-clause-needed
returns-clause-needed c = needed_grids_keep (List Monomial) (keeps c.grid_phases_keep.ensures.keep) (needed_keep_apart c.needed_barriers_separate.ensures (List Monomial))

pub returns-clause-separated : goal.returns-clause-separated
returns-clause-separated c = keeps c.grid_phases_keep.ensures.keep

pub returns-clause-serve : goal.returns-clause-serve
returns-clause-serve c = λ num forms l src ins sources fence t ty k cells lists printed apart shape listed. separated_serve num forms l src ins sources fence t ty k cells lists printed shape listed c.grid_phases_keep.ensures.serve apart

pub returns-clause-apart : goal.returns-clause-apart
returns-clause-apart c = needed_keep_apart c.needed_barriers_separate.ensures (List Monomial)

pub returns-clause-placed : goal.returns-clause-placed
returns-clause-placed c = grid_uses_can_be_placed (List Monomial)

pub returns-clause-alike : goal.returns-clause-alike
returns-clause-alike c = grid_codes_alike (List Monomial)
