-- The law of `footprints`, by the lemmas beside.
use Rattle.kernel_tree.proofs.Footprints.{by_groups, by_items, groups_apart, items_apart}
use Rattle.kernel_tree.proofs.laws.footprints.Goals as goal

pub returns-clause-groups_apart : goal.returns-clause-groups_apart
returns-clause-groups_apart c = λ d s es whole r ok. groups_apart d whole s es ok.no_race

pub returns-clause-groups : goal.returns-clause-groups
returns-clause-groups c = λ d s es fs whole r ok keeps. by_groups d whole s es fs r ok keeps

pub returns-clause-items_apart : goal.returns-clause-items_apart
returns-clause-items_apart c = λ d s ks whole r ok. items_apart d whole s ks ok.no_race

pub returns-clause-items : goal.returns-clause-items
returns-clause-items c = λ d s ks js whole r ok keeps. by_items d whole s ks js r ok keeps
