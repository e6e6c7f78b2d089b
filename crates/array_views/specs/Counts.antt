-- Counts of private variables, as the Rust code holds them.
use Rattle.printed_form.specs.Counts as spec
use Rattle.array_views.specs.declared.count.Count.{Count}

abbrev pub count_of : Count → spec.Count
count_of n = record { words = n.words; fours = n.fours }
