use Rattle.count_tree.proofs.places.Places.set.Given as goal

abbrev pub ghosts-first_after : goal.ghosts-first_after
ghosts-first_after a = record { name = a.blank.name; parts = a.blank.parts }
