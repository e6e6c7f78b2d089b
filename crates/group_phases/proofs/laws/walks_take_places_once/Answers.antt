use Rattle.std.specs.Prelude.{List}
use Rattle.size_arith.specs.declared.poly.Monomial.{Monomial}
use Rattle.group_phases.proofs.NestRows.{maps_are_nests}
use Rattle.group_phases.proofs.Grids.{place_below, taken_on, taken_once, on_taken, one_row_walked}
use Rattle.group_phases.proofs.laws.walks_take_places_once.Goals as goal

pub returns-clause-on_it : goal.returns-clause-on_it
returns-clause-on_it c = λ g w is t lt. (place_below g w is t lt, taken_on g w is t lt)

pub returns-clause-once : goal.returns-clause-once
returns-clause-once c = taken_once

pub returns-clause-each : goal.returns-clause-each
returns-clause-each c = on_taken

pub returns-clause-one_row : goal.returns-clause-one_row
returns-clause-one_row c = one_row_walked

pub returns-clause-one_map : goal.returns-clause-one_map
returns-clause-one_map c = maps_are_nests (List Monomial)
