-- Pieces of a list that are yet to be cut.
use Rattle.std.specs.Prelude.{List, map}
use Rattle.lift_tree.specs.Lists.{pieces}
use Rattle.lift_tree.specs.Values.{Value, value_of, array}
use Rattle.pattern_value.specs.declared.layout.Pieces.{Pieces}

-- the pieces, each a list of its own
abbrev pub pieces_in : Pieces → List Value
pieces_in p = map array (pieces p.count p.size p.step (map value_of p.members.now))
