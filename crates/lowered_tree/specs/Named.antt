-- What a lowered term may name.
use Rattle.std.specs.Prelude.{map}
use Rattle.lift_tree.specs.Types.{ty_of}
use Rattle.lift_tree.specs.Typing.{Declared}
use Rattle.lowered_tree.specs.declared.lowered.Lowered.{Lowered}

-- the ranges of the sizes, and the inputs' types
abbrev pub declared_of : Lowered → Declared
declared_of l = record { names = l.names; inputs = map ty_of l.inputs.items }
