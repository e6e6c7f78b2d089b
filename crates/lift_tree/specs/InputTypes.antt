-- Types as written, wherever they lie in memory.
use Rattle.std.specs.Prelude.{List}
use Rattle.lift_tree.specs.declared.length.Part.{Part}
use Rattle.lift_tree.specs.declared.input_type.InputType as held
use Rattle.lift_tree.specs.declared.input_type.InputType.{InputType}

-- u32, a pair, or an array with its length as it is written
pub data Written : Type 0 where
  Number : Written
  Pair : Written → Written → Written
  Array : Written → List Part → Written

-- the written type that lies in memory
abbrev pub written_of : InputType → Written
written_of held.Number = Number
written_of (held.Pair' p a q b) = Pair (written_of a) (written_of b)
written_of (held.Array' p a n) = Array (written_of a) n
