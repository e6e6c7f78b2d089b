-- Programs, wherever they lie in memory.
use Rattle.std.specs.Prelude.{ℕ, List, map}
use Rattle.lift_tree.specs.declared.program.Size.{Size}
use Rattle.lift_tree.specs.declared.program.Input.{Input}
use Rattle.lift_tree.specs.declared.program.Program.{Program}
use Rattle.lift_tree.specs.InputTypes.{Written, written_of}
use Rattle.lift_tree.specs.Tree.{Tree, tree_of}

-- an input's name, and its type as written
pub record PlainInput : Type 0 where
  pub name : List ℕ
  pub ty : Written

-- the declared sizes, the inputs, and the term
pub record PlainProgram : Type 0 where
  pub sizes : List Size
  pub inputs : List PlainInput
  pub body : Tree

-- the input that lies in memory
abbrev pub input_of : Input → PlainInput
input_of i = record { name = i.name; ty = written_of i.ty }

-- the program that lies in memory
abbrev pub program_of : Program → PlainProgram
program_of p =
    record { sizes = p.sizes.items; inputs = map input_of p.inputs.items; body = tree_of p.body }
