-- What the code's reading has noted, wherever it lies in memory.
use Rattle.std.specs.Prelude.{ℕ, map}
use Rattle.std.specs.Global.{Vec}
use Rattle.lift_tree.specs.Tree.{tree_of}
use Rattle.lift_tree.specs.declared.input_type.InputType.{InputType}
use Rattle.lift_tree.specs.declared.program.Input.{Input}
use Rattle.lift_tree.specs.declared.program.Size.{Size}
use Rattle.lift_tree.specs.InputTypes.{written_of}
use Rattle.lift_tree.specs.Programs.{input_of}
use Rattle.lift_reader.specs.declared.reader.Range.{Range}
use Rattle.lift_reader.specs.declared.reader.Reader.{Reader}
use Rattle.lift_reader.specs.Grammar.{Noted}

-- the size that a name declares with its range
abbrev pub declared_size : Vec ℕ × Range → Size
declared_size e = record { name = e.0.items; multiple = e.1.multiple; from = e.1.from; to = e.1.to }

-- the input that a name declares with its type
abbrev pub declared_input : Vec ℕ × InputType → Input
declared_input e = record { name = e.0.items; ty = e.1 }

-- the grammar's notes that a reader's state holds
abbrev pub noted_by : Reader → Noted
noted_by r = record {
  sizes = map declared_size r.sizes.entries;
  inputs = map input_of (map declared_input r.inputs.entries);
  scope = map (λ x. x.now) r.scope.items;
  types = map written_of r.types.items;
  products = r.products.items;
  parts = r.parts.items;
  made = map tree_of r.made.items;
}
