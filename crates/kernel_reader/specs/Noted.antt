-- What a reading has noted, without where it lies in memory.
use Rattle.std.specs.Prelude.{map}
use Rattle.kernel_tree.specs.Code.{End}
use Rattle.kernel_tree.specs.Tree.{formula_of, lanes_of, code_then}
use Rattle.kernel_tree.specs.KernelText.{Notes}
use Rattle.kernel_reader.specs.declared.made.Made.{Made}

-- its notes
abbrev pub notes_of : Made → Notes
notes_of m = record {
  inputs = m.inputs;
  outputs = m.outputs;
  sizes = m.sizes;
  locals = m.locals.items;
  privates = m.privates.items;
  variables = m.variables;
  vectors = m.vectors;
  local = m.local;
  values = map formula_of m.values.items;
  lanes = map lanes_of m.lanes.items;
  blocks = map (λ block. code_then block.items End) m.blocks.items;
}
