use Rattle.std.proofs.Common.{map, refl}
use Rattle.lift_tree.specs.WorkedOut.{range_of}
use Rattle.program_runs.proofs.Buffers.{held_first}
use Rattle.program_runs.proofs.cells.input_lists.Goals as goal

pub returns : goal.returns
returns c =
    let names = map range_of c.args.program.now.sizes.items in
    held_first _ names _ _ _ _ _ _ c.new-lists.ensures.items c.deref.ensures.value refl (c.in_ok-add_inputs.ensures names)
