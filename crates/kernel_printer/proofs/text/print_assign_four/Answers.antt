use Rattle.kernel_tree.specs.Tree.{lanes_of}
use Rattle.kernel_printer.proofs.Written.{assign_four_put}
use Rattle.kernel_printer.proofs.text.print_assign_four.Goals as goal

pub returns : goal.returns
returns c =
    let a = c.args in
    assign_four_put a.place.loops a.place.nest a.variable (lanes_of a.value.now) a.text.now.items c.in_ok-print_indent.ensures c.in_ok-print_name.ensures c.in_ok-extend_from_slice.ensures.items c.in_ok-print_lanes.ensures c.in_ok-extend_from_slice-2.ensures.items
