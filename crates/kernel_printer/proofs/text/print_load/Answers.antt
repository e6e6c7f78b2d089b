use Rattle.kernel_tree.specs.Tree.{formula_of, array_of}
use Rattle.kernel_printer.proofs.Written.{load_put}
use Rattle.kernel_printer.proofs.text.print_load.Goals as goal

pub returns : goal.returns
returns c =
    let a = c.args in
    load_put a.place.loops a.place.nest a.variable (array_of a.array) (formula_of a.index.now) a.text.now.items c.in_ok-print_indent.ensures c.in_ok-print_name.ensures c.in_ok-extend_from_slice.ensures.items c.in_ok-print_array.ensures c.in_ok-extend_from_slice-2.ensures.items c.in_ok-print_expression.ensures c.in_ok-extend_from_slice-3.ensures.items
