use Rattle.kernel_tree.specs.Tree.{formula_of, array_of}
use Rattle.kernel_printer.proofs.Written.{store_put}
use Rattle.kernel_printer.proofs.text.print_store.Goals as goal

pub returns : goal.returns
returns c =
    let a = c.args in
    store_put a.place.loops a.place.nest (array_of a.array) (formula_of a.index.now) (formula_of a.value.now) a.text.now.items c.in_ok-print_indent.ensures c.in_ok-print_array.ensures c.in_ok-extend_from_slice.ensures.items c.in_ok-print_expression.ensures c.in_ok-extend_from_slice-2.ensures.items c.in_ok-print_expression-2.ensures c.in_ok-extend_from_slice-3.ensures.items
