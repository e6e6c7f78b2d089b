use Rattle.kernel_printer.proofs.Written.{barrier_put}
use Rattle.kernel_printer.proofs.text.print_barrier.Goals as goal

pub returns : goal.returns
returns c =
    let a = c.args in
    barrier_put a.place.loops a.place.nest a.on_local a.on_global a.text.now.items c.in_ok-print_indent.ensures c.in_ok-extend_from_slice.ensures.items c.in_ok-print_flags.ensures c.in_ok-extend_from_slice-2.ensures.items
