use Rattle.kernel_printer.proofs.Related.{related, alone}
use Rattle.kernel_printer.proofs.text.print_named.Goals as goal

pub returns-clause-text : goal.returns-clause-text
returns-clause-text c = related c.args.name.now c.args.kernel.now c.print_kernel.result c.requires c.one_text.ensures.taken c.print_kernel.ensures.text c.print_kernel.ensures.counts

pub returns-clause-only : goal.returns-clause-only
returns-clause-only c = alone c.args.name.now c.args.kernel.now c.print_kernel.result c.one_text.ensures.only c.print_kernel.ensures.text
