use Rattle.std.proofs.Common.{◌∙◌, ap, ◌++◌}
use Rattle.std.specs.Prelude.{codes}
use Rattle.std.proofs.lemmas.List.{append_assoc}
use Rattle.kernel_tree.specs.KernelText.{indent}
use Rattle.kernel_printer.proofs.Blocks.{indent_more}
use Rattle.kernel_printer.proofs.text.print_indent.Goals as goal

pub loop-i-preserved : goal.loop-i-preserved
loop-i-preserved c =
    let front = c.args.text.now.items in
    c.in_ok-extend_from_slice.ensures.items
    ∙ ap (λ z. z ++ codes "  ") c.loop-i.invariant
    ∙ append_assoc front (indent c.loop-i._i) (codes "  ")
    ∙ ap (λ z. front ++ z) (indent_more c.loop-i._i)
