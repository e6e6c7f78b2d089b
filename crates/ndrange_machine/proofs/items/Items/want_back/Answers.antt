use Rattle.std.proofs.Common.{◌∙◌, ap}
use Rattle.kernel_tree.specs.Launch.{ids_of}
use Rattle.ndrange_machine.specs.Known.{known}
use Rattle.ndrange_machine.specs.Wants.{want_tail}
use Rattle.ndrange_machine.proofs.items.Items.want_back.Goals as goal

pub returns : goal.returns
returns c = λ it e.
    let lines = c.args.lines.now in
    let head = c.args.head in
    c.want_at_tail.ensures
    ∙ ap (λ z. want_tail lines (known c.of_item.result z) head c.turns.result.now) (c.deref.ensures.value ∙ ap (λ v. v.sizes) c.launch.view_is)
    ∙ ap (λ z. want_tail lines z head c.turns.result.now) c.of_item.ensures
    ∙ ap (want_tail lines (ids_of c.args.launch.now c.args.item) head) (c.turns.ensures it e)
