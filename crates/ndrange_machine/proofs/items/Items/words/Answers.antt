use Rattle.std.proofs.Common.{◌∙◌, ap, sym, arith, length}
use Rattle.ndrange_machine.specs.Flat.{part}
use Rattle.ndrange_machine.proofs.Flat.{has_part, some_item_here}
use Rattle.ndrange_machine.proofs.items.Items.words.Goals as goal

pub part_of-requires : goal.part_of-requires
part_of-requires c =
    let x = c.self.inside in
    let le = has_part x c.args.self.now c.self.view_is x.words.items x.variables c.args.item c.self.invariant.words c.requires in
    omega (arith, le, ap length c.deref.ensures.value)

pub returns : goal.returns
returns c = λ it e.
    let x = c.self.inside in
    c.part_of.ensures
    ∙ ap (λ z. part z x.variables c.args.item) c.deref.ensures.value
    ∙ ap (λ v. v.vars.words) (sym (some_item_here x c.args.self.now c.self.view_is c.args.item it e).2)
