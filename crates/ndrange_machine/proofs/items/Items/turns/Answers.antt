use Rattle.std.proofs.Common.{◌∙◌, ap, sym, arith, length, take}
use Rattle.ndrange_machine.specs.Flat.{part}
use Rattle.ndrange_machine.proofs.Flat.{counted, has_part, item_here, inside_part}
use Rattle.ndrange_machine.proofs.items.Items.turns.Goals as goal

pub index-requires : goal.index-requires
index-requires c = let n = counted c.self.inside c.args.self.now c.self.view_is in omega (arith, n, c.requires, c.self.inside.places.ok.0)

pub part_of-requires : goal.part_of-requires
part_of-requires c =
    let x = c.self.inside in
    let le = has_part x c.args.self.now c.self.view_is x.turns.items x.depth c.args.item c.self.invariant.turns c.requires in
    omega (arith, le, ap length c.deref.ensures.value)

pub slice_bounds-result-end : goal.slice_bounds-result-end
slice_bounds-result-end c =
    let x = c.self.inside in
    inside_part x c.args.self.now c.self.view_is c.self.invariant c.args.item c.index.result.now c.requires c.index.ensures c.part_of.result.now
    (c.part_of.ensures ∙ ap (λ z. part z x.depth c.args.item) c.deref.ensures.value)

pub returns : goal.returns
returns c = λ it e.
    let x = c.self.inside in
    ap (take c.index.result.now.inside) (c.part_of.ensures ∙ ap (λ z. part z x.depth c.args.item) c.deref.ensures.value)
    ∙ ap (λ v. v.turns) (sym (item_here x c.args.self.now c.self.view_is c.args.item c.index.result.now c.requires c.index.ensures it e))
