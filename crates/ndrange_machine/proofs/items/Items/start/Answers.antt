use Rattle.ndrange_machine.specs.declared.items.Items.TheInside.{Inside}
use Rattle.ndrange_machine.proofs.Flat.{begun_items}
use Rattle.ndrange_machine.proofs.items.Items.start.Goals as goal

pub returns : goal.returns
returns c =
    let x : Inside = record { depth = c.args.depth; variables = c.args.variables; fours = c.args.vectors; places = c.in_ok-vec.field-0; turns = c.in_ok-vec-2.field-0; words = c.in_ok-vec-3.field-0; vectors = c.in_ok-vec-4.field-0 } in
    begun_items x c.args.count c.args.word c.spread.result (c.in_ok-vec.ensures.items_if_clones_equal (λ y e. e)) (c.in_ok-vec-3.ensures.items_if_clones_equal (λ y e. e)) (c.in_ok-vec-4.ensures.items_if_clones_equal (λ y e. e)) c.spread.ensures
