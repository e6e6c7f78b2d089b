use Rattle.std.proofs.Common.{◌∙◌, sym, ap, length}
use Rattle.serde_json.specs.View.{items_view, view}
use Rattle.lift_tree.specs.InputTypes.{written_of}
use Rattle.launch_file.specs.Inputs.{read_all, read_value}
use Rattle.launch_file.proofs.ReadValues.{array_read}
use Rattle.launch_file.proofs.values.+reading.Goals as goal

pub value_in-returns-in_ok-members_in-in-Array : goal.value_in-returns-in_ok-members_in-in-Array
value_in-returns-in_ok-members_in-in-Array t c =
    array_read c.args.sizes.now (written_of c.in-Array.element.value) (written_of c.args.ty.now) c.in-Array.length (view c.args.value.now) c.in-Some-as_array.values.now.items c.deref-in-Array-2.result.now _ _
    (ap written_of c.in-Array.is) c.in-Some-as_array.ensures c.deref-in-Array-2.ensures.value
    (sym (ap length c.deref-in-Array-2.ensures.value) ∙ c.deref-in-Array-2.ensures.len ∙ sym c.len.ensures ∙ c.if-len-length_at.false ∙ c.length_at.ensures)
    (c.in_ok-members_in-in-Array.ensures ∙ ap (λ a. read_all (read_value c.args.sizes.now (written_of a)) (items_view c.deref-in-Array-2.result.now)) c.deref-in-Array.ensures)
    c.array_of.ensures
