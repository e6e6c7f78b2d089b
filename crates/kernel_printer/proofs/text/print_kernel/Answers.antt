use Rattle.std.proofs.Common.{[], ◌∙◌, ap, sym, ◌-◌, ◌++◌, ◌≡◌}
use Rattle.std.specs.Prelude.{codes}
use Rattle.kernel_tree.specs.Code.{End}
use Rattle.kernel_tree.specs.Pieces.{joined}
use Rattle.kernel_tree.specs.Tree.{code_then}
use Rattle.kernel_spelling.specs.Spelling.{spell_code}
use Rattle.kernel_printer.specs.Bytes.{write_inputs, write_outputs, write_sizes, write_locals, write_privates, write_variables, write_vectors, write_head}
use Rattle.kernel_printer.proofs.text.print_kernel.Goals as goal

pub returns-clause-text : goal.returns-clause-text
returns-clause-text c =
    let k = c.args.kernel.now in
    let opened : c.extend_from_slice.new.self.items ≡ write_sizes (write_outputs (write_inputs (write_head c.args.name.now k.local) k.inputs) (k.outputs - 1)) k.sizes ++ codes ")\n{\n" =
    c.in_ok-extend_from_slice.ensures.items
    ∙ ap (λ z. z ++ codes ")\n{\n") (c.in_ok-print_sizes.ensures
    ∙ ap (λ z. write_sizes z k.sizes) (c.in_ok-print_outputs.ensures
    ∙ ap (λ z. write_outputs z (k.outputs - 1)) (c.in_ok-print_inputs.ensures
    ∙ ap (λ z. write_inputs z k.inputs) c.in_ok-text.ensures))) in
    let locals = c.in_ok-print_arrays.ensures ∙ ap (λ z. write_locals c.extend_from_slice.new.self.items z) c.deref.ensures.value ∙ ap (λ z. write_locals z k.locals.items) opened in
    let privates = c.in_ok-print_arrays-2.ensures ∙ ap (λ z. write_privates c.print_arrays.new.text.items z) c.deref-2.ensures.value ∙ ap (λ z. write_privates z k.privates.items) locals in
    let variables = c.in_ok-print_variables.ensures ∙ ap (λ z. write_variables z k.variables) privates in
    let vectors = c.in_ok-print_vectors.ensures ∙ ap (λ z. write_vectors z k.vectors) variables in
    c.in_ok-print_end.ensures
    ∙ sym (c.in_ok-print_block.ensures End [])
    ∙ ap (λ z. c.print_vectors.new.text.items ++ joined (spell_code 0 0 (code_then z End) [])) c.deref-3.ensures.value
    ∙ ap (λ z. z ++ joined (spell_code 0 0 (code_then k.body.items End) [])) vectors
