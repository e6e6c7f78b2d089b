use Rattle.std.proofs.Common.{◌∙◌, subst, []}
use Rattle.readings.specs.Readings.{Reads}
use Rattle.kernel_tree.specs.KernelText.{kernels, start, nothing}
use Rattle.kernel_reader.specs.Noted.{notes_of}
use Rattle.kernel_reader.proofs.Found.{no_rest}
use Rattle.kernel_reader.proofs.Whole.{some_block, is_made}
use Rattle.kernel_reader.proofs.read.kernel_from.Goals as goal

pub unreachable-requires : goal.unreachable-requires
unreachable-requires c =
    let r = c.requires in
    some_block c.args.made (c.whole_readings.ensures.made r.0 r.1 (notes_of c.args.made) r.2) (no_rest _ (c.in_default.ensures.items ∙ c.in_default.ensures.rest))

pub returns : goal.returns
returns c =
    let r = c.requires in
    is_made c.args.made c.in-Some.block c.pop_front.new.self.items c.in_ok-body.body.items (c.whole_readings.ensures.made r.0 r.1 (notes_of c.args.made) r.2) c.in-Some.ensures.items c.in_ok-body.ensures

pub invariant_of-result : goal.invariant_of-result
invariant_of-result c =
    let r = c.requires in
    let made = is_made c.args.made c.in-Some.block c.pop_front.new.self.items c.in_ok-body.body.items (c.whole_readings.ensures.made r.0 r.1 (notes_of c.args.made) r.2) c.in-Some.ensures.items c.in_ok-body.ensures in
    let text = c.whole_readings.ensures.has_text r.0 r.1 _ (subst (λ n. Reads kernels (start r.0) nothing r.1 [] n) made r.2) in
    record { in_grammar = text.in_grammar; few_arrays = (text.locals, text.privates) }
