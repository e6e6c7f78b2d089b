use Rattle.std.proofs.Common.{◌∙◌, ap}
use Rattle.kernel_tree.specs.Kernels.{kernel_of}
use Rattle.kernel_tree.specs.Grammar.{is_kernel}
use Rattle.tidy_indices.specs.Places.{plain_place}
use Rattle.tidy_indices.specs.Tidy.{tidy_formula}
use Rattle.tidy_kernels.proofs.Grammar.{are_kernels}
use Rattle.tidy_kernels.proofs.Places.{whole}
use Rattle.tidy_kernels.proofs.pass.tidied.Goals as goal

pub invariant_of-result : goal.invariant_of-result
invariant_of-result c =
    let k = c.args.kernel in
    let names = c.args.names.now in
    record {
      in_grammar = ap is_kernel (whole names k.local k (plain_place c.in_ok-outermost.outermost) c.in_ok-body.body.items c.in_ok-outermost.ensures c.in_ok-body.ensures)
          ∙ are_kernels (tidy_formula names k.local) (kernel_of k) (c.tidy_formulas_are_no_larger.ensures names k.local) k.in_grammar;
      few_arrays = k.few_arrays;
    }

pub returns : goal.returns
returns c = whole c.args.names.now c.args.kernel.local c.args.kernel (plain_place c.in_ok-outermost.outermost) c.in_ok-body.body.items c.in_ok-outermost.ensures c.in_ok-body.ensures
