use Rattle.std.proofs.Common.{◌∙◌, length, ap, arith}
use Rattle.std.specs.Prelude.{slice_set}
use Rattle.count_tree.proofs.Sums.{one_more, none_set}
use Rattle.count_tree.proofs.counts.set_first.Goals as goal

pub loop-place-init : goal.loop-place-init
loop-place-init c = c.requires.none ∙ none_set (length c.args.flags.now)

pub loop-place-preserved : goal.loop-place-preserved
loop-place-preserved c = ap (λ xs. slice_set xs c.loop-place.place 1) c.loop-place.invariant ∙ one_more c.loop-place.place (length c.args.flags.now) (let a = c.loop-place-test.true in let b = c.requires.within in omega arith)
