-- The headline from histories.
use Rattle.std.proofs.Common.{◌≡◌, ◌∙◌, ℕ, List, sym, ap, subst, arith}
use Rattle.std.specs.Prelude.{length, map}
use Rattle.kernel_tree.specs.Code.{Kernel}
use Rattle.kernel_tree.specs.Launch.{Launch, Cells, IsWhole}
use Rattle.kernel_tree.specs.Device.{device_of, AllEnded}
use Rattle.kernel_tree.specs.EveryRun.{EveryRun}
use Rattle.kernel_tree.specs.Alike.{Histories, Enacts, CountsAs}
use Rattle.kernel_tree.proofs.Bound.{within_bound}
use Rattle.kernel_tree.proofs.EveryRun.{every_run}
use Rattle.kernel_tree.proofs.Alike.{counts_as}
use Rattle.printed_form.specs.Headline.{output_cell, EveryRunKeeps}
use Rattle.printed_form.specs.FromHistories.{writes_cell, WritesOutputs, EnactsAndLeaves}

pub keeps_from : (k : Kernel) (l : Launch) (c : Cells) (h : Histories) (owner : ℕ → ℕ → ℕ) (wanted : List (List ℕ)) → IsWhole l → map length wanted ≡ map length c.outs → WritesOutputs l h owner wanted
    → EnactsAndLeaves k l c h wanted → EveryRunKeeps k l c owner wanted
keeps_from k l c h owner wanted whole shape writes enacts s es start r = record {
  leaves = record {
    shape = shape;
    faultless = every.faultless es r;
    bounded = within_bound k l c s es whole start r (every.faultless es r).no_failure;
    at_most_once = λ a i. let x = counts.total_at_most es r (writes_cell (output_cell a i)) in let y = writes.at_most_once a i in omega (arith, x, y);
    ended = λ stuck. subst (AllEnded (device_of k l c)) (sym (every.ends es r stuck)) told.completes.ended;
    once = λ stuck a i lt. counts.total_in_all es r stuck (writes_cell (output_cell a i)) ∙ writes.once a i lt;
    left = λ stuck a i lt. ap (λ t. t.memory (output_cell a i)) (every.ends es r stuck) ∙ (enacts s start).1 a i lt;
  };
  by_owner = λ x among a i w. let b = counts.by_item es r x among in writes.by_owner x.item b.0 a i (b.1 (writes_cell (output_cell a i)) w);
}
  where
    told : Enacts (device_of k l c) s h
    told = (enacts s start).0

    every : EveryRun (device_of k l c) s told.events
    every = every_run (device_of k l c) whole s told.events told.completes

    counts : CountsAs (device_of k l c) s h
    counts = counts_as (device_of k l c) whole s h told
