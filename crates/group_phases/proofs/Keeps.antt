-- The headline from chunks that leave what is wanted.
use Rattle.std.proofs.Common.{◌≡◌, ◌∙◌, ℕ, List, Some, sym, ap, subst, arith}
use Rattle.std.specs.Prelude.{length, map}
use Rattle.std.proofs.lemmas.Bool.{and_parts}
use Rattle.kernel_tree.specs.Code.{Kernel}
use Rattle.kernel_tree.specs.Launch.{Launch, Cells, IsWhole}
use Rattle.kernel_tree.specs.Device.{Device, Cell, same_cell, device_of, AllEnded}
use Rattle.kernel_tree.specs.Independent.{is_write}
use Rattle.kernel_tree.specs.Chunks.{AsChunked}
use Rattle.kernel_tree.proofs.Bound.{within_bound}
use Rattle.kernel_tree.proofs.Chunks.{as_chunked}
use Rattle.kernel_tree.proofs.Confluence.{same_cell-true}
use Rattle.printed_form.specs.Headline.{output_cell, EveryRunKeeps}
use Rattle.group_phases.specs.Outcome.{LeavesOutputs, SomeRunLeaves}

pub keeps_from_chunks : (k : Kernel) (l : Launch) (c : Cells) (owner : ℕ → ℕ → ℕ) (wanted : List (List ℕ)) → IsWhole l → map length wanted ≡ map length c.outs → SomeRunLeaves k l c owner wanted → EveryRunKeeps k l c owner wanted
keeps_from_chunks k l c owner wanted whole shape leads s es start r = record {
  leaves = record {
    shape = shape;
    faultless = told.every.faultless es r;
    bounded = within_bound k l c s es whole start r (told.every.faultless es r).no_failure;
    at_most_once = λ a i. let x = told.every.count es r (is_write (output_cell a i)) in let y = told.counted (output_cell a i) in let z = o.at_most_once a i in omega arith;
    ended = λ stuck. subst (AllEnded d) (sym (told.every.ends es r stuck ∙ told.ends)) o.ended;
    once = λ stuck a i lt. told.every.end_count es r stuck (is_write (output_cell a i)) ∙ told.counted (output_cell a i) ∙ o.once a i lt;
    left = λ stuck a i lt. ap (λ t. t.memory (output_cell a i)) (told.every.ends es r stuck ∙ told.ends) ∙ o.left a i lt;
  };
  by_owner = λ x among a i w.
      let parts = and_parts x.writes (same_cell x.cell (output_cell a i)) w in
      owner_is a i x.epoch x.item x.cell (same_cell-true x.cell (output_cell a i) parts.1) ((told.timely x (told.every.among es r x among)).writes parts.0);
}
  where
    d : Device
    d = device_of k l c

    o : LeavesOutputs (device_of k l c) owner wanted s
    o = leads s start

    told : AsChunked (leads s start).phases (device_of k l c) s (leads s start).end (leads s start).chunks
    told = as_chunked (leads s start).phases (device_of k l c) s (leads s start).end (leads s start).chunks whole (leads s start).chunked (leads s start).ended

    some_is : (i j : ℕ) → Some i ≡ Some j → i ≡ j
    some_is i j e = cc

    owner_is : (a i e j : ℕ) (b : Cell) → b ≡ output_cell a i → (leads s start).phases.owner e b ≡ Some j → j ≡ owner a i
    owner_is a i e j b q x = some_is j (owner a i) (sym x ∙ ap ((leads s start).phases.owner e) q ∙ (leads s start).owned e a i)
