use Rattle.std.proofs.Common.{◌≡◌, ◌∙◌, ◌+◌, ◌++◌, ℕ, ap, arith, get_or}
use Rattle.lift_tree.specs.Values.{Value, Word, array}
use Rattle.value_lists.specs.Lists.{members_from}
use Rattle.launch_file.specs.ResultLine.{value_text}
use Rattle.launch_file.proofs.Listed.{listed_done, listed_first, listed_more}
use Rattle.launch_file.proofs.result.with_numbers.Goals as goal
use Rattle.launch_file.proofs.result.with_numbers.Goals.{then-index-gt0+in_ok-push-2, else-index-gt0}
use Rattle.launch_file.proofs.result.with_numbers.Goals.{then-number-ge10+in_ok-longer, else-number-ge10+in_ok-push_digit}

pub loop-index-preserved : goal.loop-index-preserved
loop-index-preserved c =
    let f : ℕ → Value = λ j. Word (get_or c.args.numbers.now (c.args.first + j) 0) in
    let wrote : c.if-number-ge10.longer.items ≡ c.if-index-gt0.longer.items ++ value_text (f c.loop-index.index) = elim c.if-number-ge10.branch [
      | then-number-ge10+in_ok-longer w ↦ ap (λ v. v.items) w.longer-is ∙ w.in_ok-longer.ensures
      | else-number-ge10+in_ok-push_digit w ↦ cc (ap (λ v. v.items) w.longer-is, w.in_ok-push_digit.ensures, w.from.ensures)
    ] in
    elim c.if-index-gt0.branch [
      | then-index-gt0+in_ok-push-2 w ↦
          listed_more f _ _ _ _ _ w.if-index-gt0.true c.loop-index.invariant (ap (λ v. v.items) w.longer-is ∙ w.in_ok-push-2.ensures.items) wrote
      | else-index-gt0 w ↦
          listed_first f _ _ _ _ _ w.if-index-gt0.false c.loop-index.invariant (ap (λ v. v.items) w.longer-is) wrote
    ]

pub returns : goal.returns
returns c =
    let f : ℕ → Value = λ j. Word (get_or c.args.numbers.now (c.args.first + j) 0) in
    let done : c.loop-index.index ≡ c.args.count = omega (arith, c.loop-index-test.false, c.loop-index.auto.index-end) in
    listed_done f _ _ _ _ c.loop-index.index c.in_ok-push.ensures.items c.loop-index.invariant c.in_ok-push-3.ensures.items
    ∙ ap (λ n. c.args.text.items ++ value_text (array (members_from f 0 n))) done
