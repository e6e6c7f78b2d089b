use Rattle.std.proofs.Common.{◌≡◌, ◌∙◌, ◌+◌, ◌*◌, ◌++◌, ℕ, Vec, ap, arith, get_or, map}
use Rattle.std.specs.Prelude.{decimal}
use Rattle.std.specs.Global.{Global}
use Rattle.lift_tree.specs.Values.{Value, Word, array}
use Rattle.value_lists.specs.Lists.{members_from, row}
use Rattle.launch_file.specs.ResultLine.{value_text}
use Rattle.launch_file.proofs.Listed.{listed_done, listed_first, listed_more}
use Rattle.launch_file.proofs.result.push_lanes.Goals as goal
use Rattle.launch_file.proofs.result.push_lanes.Goals.{then-lane-gt0+in_ok-push-2, else-lane-gt0}

pub loop-lane-preserved : goal.loop-lane-preserved
loop-lane-preserved c =
    let list = row (map (λ (x : Vec ℕ Global). x.items) c.args.lists.now) c.args.component in
    let f : ℕ → Value = λ j. Word (get_or list (c.args.number * 4 + j) 0) in
    let number : c.from.result ≡ get_or list (c.args.number * 4 + c.loop-lane.lane) 0 =
    c.from.ensures ∙ c.number_in.ensures ∙ ap (λ k. get_or list k 0) c.element_number-at.ensures in
    let wrote : c.push_number.new.text.items ≡ c.if-lane-gt0.text.items ++ value_text (f c.loop-lane.lane) =
    c.in_ok-push_number.ensures ∙ ap (λ (n : ℕ). c.if-lane-gt0.text.items ++ decimal n) number in
    elim c.if-lane-gt0.branch [
      | then-lane-gt0+in_ok-push-2 w ↦
          listed_more f _ _ _ _ _ w.if-lane-gt0.true c.loop-lane.invariant (ap (λ v. v.items) w.text-is ∙ w.in_ok-push-2.ensures.items) wrote
      | else-lane-gt0 w ↦
          listed_first f _ _ _ _ _ w.if-lane-gt0.false c.loop-lane.invariant (ap (λ v. v.items) w.text-is) wrote
    ]

pub returns : goal.returns
returns c =
    let list = row (map (λ (x : Vec ℕ Global). x.items) c.args.lists.now) c.args.component in
    let f : ℕ → Value = λ j. Word (get_or list (c.args.number * 4 + j) 0) in
    let done : c.loop-lane.lane ≡ 4 = omega (arith, c.loop-lane-test.false, c.loop-lane.auto.lane-end) in
    listed_done f _ _ _ _ c.loop-lane.lane c.in_ok-push.ensures.items c.loop-lane.invariant c.in_ok-push-3.ensures.items
    ∙ ap (λ n. c.args.text.now.items ++ value_text (array (members_from f 0 n))) done
