use Rattle.std.proofs.Common.{◌∙◌, ap}
use Rattle.launch_file.proofs.Texts.{text_first, text_more, text_done}
use Rattle.launch_file.proofs.result.+push_value.Goals as goal
use Rattle.launch_file.proofs.result.+push_value.Goals.{then-index-gt0+in_ok-push-in-List-2, else-index-gt0}

pub loop-index-preserved : goal.loop-index-preserved
loop-index-preserved t c =
    elim c.if-index-gt0.branch [
      | then-index-gt0+in_ok-push-in-List-2 w ↦
          text_more _ _ _ _ _ _ _ c.member-item.is w.if-index-gt0.true c.loop-index-test.true c.loop-index.invariant (ap (λ v. v.items) w.text-is ∙ w.in_ok-push-in-List-2.ensures.items) c.in_ok-push_value-in-List.ensures
      | else-index-gt0 w ↦
          text_first _ _ _ _ _ _ _ c.member-item.is w.if-index-gt0.false c.loop-index-test.true c.loop-index.invariant (ap (λ v. v.items) w.text-is) c.in_ok-push_value-in-List.ensures
    ]

pub returns-in_ok-push-in-List-3 : goal.returns-in_ok-push-in-List-3
returns-in_ok-push-in-List-3 t c =
    text_done _ _ _ _ _ c.in-List.members _ _ c.in-List.is c.deref-member-items.ensures.value c.loop-index-test.false c.in_ok-push-in-List.ensures.items c.loop-index.invariant c.in_ok-push-in-List-3.ensures.items
