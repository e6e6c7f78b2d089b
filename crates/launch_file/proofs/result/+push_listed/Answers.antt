use Rattle.std.proofs.Common.{◌≡◌, ◌∙◌, ◌+◌, ◌*◌, ◌++◌, ℕ, Vec, ap, arith, map, sym}
use Rattle.std.specs.Global.{Global}
use Rattle.lift_tree.specs.Types.{ty_of}
use Rattle.lift_tree.specs.Values.{Value}
use Rattle.value_lists.specs.Lists.{value_in}
use Rattle.launch_file.specs.ResultLine.{value_text}
use Rattle.launch_file.proofs.Listed.{listed_array, listed_done, listed_first, listed_more}
use Rattle.launch_file.proofs.result.+push_listed.Goals as goal
use Rattle.launch_file.proofs.result.+push_listed.Goals.{then-index-gt0+in_ok-push-in-Array-2, else-index-gt0}

pub loop-index-preserved : goal.loop-index-preserved
loop-index-preserved t c =
    let rows = map (λ (x : Vec ℕ Global). x.items) c.args.lists.now in
    let f : ℕ → Value = λ j. value_in c.args.sizes.now (ty_of c.in-Array.element.value) rows c.args.component (c.args.number * c.length_at-count.result + j) in
    let wrote : c.push_listed-in-loop-index.new.text.items ≡ c.if-index-gt0.text.items ++ value_text (f c.loop-index.index) = cc (c.in_ok-push_listed-in-Array.ensures, c.deref-in-loop-index.ensures, c.element_number-at.ensures) in
    elim c.if-index-gt0.branch [
      | then-index-gt0+in_ok-push-in-Array-2 w ↦
          listed_more f _ _ _ _ _ w.if-index-gt0.true c.loop-index.invariant (ap (λ v. v.items) w.text-is ∙ w.in_ok-push-in-Array-2.ensures.items) wrote
      | else-index-gt0 w ↦
          listed_first f _ _ _ _ _ w.if-index-gt0.false c.loop-index.invariant (ap (λ v. v.items) w.text-is) wrote
    ]

pub returns-in_ok-push-in-Array-3 : goal.returns-in_ok-push-in-Array-3
returns-in_ok-push-in-Array-3 t c =
    let rows = map (λ (x : Vec ℕ Global). x.items) c.args.lists.now in
    let ys = c.args.sizes.now in
    let f : ℕ → Value = λ j. value_in ys (ty_of c.in-Array.element.value) rows c.args.component (c.args.number * c.length_at-count.result + j) in
    let done : c.loop-index.index ≡ c.length_at-count.result = omega (arith, c.loop-index-test.false, c.loop-index.auto.index-end) in
    listed_array ys (ty_of c.in-Array.element.value) c.in-Array.length rows c.args.component c.args.number c.length_at-count.result c.loop-index.index _ _ c.length_at-count.ensures done
    (listed_done f _ _ _ _ c.loop-index.index c.in_ok-push-in-Array.ensures.items c.loop-index.invariant c.in_ok-push-in-Array-3.ensures.items)
    ∙ ap (λ ty. c.args.text.now.items ++ value_text (value_in ys (ty_of ty) rows c.args.component c.args.number)) (sym c.in-Array.is)
