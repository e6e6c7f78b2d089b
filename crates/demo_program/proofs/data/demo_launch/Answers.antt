use Rattle.std.proofs.Common.{◌≡◌, ◌∙◌, ◌++◌, ◌∷◌, [], List, ap, map, ℕ}
use Rattle.kernel_tree.specs.Launch.{in_a_row}
use Rattle.kernel_tree.specs.Schedule.{Seed}
use Rattle.lift_tree.specs.Values.{Value, array, value_of}
use Rattle.lift_tree.specs.declared.value.Val.{Val}
use Rattle.lift_tree.specs.declared.value.Val as held
use Rattle.demo_program.specs.Data.{words_from}
use Rattle.demo_program.proofs.data.demo_launch.Goals as goal

pub returns : goal.returns
returns c =
    let seed = c.args.seed in
    let words : c.push.new.self.items ≡ 4096 ∷ [] = c.in_ok-push.ensures.items ∙ ap (λ (ns : List ℕ). ns ++ 4096 ∷ []) c.new-words.ensures.items in
    let only : c.push-2.new.self.items ≡ held.List c.in_ok-data.field-0 ∷ [] =
    c.in_ok-push-2.ensures.items ∙ ap (λ (vs : List Val). vs ++ held.List c.in_ok-data.field-0 ∷ []) c.new-inputs.ensures.items in
    let values : map value_of c.push-2.new.self.items ≡ array (words_from seed 0 4096) ∷ [] =
    ap (map value_of) only ∙ ap (λ (v : Value). v ∷ []) (c.lists_are_arrays.ensures c.in_ok-data.field-0 ∙ ap array c.in_ok-data.ensures) in
    λ i. record { launch = in_a_row 256 32 (words i); bases = c.in_ok-sizes.ensures i; inputs = values i; schedule = Seed seed }
