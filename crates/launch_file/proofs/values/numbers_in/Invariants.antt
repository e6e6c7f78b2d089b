use Rattle.std.proofs.Common.{◌≡◌, ◌≤◌, ◌++◌, drop}
use Rattle.std.specs.Prelude.{length, map, option_map, vec_capacity, vec_len}
use Rattle.serde_json.specs.View.{items_view}
use Rattle.lift_tree.specs.Values.{Word, value_of}
use Rattle.launch_file.specs.Inputs.{read_all}
use Rattle.launch_file.specs.Json.{word_in}
use Rattle.launch_file.proofs.values.numbers_in.Given as goal

abbrev pub invariant-loop-value : goal.invariant-loop-value
invariant-loop-value l =
    (read_all (λ d. option_map Word (word_in d)) (items_view l.values)
    ≡ option_map (λ vs. map value_of l.numbers.items ++ vs) (read_all (λ d. option_map Word (word_in d)) (items_view (drop l.value-index l.values))))
    × (vec_len l.numbers ≡ l.value-index)
    × (length l.values ≤ vec_capacity l.numbers)
